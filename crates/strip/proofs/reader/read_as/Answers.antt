use Rattle.strip.specs.Entry.{read_as}
use Rattle.strip.proofs.EntryRead.{cut, uncut}
use Rattle.strip.proofs.reader.read_as.Goals as goal

pub returns-in-Unknown : goal.returns-in-Unknown
unfolding read_as
returns-in-Unknown c = rw c.in-Unknown.is

pub returns-in-Word : goal.returns-in-Word
unfolding read_as
returns-in-Word c = rw c.in-Word.is c.read_word.ensures

pub returns-in_err-size-in-Bare : goal.returns-in_err-size-in-Bare
unfolding read_as
returns-in_err-size-in-Bare c = rw (c.in-Bare.is, c.from_residual.ensures) (cut _ _ _ c.in_err-size-in-Bare.ensures.cut)

pub returns-in_ok-size-in-Bare : goal.returns-in_ok-size-in-Bare
unfolding read_as
returns-in_ok-size-in-Bare c = rw (c.in-Bare.is, c.in_ok-size-in-Bare.ensures.there.0) (uncut _ _ _ c.in_ok-size-in-Bare.ensures.there.1)

pub returns-in_err-size-in-Cell : goal.returns-in_err-size-in-Cell
unfolding read_as
returns-in_err-size-in-Cell c = rw (c.in-Cell.is, c.from_residual-in_err-size-in-Cell.ensures) (cut _ _ _ c.in_err-size-in-Cell.ensures.cut)

pub returns-in_ok-size-in-Cell : goal.returns-in_ok-size-in-Cell
unfolding read_as
returns-in_ok-size-in-Cell c = rw (c.in-Cell.is, c.in_ok-size-in-Cell.ensures.there.0) (uncut _ _ _ c.in_ok-size-in-Cell.ensures.there.1)

pub returns-in_err-size-in-Store : goal.returns-in_err-size-in-Store
unfolding read_as
returns-in_err-size-in-Store c = rw (c.in-Store.is, c.from_residual-in_err-size-in-Store.ensures) (cut _ _ _ c.in_err-size-in-Store.ensures.cut)

pub returns-in_ok-size-in-Store : goal.returns-in_ok-size-in-Store
unfolding read_as
returns-in_ok-size-in-Store c = rw (c.in-Store.is, c.in_ok-size-in-Store.ensures.there.0, c.ref_at.ensures) (uncut _ _ _ c.in_ok-size-in-Store.ensures.there.1)

pub returns-in_err-size-in-One : goal.returns-in_err-size-in-One
unfolding read_as
returns-in_err-size-in-One c = rw (c.in-One.is, c.from_residual-in_err-size-in-One.ensures) (cut _ _ _ c.in_err-size-in-One.ensures.cut)

pub returns-in_ok-size-in-One : goal.returns-in_ok-size-in-One
unfolding read_as
returns-in_ok-size-in-One c = rw (c.in-One.is, c.in_ok-size-in-One.ensures.there.0, c.ref_at-in-One.ensures) (uncut _ _ _ c.in_ok-size-in-One.ensures.there.1)

pub returns-in_err-size-in-Two : goal.returns-in_err-size-in-Two
unfolding read_as
returns-in_err-size-in-Two c = rw (c.in-Two.is, c.from_residual-in_err-size-in-Two.ensures) (cut _ _ _ c.in_err-size-in-Two.ensures.cut)

pub returns-in_ok-size-in-Two : goal.returns-in_ok-size-in-Two
unfolding read_as
returns-in_ok-size-in-Two c = rw (c.in-Two.is, c.in_ok-size-in-Two.ensures.there.0, c.ref_at-first.ensures, c.ref_at-second.ensures) (uncut _ _ _ c.in_ok-size-in-Two.ensures.there.1)

pub returns-in_err-size-in-Three : goal.returns-in_err-size-in-Three
unfolding read_as
returns-in_err-size-in-Three c = rw (c.in-Three.is, c.from_residual-in_err-size-in-Three.ensures) (cut _ _ _ c.in_err-size-in-Three.ensures.cut)

pub returns-in_ok-size-in-Three : goal.returns-in_ok-size-in-Three
unfolding read_as
returns-in_ok-size-in-Three c = rw (c.in-Three.is, c.in_ok-size-in-Three.ensures.there.0, c.ref_at-first-in-Three.ensures, c.ref_at-second-in-Three.ensures, c.ref_at-third.ensures) (uncut _ _ _ c.in_ok-size-in-Three.ensures.there.1)

pub returns-in_err-size-in-Four : goal.returns-in_err-size-in-Four
unfolding read_as
returns-in_err-size-in-Four c = rw (c.in-Four.is, c.from_residual-in_err-size-in-Four.ensures) (cut _ _ _ c.in_err-size-in-Four.ensures.cut)

pub returns-in_ok-size-in-Four : goal.returns-in_ok-size-in-Four
unfolding read_as
returns-in_ok-size-in-Four c = rw (c.in-Four.is, c.in_ok-size-in-Four.ensures.there.0, c.ref_at-first-in-Four.ensures, c.ref_at-second-in-Four.ensures, c.ref_at-third-in-Four.ensures, c.ref_at-fourth.ensures) (uncut _ _ _ c.in_ok-size-in-Four.ensures.there.1)
