use Rattle.strip.proofs.EntryRead.{cut, uncut}
use Rattle.strip.proofs.reader.read_word.Goals as goal

pub returns-in_err-size : goal.returns-in_err-size
returns-in_err-size c = rw c.from_residual.ensures (cut _ _ _ c.in_err-size.ensures.cut)

pub returns : goal.returns
returns c = rw (c.in_ok-size.ensures.there.0, c.word_at.ensures) (uncut _ _ _ c.in_ok-size.ensures.there.1)
