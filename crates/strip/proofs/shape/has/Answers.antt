use borrow.Author.Tests.{lt-ltb, le-ltb}
use Rattle.strip.specs.Pass.{bit_at}
use Rattle.strip.proofs.shape.has.Goals as goal

pub returns-then-r-lt64 : goal.returns-then-r-lt64
unfolding bit_at
returns-then-r-lt64 c = rw (lt-ltb _ _ c.if-r-lt64.true)

pub returns-else-r-lt64 : goal.returns-else-r-lt64
unfolding bit_at
returns-else-r-lt64 c = simp (le-ltb _ _ c.if-r-lt64.false)
