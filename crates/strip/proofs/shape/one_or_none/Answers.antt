use borrow.Author.Tests.{lt-ltb, le-ltb}
use Rattle.strip.proofs.shape.one_or_none.Goals as goal

pub returns-then-left-lt2 : goal.returns-then-left-lt2
returns-then-left-lt2 c = rw (lt-ltb _ _ c.if-left-lt2.true)

pub returns-else-left-lt2 : goal.returns-else-left-lt2
returns-else-left-lt2 c = rw (le-ltb _ _ c.if-left-lt2.false)
