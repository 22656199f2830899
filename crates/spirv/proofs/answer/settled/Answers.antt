use Rattle.std.proofs.Common.{le-ltb, lt-ltb}
use Rattle.spirv.specs.Page.{settled}
use Rattle.spirv.proofs.answer.settled.Goals as goal

pub returns-then-w-lt2147483648 : goal.returns-then-w-lt2147483648
unfolding settled
returns-then-w-lt2147483648 c = rw (lt-ltb _ _ c.if-w-lt2147483648.true)

pub returns-else-w-lt2147483648 : goal.returns-else-w-lt2147483648
unfolding settled
returns-else-w-lt2147483648 c = rw (le-ltb _ _ c.if-w-lt2147483648.false)
