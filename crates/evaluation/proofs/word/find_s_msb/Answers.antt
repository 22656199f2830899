use Rattle.std.proofs.Common.{le-ltb, lt-ltb}
use Rattle.evaluation.proofs.word.find_s_msb.Goals as goal

pub returns-then-x-lt2147483648 : goal.returns-then-x-lt2147483648
returns-then-x-lt2147483648 c = simp (lt-ltb _ _ c.if-x-lt2147483648.true) c.find_u_msb.ensures

pub returns-else-x-lt2147483648 : goal.returns-else-x-lt2147483648
returns-else-x-lt2147483648 c = simp (le-ltb _ _ c.if-x-lt2147483648.false) c.find_u_msb-else-x-lt2147483648.ensures
