use Rattle.std.proofs.Common.{arith}
use Rattle.std.proofs.lemmas.Grind.{common_steps}
use Rattle.spirv.specs.Writer.{lent_ok}
use Rattle.spirv.proofs.table.lent_ok.Goals as goal

pub returns-then-x-bound : goal.returns-then-x-bound
unfolding lent_ok
returns-then-x-bound c = grind (arith, common_steps)

pub returns-else-x-bound : goal.returns-else-x-bound
unfolding lent_ok
returns-else-x-bound c = grind (arith, common_steps)
