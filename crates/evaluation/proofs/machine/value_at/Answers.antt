use Rattle.std.proofs.Common.{rules}
use Rattle.evaluation.specs.Machine.{value_at}
use Rattle.evaluation.proofs.machine.value_at.Goals as goal

pub returns : goal.returns
unfolding value_at
returns c = search rules
