use Rattle.std.proofs.Common.{ap}
use Rattle.evaluation.specs.Machine.{answer_of}
use Rattle.evaluation.proofs.machine.evaluate.Goals as goal

pub returns : goal.returns
returns c = ap answer_of c.pass.ensures
