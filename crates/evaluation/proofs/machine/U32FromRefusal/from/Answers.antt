use Rattle.evaluation.specs.Machine.{refusal_told}
use Rattle.evaluation.proofs.machine.U32FromRefusal.from.Goals as goal

pub returns-in-BadShape : goal.returns-in-BadShape
unfolding refusal_told
returns-in-BadShape c = rw c.in-BadShape.is

pub returns-in-UndefinedValue : goal.returns-in-UndefinedValue
unfolding refusal_told
returns-in-UndefinedValue c = rw c.in-UndefinedValue.is

pub returns-in-NoConstant : goal.returns-in-NoConstant
unfolding refusal_told
returns-in-NoConstant c = rw c.in-NoConstant.is
