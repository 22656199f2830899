use Rattle.evaluation.specs.Machine.{told}
use Rattle.evaluation_cases.proofs.number_of.Goals as goal

pub returns-in-Ok : goal.returns-in-Ok
unfolding told
returns-in-Ok c = rw c.in-Ok.is

pub returns-in-Err : goal.returns-in-Err
unfolding told
returns-in-Err c = rw c.in-Err.is c.from.ensures
