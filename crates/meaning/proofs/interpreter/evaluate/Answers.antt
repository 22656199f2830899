use Rattle.evaluation.specs.Machine.{told}
use Rattle.meaning.specs.Told.{refused_told, told as outcome_told}
use Rattle.meaning.proofs.Interpreting.{evaluated-told}
use Rattle.meaning.proofs.interpreter.evaluate.Goals as goal

pub returns-in-Ok : goal.returns-in-Ok
unfolding told outcome_told refused_told
returns-in-Ok c = let e = c.evaluate-e in evaluated-told e.result _ _ _ _ c.in-Ok.is e.ensures

pub returns-in-Err : goal.returns-in-Err
unfolding told outcome_told refused_told
returns-in-Err c = let e = c.evaluate-e in evaluated-told e.result _ _ _ _ c.in-Err.is e.ensures
