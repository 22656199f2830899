use Rattle.std.proofs.Common.{◌∙◌, Ok, Err, arith}
use Rattle.spirv.specs.Answer.{answer_of}
use Rattle.spirv_host.proofs.Answers.{told, kept}
use Rattle.spirv_host.proofs.mehkura_to_spirv.Goals as goal

pub returns-in-Ok : goal.returns-in-Ok
unfolding answer_of
returns-in-Ok c = told _ _ _ _ _ _ _ _ (Ok _) _ c.in-Ok.is c.to_spirv.ensures

pub returns-in-Err : goal.returns-in-Err
unfolding answer_of
returns-in-Err c = kept _ _ _ _ _ _ (omega (arith, c.from.ensures)) ∙ told _ _ _ _ _ _ _ _ (Err _) _ c.in-Err.is c.to_spirv.ensures
