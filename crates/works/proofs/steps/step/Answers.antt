use Rattle.std.specs.Prelude.{Result}
use Rattle.std.proofs.Common.{ℕ, sym, ap, ◌∙◌}
use Rattle.meaning.specs.declared.interpreter.Refusal.{Refusal}
use Rattle.meaning.specs.Told.{told}
use Rattle.works.proofs.Order.{step-on, step_past, refused-number}
use Rattle.works.proofs.steps.step.Goals as goal

pub returns-in-Ok : goal.returns-in-Ok
unfolding told
returns-in-Ok c = c.interpret.ensures ∙ sym (step-on _ _ (ap (λ (o : Result (Unit {0}) Refusal). (told o).number) c.in-Ok.is))

pub returns-in-Err : goal.returns-in-Err
unfolding told
returns-in-Err c = sym (step_past _ _ (λ e. refused-number _ (sym (ap (λ (o : Result (Unit {0}) Refusal). (told o).number) c.in-Err.is) ∙ e)))
