use mathlib.Core.Path.{◌≡◌, ap, ◌∙◌, sym}
use Rattle.std.specs.Prelude.{Err}
use Rattle.evaluation.specs.declared.machine.Refusal.TheVariants.{BadShape, UndefinedValue}
use Rattle.evaluation.specs.Machine.{refusal_told}
use Rattle.evaluation_host.proofs.StateLists.{wrong-registers, wrong-truths, no-layout, ran, done, refused}
use borrow.Author.Rules.{rules}
use Rattle.evaluation_host.proofs.mehkura_evaluate.Goals as goal

pub returns-then-registers-ne255 : goal.returns-then-registers-ne255
unfolding refusal_told
returns-then-registers-ne255 c = wrong-registers _ _ _ _ _ _ c.if-registers-ne255.true

pub returns-then-truths-ne11 : goal.returns-then-truths-ne11
unfolding refusal_told
returns-then-truths-ne11 c = wrong-truths _ _ _ _ _ _ c.if-registers-ne255.false c.if-truths-ne11.true

pub returns-in_default : goal.returns-in_default
unfolding refusal_told
returns-in_default c = no-layout _ _ _ _ _ _ c.if-registers-ne255.false c.if-truths-ne11.false (sym c.try_from.ensures ∙ c.in_default.is)

pub returns-in-Ok-o : goal.returns-in-Ok-o
unfolding refusal_told
returns-in-Ok-o c = done c.evaluate-r.result _ _ _ c.in-Ok-o.is c.state_out.ensures.0 c.state_out.ensures.1 ∙ ran _ _ _ _ _ _ c.in-Ok.l c.if-registers-ne255.false c.if-truths-ne11.false (sym c.try_from.ensures ∙ c.in-Ok.is) c.state_in.ensures c.evaluate-r.ensures

pub returns-in-BadShape : goal.returns-in-BadShape
unfolding refusal_told
returns-in-BadShape c = refused c.evaluate-r.result _ _ _ BadShape (c.in-Err.is ∙ ap Err c.in-BadShape.is) ∙ ran _ _ _ _ _ _ c.in-Ok.l c.if-registers-ne255.false c.if-truths-ne11.false (sym c.try_from.ensures ∙ c.in-Ok.is) c.state_in.ensures c.evaluate-r.ensures

pub returns-in-UndefinedValue : goal.returns-in-UndefinedValue
unfolding refusal_told
returns-in-UndefinedValue c = refused c.evaluate-r.result _ _ _ UndefinedValue (c.in-Err.is ∙ ap Err c.in-UndefinedValue.is) ∙ ran _ _ _ _ _ _ c.in-Ok.l c.if-registers-ne255.false c.if-truths-ne11.false (sym c.try_from.ensures ∙ c.in-Ok.is) c.state_in.ensures c.evaluate-r.ensures

pub returns-in-NoConstant : goal.returns-in-NoConstant
unfolding refusal_told
returns-in-NoConstant c = let e : c.from.result ≡ c.in-NoConstant.s = search rules in rw e (refused c.evaluate-r.result _ _ _ _ (c.in-Err.is ∙ ap Err c.in-NoConstant.is) ∙ ran _ _ _ _ _ _ c.in-Ok.l c.if-registers-ne255.false c.if-truths-ne11.false (sym c.try_from.ensures ∙ c.in-Ok.is) c.state_in.ensures c.evaluate-r.ensures)
