use Rattle.std.specs.Prelude.{Some, None}
use mathlib.Core.Path.{ap, sym, ◌∙◌}
use Rattle.strip.specs.declared.shape.Shape.{Shape}
use Rattle.strip.specs.Steps.{still, step_by}
use Rattle.strip.proofs.EntryRead.{found}
use Rattle.strip.proofs.Pass.{is-ready}
use Rattle.strip.proofs.Steps.{unready, step_by_lem}
use Rattle.strip.proofs.shape.Shape.step_part.Goals as goal

pub returns-in_default : goal.returns-in_default
unfolding step_by
returns-in_default c = c.still.ensures ∙ ap (λ (g : Shape). still g) c.unless_unknown.ensures ∙ sym (step_by_lem _ _ _ _ (sym c.ready.ensures ∙ c.if-ready.true) None (sym c.read_entry.ensures ∙ c.in_default.is))

pub entry-requires : goal.entry-requires
unfolding step_by
entry-requires c = (is-ready _ (sym c.ready.ensures ∙ c.if-ready.true), (found _ _ _ _ (sym c.read_entry.ensures ∙ c.in-Some.is)).body)

pub returns-then-ready : goal.returns-then-ready
unfolding step_by
returns-then-ready c = c.passed.ensures ∙ (rw c.entry.ensures (sym (step_by_lem _ _ _ _ (sym c.ready.ensures ∙ c.if-ready.true) (Some (_, _)) (sym c.read_entry.ensures ∙ c.in-Some.is))))

pub returns : goal.returns
unfolding step_by
returns c = c.still-2.ensures ∙ ap (λ (g : Shape). still g) c.refused.ensures ∙ sym (unready _ _ _ _ (sym c.ready.ensures ∙ c.if-ready.false))
