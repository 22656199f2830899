use mathlib.Core.Path.{◌∙◌, ap}
use borrow.Author.Tests.{eq-eqb, ne_eqb}
use Rattle.strip.specs.declared.shape.Shape.{Shape}
use Rattle.strip.specs.Steps.{still}
use Rattle.strip.proofs.shape.passed.Goals as goal

pub returns-then-g-eq0 : goal.returns-then-g-eq0
returns-then-g-eq0 c = rw (eq-eqb _ _ c.if-g-eq0.true) (c.still.ensures ∙ ap (λ (g : Shape). still g) c.refused.ensures)

pub returns : goal.returns
returns c = rw (ne_eqb _ _ c.if-g-eq0.false)
