use mathlib.Core.Path.{ap, sym, ◌∙◌}
use mathlib.Core.Bool.{Bool, not, ◌&&◌}
use lib.Dec.{eqb}
use borrow.Author.Tests.{eq-eqb, ne_eqb}
use Rattle.strip.proofs.Blocks.{waits-walk}
use Rattle.strip.proofs.stream.waits.Goals as goal

pub returns-then-w-eq0 : goal.returns-then-w-eq0
returns-then-w-eq0 c = ap (λ (b : Bool). b && not (eqb c.walk-w.result.shape.left 0)) (sym (eq-eqb _ _ c.if-w-eq0.true)) ∙ waits-walk _ _ c.requires _ _ c.walk-w.ensures

pub returns-else-w-eq0 : goal.returns-else-w-eq0
returns-else-w-eq0 c = ne_eqb _ _ c.if-w-eq0.false ∙ ap (λ (b : Bool). b && not (eqb c.walk-w.result.shape.left 0)) (sym (ne_eqb _ _ c.if-w-eq0.false)) ∙ waits-walk _ _ c.requires _ _ c.walk-w.ensures
