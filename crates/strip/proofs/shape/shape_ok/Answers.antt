use mathlib.Core.Path.{◌∙◌}
use borrow.Author.Tests.{eq-eqb, ne_eqb}
use Rattle.strip.proofs.Pass.{ready-fresh}
use Rattle.strip.proofs.Steps.{walk-shape}
use Rattle.strip.proofs.shape.shape_ok.Goals as goal

pub walk-w-requires : goal.walk-w-requires
walk-w-requires c = rw c.new.ensures ready-fresh

pub returns-then-w-run : goal.returns-then-w-run
returns-then-w-run c = walk-shape _ _ _ c.new.ensures _ c.walk-w.ensures _ (eq-eqb _ _ c.if-w-run.true)

pub returns-else-w-run : goal.returns-else-w-run
returns-else-w-run c = ne_eqb _ _ c.if-w-run.false ∙ walk-shape _ _ _ c.new.ensures _ c.walk-w.ensures _ (ne_eqb _ _ c.if-w-run.false)
