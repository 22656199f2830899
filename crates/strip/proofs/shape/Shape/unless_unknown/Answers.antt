use mathlib.Core.Path.{sym, ◌∙◌}
use Rattle.strip.proofs.shape.Shape.unless_unknown.Goals as goal

pub returns-then-is_cut : goal.returns-then-is_cut
returns-then-is_cut c = rw (sym c.is_cut.ensures ∙ c.if-is_cut.true)

pub returns-else-is_cut : goal.returns-else-is_cut
returns-else-is_cut c = rw (sym c.is_cut.ensures ∙ c.if-is_cut.false) c.refused.ensures
