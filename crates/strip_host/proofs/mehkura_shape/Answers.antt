use mathlib.Core.Path.{sym, ◌∙◌}
use Rattle.strip_host.proofs.mehkura_shape.Goals as goal

pub returns-in_default : goal.returns-in_default
returns-in_default c = rw (sym c.try_from.ensures ∙ c.in_default.is)

pub returns-then-shape_ok : goal.returns-then-shape_ok
returns-then-shape_ok c = rw (sym c.try_from.ensures ∙ c.in-Ok.is, ← c.shape_ok.ensures, c.if-shape_ok.true)

pub returns-else-shape_ok : goal.returns-else-shape_ok
returns-else-shape_ok c = rw (sym c.try_from.ensures ∙ c.in-Ok.is, ← c.shape_ok.ensures, c.if-shape_ok.false)
