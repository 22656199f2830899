use mathlib.Core.Path.{◌∙◌, sym}
use Rattle.reach.proofs.rows.Rows.is_listed.Goals as goal

pub returns-then-has : goal.returns-then-has
returns-then-has c = rw (sym c.has.ensures ∙ c.if-has.true) c.has-then-has.ensures

pub returns-else-has : goal.returns-else-has
returns-else-has c = rw (sym c.has.ensures ∙ c.if-has.false)
