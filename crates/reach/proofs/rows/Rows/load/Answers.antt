use mathlib.Core.Path.{◌∙◌, sym}
use borrow.Author.Tests.{lt-ltb, le-ltb}
use Rattle.reach.specs.Rows.{rows_loaded}
use Rattle.reach.proofs.rows.Rows.load.Goals as goal

pub returns-then-c-ge298 : goal.returns-then-c-ge298
unfolding rows_loaded
returns-then-c-ge298 c = rw (le-ltb _ 298 c.if-c-ge298.true)

pub returns-then-has : goal.returns-then-has
unfolding rows_loaded
returns-then-has c = rw (lt-ltb _ 298 c.if-c-ge298.false, sym c.has.ensures ∙ c.if-has.true) c.join.ensures

pub returns-else-has : goal.returns-else-has
unfolding rows_loaded
returns-else-has c = rw (lt-ltb _ 298 c.if-c-ge298.false, sym c.has.ensures ∙ c.if-has.false) c.add.ensures
