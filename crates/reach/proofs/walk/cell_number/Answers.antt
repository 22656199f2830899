use borrow.Author.Tests.{lt-ltb, le-ltb}
use Rattle.reach.specs.Rows.{cell_number}
use Rattle.reach.proofs.walk.cell_number.Goals as goal

pub returns-then-n-limit : goal.returns-then-n-limit
unfolding cell_number
returns-then-n-limit c = rw (lt-ltb _ _ c.if-n-limit.true, c.from.ensures)

pub returns-else-n-limit : goal.returns-else-n-limit
unfolding cell_number
returns-else-n-limit c = rw (le-ltb _ _ c.if-n-limit.false)
