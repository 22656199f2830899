use mathlib.Core.Path.{ap, ◌∙◌}
use mathlib.Core.List.{List}
use Prim.Native.Nat.{ℕ}
use borrow.Author.Tests.{lt-ltb, le-ltb}
use Rattle.reach.specs.Rows.{join_row, copy_row, rows_stored}
use Rattle.reach.proofs.rows.Rows.store.Goals as goal

pub returns-then-c-ge298 : goal.returns-then-c-ge298
unfolding rows_stored
returns-then-c-ge298 c = rw (le-ltb _ 298 c.if-c-ge298.true)

pub returns-then-block : goal.returns-then-block
unfolding rows_stored
returns-then-block c = rw (lt-ltb _ 298 c.if-c-ge298.false, c.if-block.true) (c.join.ensures ∙ ap (λ (z : List ℕ). join_row z c.args.c 298) c.own.ensures)

pub returns-else-block : goal.returns-else-block
unfolding rows_stored
returns-else-block c = rw (lt-ltb _ 298 c.if-c-ge298.false, c.if-block.false) (c.copy.ensures ∙ ap (λ (z : List ℕ). copy_row z c.args.c 298) c.own.ensures)
