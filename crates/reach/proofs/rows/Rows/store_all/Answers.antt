use mathlib.Core.Path.{refl}
use native.Mathlib.Numerals.{add-one}
use Rattle.reach.specs.Rows.{rows_stored_all}
use Rattle.reach.proofs.rows.Rows.store_all.Goals as goal

pub loop-c-init : goal.loop-c-init
unfolding rows_stored_all
loop-c-init c = refl

pub loop-c-preserved : goal.loop-c-preserved
unfolding rows_stored_all
loop-c-preserved c = rw add-one (rw c.loop-c.invariant at c.store.ensures)
