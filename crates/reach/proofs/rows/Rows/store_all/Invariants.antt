use mathlib.Core.Path.{◌≡◌}
use Rattle.reach.specs.Rows.{rows_stored_all}
use Rattle.reach.proofs.rows.Rows.store_all.Given as goal

abbrev pub invariant-loop-c : goal.invariant-loop-c
invariant-loop-c l = l.self.words ≡ rows_stored_all l.block l.initial.self.words l.cells l.c-index
