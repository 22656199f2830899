use mathlib.Core.Path.{ap, ◌∙◌}
use mathlib.Core.List.{List}
use Prim.Native.Nat.{ℕ}
use borrow.Author.Rules.{rules}
use Rattle.reach.specs.Rows.{wipe_row, rows_ended}
use Rattle.reach.proofs.Lists.{stored-all-front}
use Rattle.reach.proofs.walk.StripSummary.end.Goals as goal

pub returns-clause-rows_after : goal.returns-clause-rows_after
unfolding rows_ended
returns-clause-rows_after c = let s = c.args.self.now in
    c.wipe.ensures ∙ ap (λ (z : List ℕ). wipe_row z 298) (c.store_all.ensures ∙ stored-all-front s.block c.args.rows.now.words s.stored s.count (search rules))
