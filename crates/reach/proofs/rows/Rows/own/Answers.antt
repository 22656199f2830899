use mathlib.Core.Path.{ap, ◌∙◌, sym}
use mathlib.Core.List.{List}
use Prim.Native.Nat.{ℕ}
use Rattle.reach.specs.Rows.{add_cell, owned}
use Rattle.reach.proofs.rows.Rows.own.Goals as goal

pub returns-then-not-has : goal.returns-then-not-has
unfolding owned
returns-then-not-has c = rw (sym c.has.ensures ∙ c.if-not-has.true) (c.add-then-not-has.ensures ∙ ap (λ (z : List ℕ). add_cell z 299 c.args.c) (c.add.ensures ∙ ap (λ (z : List ℕ). add_cell z c.args.c c.args.c) c.wipe.ensures))

pub returns-else-not-has : goal.returns-else-not-has
unfolding owned
returns-else-not-has c = rw (sym c.has.ensures ∙ c.if-not-has.false)
