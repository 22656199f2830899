use mathlib.Core.Path.{refl}
use mathlib.Core.Logic.{inl, inr}
use borrow.Author.Tests.{eq-eqb, ne_eqb}
use Rattle.reach.specs.Rows.{rows_after, summary_after}
use Rattle.reach.proofs.walk.StripSummary.step.Goals as goal

pub returns-then-k : goal.returns-then-k
unfolding rows_after summary_after
returns-then-k c = let t = eq-eqb _ 255 c.if-k.true in rw c.in-Bare.is (record { rows = rw t c.end.ensures.rows_after; summary = rw t c.end.ensures.summary_after })

pub returns-else-k : goal.returns-else-k
unfolding rows_after summary_after
returns-else-k c = let f = ne_eqb _ 255 c.if-k.false in rw c.in-Bare.is (record { rows = rw f refl; summary = rw f refl })

pub returns-in-Cell : goal.returns-in-Cell
unfolding rows_after summary_after
returns-in-Cell c = rw c.in-Cell.is (record { rows = rw (← c.load_place.ensures) c.load.ensures; summary = refl })

pub returns-in-Store : goal.returns-in-Store
unfolding rows_after summary_after
returns-in-Store c = rw c.in-Store.is (record { rows = refl; summary = rw (← c.store_place.ensures) c.store.ensures })

pub returns-in-One : goal.returns-in-One
unfolding rows_after summary_after
returns-in-One c = rw c.in-One.is (record { rows = refl; summary = refl })

pub returns-in-Word : goal.returns-in-Word
unfolding rows_after summary_after
returns-in-Word c =
    elim c.in-Word.is [
      | inl p ↦ rw p.1 (record { rows = refl; summary = refl })
      | inr q ↦ elim q [
        | inl p ↦ rw p.3 (record { rows = refl; summary = refl })
        | inr r ↦ elim r [ inl p ↦ rw p.4 (record { rows = refl; summary = refl }) | inr p ↦ rw p.5 (record { rows = refl; summary = refl }) ]
      ]
    ]
