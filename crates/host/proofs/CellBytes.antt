-- Cells in bytes, and what `mehkura_reach` answers case by case.
use mathlib.Core.Path.{◌≡◌, refl}
use mathlib.Core.List.{List, [], ◌++◌, map}
use mathlib.Core.Bool.{Bool}
use Prim.Native.Nat.{ℕ}
use native.Mathlib.Omega.{arith}
use lib.ListN.{length}
use lib.Seq.{sets}
use borrow.Author.Tests.{eq-eqb, ne_eqb}
use Rattle.reach.specs.declared.cells.Cells.{Cells}
use Rattle.std.specs.Prelude.{Ok, Err}
use Rattle.reach.specs.declared.cells.Refusal.{Refusal}
use Rattle.reach.specs.declared.cells.Refusal.TheVariants.{BadShape}
use Rattle.reach.specs.declared.cells.Reached.{Reached}
use Rattle.reach.specs.Reach as R
use Rattle.truth_bytes.specs.Truths.{truth_byte, truths_at}
use Rattle.host.specs.Cells.{cells_in, cell_bytes, returns, handed_back, reach_answer}
use Rattle.truth_bytes.proofs.Front.{appended, whole}

pub cells-read : {regs preds flags slots : List Bool} (bytes : List ℕ) → regs ≡ truths_at 255 0 bytes → preds ≡ truths_at 7 255 bytes → flags ≡ truths_at 4 262 bytes
    → slots ≡ truths_at 32 266 bytes → record { regs = regs; preds = preds; flags = flags; slots = slots } ≡ cells_in bytes
unfolding cells_in
cells-read bytes p q r s = rw (p, q, r, s)

pub cells-written : {l₁ l₂ l₃ l₄ : List ℕ} (c : Cells) (l : List ℕ) → length c.regs ≡ 255 → length c.preds ≡ 7 → length c.flags ≡ 4 → length c.slots ≡ 32 → length l ≡ 298
    → l₁ ≡ sets l 0 (map truth_byte c.regs) → l₂ ≡ sets l₁ 255 (map truth_byte c.preds) → l₃ ≡ sets l₂ 262 (map truth_byte c.flags) → l₄ ≡ sets l₃ 266 (map truth_byte c.slots)
    → l₄ ≡ cell_bytes c
unfolding cell_bytes
cells-written {l₁} {l₂} {l₃} {l₄} c l r p f s h e₁ e₂ e₃ e₄ =
    let a = appended l [] c.regs 0 255 298 r (omega arith) (refl, h) e₁ in
    let b = appended l₁ c.regs c.preds 255 7 298 p (omega arith) a e₂ in
    let d = appended l₂ (c.regs ++ c.preds) c.flags 262 4 298 f (omega arith) b e₃ in
    whole (c.regs ++ c.preds ++ c.flags ++ c.slots) 298 (appended l₃ (c.regs ++ c.preds ++ c.flags) c.slots 266 32 298 s (omega arith) d e₄)

-- ---- the answer
module _ (run bytes : List ℕ) where
  pub wrong-length : (length bytes ≡ 298 → ⊥) → returns 7 bytes ≡ reach_answer run bytes
  unfolding reach_answer
  wrong-length h = rw (ne_eqb (length bytes) 298 h)

  pub ran : {c : Cells} (r : Reached) → length bytes ≡ 298 → c ≡ cells_in bytes → R.answer_of r ≡ R.reach_answer run c → handed_back (R.answer_of r) bytes ≡ reach_answer run bytes
  unfolding reach_answer
  ran r e p q = rw (eq-eqb (length bytes) 298 e, ← p, ← q)

module _ (r : Reached) (bytes : List ℕ) where
  pub done : {bytes' : List ℕ} → r.outcome ≡ Ok tt → bytes' ≡ cell_bytes r.cells → returns 0 bytes' ≡ handed_back (R.answer_of r) bytes
  unfolding R.number_of
  done o p = rw (o, p)

  pub refused : (e : Refusal) → r.outcome ≡ Err e → returns (R.refusal_number e) bytes ≡ handed_back (R.answer_of r) bytes
  unfolding R.number_of
  refused BadShape o = rw (o)
