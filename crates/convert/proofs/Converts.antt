-- From the two passes to the answer.
use Rattle.std.specs.Prelude.{Option, Some, None, Result, Ok, Err}
use mathlib.Core.Path.{◌≡◌, refl, sym, ap, ◌∙◌}
use mathlib.Core.Bool.{Bool, true, false, cond}
use mathlib.Core.List.{List}
use Prim.Native.Nat.{ℕ, ◌≤◌, ◌<◌}
use native.Mathlib.Omega.{arith}
use lib.ListN.{length, drop, length-append, length-drop}
use borrow.Author.Tests.{le-leb, lt-leb}
use Rattle.strip.specs.declared.format.Layout.{Layout}
use Rattle.strip.specs.Entry.{ref_length}
use Rattle.strip.specs.Shape.{shape_ok}
use Rattle.convert.specs.declared.Refusal.{Refusal}
use Rattle.convert.specs.declared.Refusal.TheVariants.{BadShape, NoRoom}
use Rattle.convert.specs.Convert.{refusal_number, other, converted, number_of, length_of, Answer, answer_of, fitted, conversion}
use Rattle.convert.specs.Pass.{measured, Passes}

-- the answer by numbers says as much as the enum
pub answer-tells : (o p : Result ℕ Refusal) (out out' : List ℕ) → answer_of o out ≡ answer_of p out' → (o ≡ p) × (out ≡ out')
unfolding number_of length_of refusal_number
answer-tells o p out out' q = (go o p (ap (λ (a : Answer). a.number) q) (ap (λ (a : Answer). a.length) q), ap (λ (a : Answer). a.out) q)
  where
    go : (o p : Result ℕ Refusal) → number_of o ≡ number_of p → length_of o ≡ length_of p → o ≡ p
    go (Ok n) (Ok m) a b = ap (λ (k : ℕ). Ok k) b
    go (Ok n) (Err BadShape) a b = absurd (omega arith)
    go (Ok n) (Err NoRoom) a b = absurd (omega arith)
    go (Err BadShape) (Ok m) a b = absurd (omega arith)
    go (Err BadShape) (Err BadShape) a b = refl
    go (Err BadShape) (Err NoRoom) a b = absurd (omega arith)
    go (Err NoRoom) (Ok m) a b = absurd (omega arith)
    go (Err NoRoom) (Err BadShape) a b = absurd (omega arith)
    go (Err NoRoom) (Err NoRoom) a b = refl

module _ (l : Layout) (run out out' : List ℕ) (r : Option ℕ) (p : Passes (ref_length l) (ref_length (other l)) run false out out' r) where
  abbrev bytes : List ℕ
  bytes = converted (ref_length l) (ref_length (other l)) run

  -- the first pass touches nothing
  untouched : out' ≡ out
  untouched = p.list

  pub refused-shape : r ≡ None → answer_of (Err BadShape) out' ≡ conversion l run out
  unfolding measured conversion
  refused-shape q = rw untouched (go (shape_ok (ref_length l) run) (sym q ∙ p.size refl))
    where
      go : (b : Bool) → ◌≡◌ {A = Option ℕ} None (cond b (Some (length bytes)) None) → answer_of (Err BadShape) out ≡ cond b (fitted bytes out) (answer_of (Err BadShape) out)
      go true z = let d : ◌≡◌ {A = ℕ} 0 1 = cc in absurd (omega arith)
      go false z = refl

  module _ (n : ℕ) (q : r ≡ Some n) where
    sized : (shape_ok (ref_length l) run ≡ true) × (n ≡ length bytes)
    unfolding measured
    sized = go (shape_ok (ref_length l) run) refl (sym q ∙ p.size refl)
      where
        go : (b : Bool) → shape_ok (ref_length l) run ≡ b → ◌≡◌ {A = Option ℕ} (Some n) (cond b (Some (length bytes)) None) → (shape_ok (ref_length l) run ≡ true) × (n ≡ length bytes)
        go true s z = (s, cc)
        go false s z = let d : ◌≡◌ {A = ℕ} 0 1 = cc in absurd (omega arith)

    pub refused-room : length out' < n → answer_of (Err NoRoom) out' ≡ conversion l run out
    unfolding conversion fitted
    refused-room h = rw (untouched, sized.0, lt-leb (length bytes) (length out) (omega (arith, sized.1, ap length untouched))) refl

    module _ (h : n ≤ length out') where
      pub asks : (shape_ok (ref_length l) run ≡ true) × (length bytes ≤ length out')
      asks = (sized.0, omega (arith, sized.1))

      pub room-kept : (out'' : List ℕ) (s : Option ℕ) → Passes (ref_length l) (ref_length (other l)) run true out' out'' s → length out'' ≡ length out
      room-kept out'' s w = ap length w.list ∙ length-append bytes (drop (length bytes) out') ∙ (rw (length-drop (length bytes) out') (omega (arith, asks.1, ap length untouched)))

      pub accepted : (out'' : List ℕ) (s : Option ℕ) → Passes (ref_length l) (ref_length (other l)) run true out' out'' s → answer_of (Ok n) out'' ≡ conversion l run out
      unfolding conversion fitted
      accepted out'' s w = rw (w.list, untouched, sized.0, sized.1, le-leb (length bytes) (length out) (omega (arith, sized.1, ap length untouched))) refl
