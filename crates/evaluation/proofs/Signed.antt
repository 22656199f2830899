-- Signed words: std's reading of a word as a signed number, and the order and the absolute value of specs/Word.antt.
use mathlib.Core.Path.{◌≡◌, refl, ap, ap₂, sym, ◌∙◌}
use mathlib.Core.Bool.{Bool, true, false}
use Prim.Native.Nat.{ℕ, suc, ◌+◌, ◌-◌, ◌%◌, ◌^◌, ◌<◌, ◌≤◌}
use native.Mathlib.Omega.{arith}
use lib.Dec.{ltb}
use lib.IntN.{ℤ, pos, negsuc, nat_abs}
use lib.Signed.{lt_z}
use mir.Syntax.{w32}
use mir.Val.{sel, of_z, to_z}
use borrow.Author.Tests.{le-ltb, lt-ltb, ltb-true, ltb-false}
use Rattle.std.proofs.lemmas.Int.{of_z-to_z}
use Rattle.evaluation.specs.Word.{s_abs, s_less}

-- what is read back from a word that was read as a signed number
pub read_back : (z : ℤ) (x : ℕ) → x < 2 ^ 32 → z ≡ to_z w32 x → to_z w32 (of_z w32 z) ≡ to_z w32 x
read_back z x h e = ap (λ (y : ℤ). to_z w32 (of_z w32 y)) e ∙ ap (λ (n : ℕ). to_z w32 n) (of_z-to_z w32 x h)

agree : (a b c d : ℕ) (t : Bool) → ltb a b ≡ t → (a < b → c < d) → (b ≤ a → d ≤ c) → t ≡ ltb c d
agree a b c d true e below above = sym (lt-ltb c d (below (ltb-true a b e)))
agree a b c d false e below above = sym (le-ltb c d (above (ltb-false a b e)))

pub signed_less : (x y : ℕ) → x < 2 ^ 32 → y < 2 ^ 32 → lt_z (to_z w32 x) (to_z w32 y) ≡ s_less x y
unfolding s_less
signed_less x y h k = go (ltb x (2 ^ 31)) (ltb y (2 ^ 31)) refl refl
  where
    go : (a b : Bool) → ltb x (2 ^ 31) ≡ a → ltb y (2 ^ 31) ≡ b → lt_z (sel a (pos x) (negsuc (2 ^ 32 - suc x))) (sel b (pos y) (negsuc (2 ^ 32 - suc y))) ≡ ltb ((x + 2 ^ 31) % 2 ^ 32) ((y + 2 ^ 31) % 2 ^ 32)
    go true true p q = let i = ltb-true x (2 ^ 31) p in let j = ltb-true y (2 ^ 31) q in agree x y _ _ (ltb x y) refl (λ l. omega arith) (λ l. omega arith)
    go true false p q = let i = ltb-true x (2 ^ 31) p in let j = ltb-false y (2 ^ 31) q in sym (le-ltb _ _ (omega arith))
    go false true p q = let i = ltb-false x (2 ^ 31) p in let j = ltb-true y (2 ^ 31) q in sym (lt-ltb _ _ (omega arith))
    go false false p q =
        let i = ltb-false x (2 ^ 31) p in let j = ltb-false y (2 ^ 31) q in
        agree (2 ^ 32 - suc y) (2 ^ 32 - suc x) _ _ (ltb (2 ^ 32 - suc y) (2 ^ 32 - suc x)) refl (λ l. omega arith) (λ l. omega arith)

pub signed_abs : (x : ℕ) → x < 2 ^ 32 → nat_abs (to_z w32 x) ≡ s_abs x
unfolding s_abs
signed_abs x h = go (ltb x (2 ^ 31)) refl
  where
    go : (a : Bool) → ltb x (2 ^ 31) ≡ a → nat_abs (sel a (pos x) (negsuc (2 ^ 32 - suc x))) ≡ s_abs x
    go true p = rw p refl
    go false p = rw p (omega arith)
