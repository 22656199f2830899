-- Tests that agree: what `omega` proves of orders, said of truths; and the order of signed words as that of integers.
use mathlib.Core.Path.{◌≡◌, refl, sym, ◌∙◌}
use mathlib.Core.Bool.{Bool, true, false, cond, not, ◌||◌}
use mathlib.Core.Logic.{◌↔◌}
use Prim.Native.Nat.{ℕ, suc, ◌+◌, ◌-◌, ◌*◌, ◌%◌, ◌^◌, ◌≤◌, ◌<◌, min}
use native.Mathlib.Omega.{arith}
use lib.Dec.{ltb, leb, leb-suc-suc}
use lib.IntN.{pos, negsuc, ℤ}
use lib.Signed.{lt_z, le_z}
use borrow.Author.Tests.{leb-true, leb-false, le-leb, lt-leb, ltb-true, ltb-false}
use Rattle.evaluation.specs.Word.{s_less, u_min}
use Rattle.meaning.specs.Number.{signed_of}

-- `ltb a b` is `leb (suc a) b`, so these serve both
pub leb-iff : (a b c d : ℕ) → (a ≤ b ↔ c ≤ d) → leb a b ≡ leb c d
leb-iff a b c d h = go (leb a b) (leb c d) refl refl
  where
    go : (x y : Bool) → leb a b ≡ x → leb c d ≡ y → leb a b ≡ leb c d
    go true true e f = e ∙ sym f
    go false false e f = e ∙ sym f
    go true false e f = let k = leb-false c d f in let l = h.0 (leb-true a b e) in absurd (omega arith)
    go false true e f = let k = leb-false a b e in let l = h.1 (leb-true c d f) in absurd (omega arith)

pub or-leb : (a b c d e f : ℕ) → (a ≤ b → e ≤ f) × (c ≤ d → e ≤ f) × (b < a → d < c → f < e) → leb a b || leb c d ≡ leb e f
or-leb a b c d e f h = go (leb a b) (leb c d) refl refl
  where
    go : (x y : Bool) → leb a b ≡ x → leb c d ≡ y → x || y ≡ leb e f
    go true y p q = sym (le-leb e f (h.0 (leb-true a b p)))
    go false true p q = sym (le-leb e f (h.1 (leb-true c d q)))
    go false false p q = sym (lt-leb e f (h.2 (leb-false a b p) (leb-false c d q)))

pub not-leb : (a b : ℕ) → not (leb a b) ≡ ltb b a
not-leb a b = go (leb a b) refl
  where
    go : (x : Bool) → leb a b ≡ x → not x ≡ ltb b a
    go true e = let k = leb-true a b e in sym (lt-leb (suc b) a (omega arith))
    go false e = let k = leb-false a b e in sym (le-leb (suc b) a (omega arith))

pub not-ltb : (a b : ℕ) → not (ltb a b) ≡ leb b a
not-ltb a b = not-leb (suc a) b ∙ leb-suc-suc b a

pub not_lt_z : (a b : ℤ) → le_z a b ≡ not (lt_z b a)
not_lt_z (pos a) (pos b) = sym (not-ltb b a)
not_lt_z (pos a) (negsuc b) = refl
not_lt_z (negsuc a) (pos b) = refl
not_lt_z (negsuc a) (negsuc b) = sym (not-ltb a b)

-- a word's sign
pub negative-is : (x : ℕ) → x < 2 ^ 32 → s_less x 0 ≡ leb (2 ^ 31) x
unfolding s_less
negative-is x h = leb-iff (suc ((x + 2 ^ 31) % 2 ^ 32)) (2 ^ 31) (2 ^ 31) x (omega arith)

-- the signed order
pub sless-is : (x y : ℕ) → x < 2 ^ 32 → y < 2 ^ 32 → s_less x y ≡ lt_z (signed_of 32 x) (signed_of 32 y)
unfolding s_less signed_of
sless-is x y hx hy = go (ltb (x * 2) (2 ^ 32)) (ltb (y * 2) (2 ^ 32)) refl refl
  where
    go : (a b : Bool) → ltb (x * 2) (2 ^ 32) ≡ a → ltb (y * 2) (2 ^ 32) ≡ b
        → ltb ((x + 2 ^ 31) % 2 ^ 32) ((y + 2 ^ 31) % 2 ^ 32) ≡ lt_z (cond a (pos x) (negsuc (2 ^ 32 - 1 - x))) (cond b (pos y) (negsuc (2 ^ 32 - 1 - y)))
    go true true e f = leb-iff (suc ((x + 2 ^ 31) % 2 ^ 32)) ((y + 2 ^ 31) % 2 ^ 32) (suc x) y (omega (arith, leb-true (suc (x * 2)) (2 ^ 32) e, leb-true (suc (y * 2)) (2 ^ 32) f))
    go true false e f = lt-leb (suc ((x + 2 ^ 31) % 2 ^ 32)) ((y + 2 ^ 31) % 2 ^ 32) (omega (arith, leb-true (suc (x * 2)) (2 ^ 32) e, leb-false (suc (y * 2)) (2 ^ 32) f))
    go false true e f = le-leb (suc ((x + 2 ^ 31) % 2 ^ 32)) ((y + 2 ^ 31) % 2 ^ 32) (omega (arith, leb-false (suc (x * 2)) (2 ^ 32) e, leb-true (suc (y * 2)) (2 ^ 32) f))
    go false false e f =
        leb-iff (suc ((x + 2 ^ 31) % 2 ^ 32)) ((y + 2 ^ 31) % 2 ^ 32) (suc (2 ^ 32 - 1 - y)) (2 ^ 32 - 1 - x) (omega (arith, leb-false (suc (x * 2)) (2 ^ 32) e, leb-false (suc (y * 2)) (2 ^ 32) f))

-- the smaller of two words
pub umin-is : (x y : ℕ) → u_min x y ≡ min x y
umin-is x y = go (ltb x y) refl
  where
    go : (b : Bool) → ltb x y ≡ b → cond b x y ≡ min x y
    go true e = omega (arith, ltb-true x y e)
    go false e = omega (arith, ltb-false x y e)
