-- Sums of two words and a carry of 0 or 1: carry, overflow and clamp. The translation finds them with words and signs, the meaning says them of
-- integers. Between the two stand numbers counted from -2 ^ 31 for a word and from -2 ^ 32 for the exact sum, so that `omega` can speak of them.
use mathlib.Core.Path.{◌≡◌, refl, sym, ap, ap₂, ◌∙◌}
use mathlib.Core.Bool.{Bool, true, false, cond, ◌&&◌, ◌||◌, xor}
use Prim.Native.Nat.{ℕ, suc, ◌+◌, ◌-◌, ◌*◌, ◌%◌, ◌^◌, ◌≤◌, ◌<◌}
use native.Mathlib.Omega.{arith}
use lib.Dec.{ltb, leb}
use lib.Bits.{bit_and, bit_xor, and_lt, xor_lt}
use lib.IntN.{ℤ, pos, negsuc, sub_ℕ, ◌+ℤ◌}
use lib.Signed.{lt_z}
use borrow.Author.Tests.{leb-true, leb-false, le-leb, lt-leb}
use Rattle.evaluation.specs.Word.{s_less}
use Rattle.meaning.specs.Number.{signed_of, word_of, clamp, least, greatest}
use Rattle.meaning.specs.Meaning.{wrap, total, exact_sum, overflows, saturated}
use Rattle.meaning.proofs.Order.{leb-iff, or-leb, negative-is}
use Rattle.meaning.proofs.Digits.{top_bit, bit-and, bit-xor}

-- ---- the carry

pub wrap-word : (n : ℕ) → wrap n < 2 ^ 32
wrap-word n = omega arith

pub add_none : (a b : ℕ) → total a b 0 ≡ a + b
add_none a b = omega arith

-- a wrapped sum, and one more summand
pub add-wrapped : (a b : ℕ) → wrap (wrap a + b) ≡ wrap (a + b)
add-wrapped a b = omega arith

-- the first sum wraps where it is below a summand, the second where it is below the first
pub carry-is : (a b k : ℕ) → a < 2 ^ 32 → b < 2 ^ 32 → k < 2
    → ltb (wrap (a + b)) a || ltb (wrap (wrap (a + b) + k)) (wrap (a + b)) ≡ leb (2 ^ 32) (total a b k)
carry-is a b k ha hb hk = or-leb (suc (wrap (a + b))) a (suc (wrap (wrap (a + b) + k))) (wrap (a + b)) (2 ^ 32) (a + b + k) (omega arith)

pub carry-none : (a b : ℕ) → a < 2 ^ 32 → b < 2 ^ 32 → ltb (wrap (a + b)) a ≡ leb (2 ^ 32) (a + b)
carry-none a b ha hb = leb-iff (suc (wrap (a + b))) a (2 ^ 32) (a + b) (omega arith)

-- ---- signs of and, xor

abbrev negative : ℕ → Bool
negative x = leb (2 ^ 31) x

sign-and : (x y : ℕ) → x < 2 ^ 32 → y < 2 ^ 32 → negative (bit_and x y) ≡ negative x && negative y
sign-and x y hx hy = sym (top_bit 31 (bit_and x y) (and_lt 32 x y hx hy)) ∙ bit-and x y 31 ∙ ap₂ ◌&&◌ (top_bit 31 x hx) (top_bit 31 y hy)

sign-xor : (x y : ℕ) → x < 2 ^ 32 → y < 2 ^ 32 → negative (bit_xor x y) ≡ xor (negative x) (negative y)
sign-xor x y hx hy = sym (top_bit 31 (bit_xor x y) (xor_lt 32 x y hx hy)) ∙ bit-xor x y 31 ∙ ap₂ xor (top_bit 31 x hx) (top_bit 31 y hy)

-- ---- the exact sum: e counts z from -n

abbrev Counts : ℕ → ℤ → ℕ → Type 0
Counts n (pos x) e = e ≡ x + n
Counts n (negsuc x) e = e + suc x ≡ n

counts-sub : (n a b e : ℕ) → e + b ≡ a + n → Counts n (sub_ℕ a b) e
counts-sub n a b e h = go (ltb a b) refl
  where
    go : (t : Bool) → ltb a b ≡ t → Counts n (cond t (negsuc (b - suc a)) (pos (a - b))) e
    go true q = let k = leb-true (suc a) b q in omega arith
    go false q = let k = leb-false (suc a) b q in omega arith

counts-add : (m n : ℕ) (y z : ℤ) (d e : ℕ) → Counts m y d → Counts n z e → Counts (m + n) (y +ℤ z) (d + e)
counts-add m n (pos a) (pos b) d e h k = omega arith
counts-add m n (pos a) (negsuc b) d e h k = counts-sub (m + n) a (suc b) (d + e) (omega arith)
counts-add m n (negsuc a) (pos b) d e h k = counts-sub (m + n) b (suc a) (d + e) (omega arith)
counts-add m n (negsuc a) (negsuc b) d e h k = omega arith

unfoldable lifted : ℕ → ℕ
lifted x = (x + 2 ^ 31) % 2 ^ 32

unfoldable lifted_sum : ℕ → ℕ → ℕ → ℕ
lifted_sum a b k = lifted a + lifted b + k

counts-word : (x : ℕ) → x < 2 ^ 32 → Counts (2 ^ 31) (signed_of 32 x) (lifted x)
unfolding signed_of lifted
counts-word x h = go (ltb (x * 2) (2 ^ 32)) refl
  where
    go : (t : Bool) → ltb (x * 2) (2 ^ 32) ≡ t → Counts (2 ^ 31) (cond t (pos x) (negsuc (2 ^ 32 - 1 - x))) ((x + 2 ^ 31) % 2 ^ 32)
    go true q = let k = leb-true (suc (x * 2)) (2 ^ 32) q in omega arith
    go false q = let k = leb-false (suc (x * 2)) (2 ^ 32) q in omega arith

counts-sum : (a b k : ℕ) → a < 2 ^ 32 → b < 2 ^ 32 → Counts (2 ^ 32) (exact_sum a b k) (lifted_sum a b k)
unfolding exact_sum lifted_sum
counts-sum a b k ha hb =
    counts-add (2 ^ 32) 0 (signed_of 32 a +ℤ signed_of 32 b) (pos k) (lifted a + lifted b) k
    (counts-add (2 ^ 31) (2 ^ 31) (signed_of 32 a) (signed_of 32 b) (lifted a) (lifted b) (counts-word a ha) (counts-word b hb)) (omega arith)

-- below the least signed word, above the greatest, and the word that an integer wraps to
below-is : (z : ℤ) (e : ℕ) → Counts (2 ^ 32) z e → lt_z z (least true 32) ≡ ltb e (2 ^ 31)
unfolding least
below-is (pos n) e h = sym (lt-leb (suc e) (2 ^ 31) (omega arith))
below-is (negsuc n) e h = leb-iff (2 ^ 31) n (suc e) (2 ^ 31) (omega arith)

above-is : (z : ℤ) (e : ℕ) → Counts (2 ^ 32) z e → lt_z (greatest true 32) z ≡ leb (3 * 2 ^ 31) e
unfolding greatest
above-is (pos n) e h = leb-iff (2 ^ 31) n (3 * 2 ^ 31) e (omega arith)
above-is (negsuc n) e h = sym (lt-leb (3 * 2 ^ 31) e (omega arith))

word-is : (z : ℤ) (e : ℕ) → Counts (2 ^ 32) z e → word_of z ≡ wrap e
unfolding word_of
word-is (pos n) e h = omega arith
word-is (negsuc n) e h = omega arith

clamped-word : (p q : Bool) (z : ℤ) (v : ℕ) → word_of z ≡ v
    → word_of (cond p (least true 32) (cond q (greatest true 32) z)) ≡ cond p (2 ^ 31) (cond q (2 ^ 31 - 1) v)
unfolding least greatest word_of
clamped-word true q z v h = refl
clamped-word false true z v h = refl
clamped-word false false z v h = h

wrap-lifted : (a b k : ℕ) → wrap (lifted_sum a b k) ≡ wrap (total a b k)
unfolding lifted_sum lifted
wrap-lifted a b k = omega arith

module _ (a b k : ℕ) where
  abbrev low : Bool
  low = ltb (lifted_sum a b k) (2 ^ 31)

  abbrev high : Bool
  high = leb (3 * 2 ^ 31) (lifted_sum a b k)

  in-range : 2 ^ 31 ≤ lifted_sum a b k → lifted_sum a b k < 3 * 2 ^ 31 → false ≡ low || high
  in-range h l = rw (lt-leb (suc (lifted_sum a b k)) (2 ^ 31) (omega arith), lt-leb (3 * 2 ^ 31) (lifted_sum a b k) l) refl

  too-low : lifted_sum a b k < 2 ^ 31 → true ≡ low || high
  too-low h = rw (le-leb (suc (lifted_sum a b k)) (2 ^ 31) h) refl

  too-high : 3 * 2 ^ 31 ≤ lifted_sum a b k → true ≡ low || high
  too-high h = rw (lt-leb (suc (lifted_sum a b k)) (2 ^ 31) (omega arith), le-leb (3 * 2 ^ 31) (lifted_sum a b k) h) refl

  module _ (ha : a < 2 ^ 32) (hb : b < 2 ^ 32) where
    overflows-lifted : overflows a b k ≡ low || high
    unfolding overflows
    overflows-lifted =
        let c = counts-sum a b k ha hb in rw (below-is (exact_sum a b k) (lifted_sum a b k) c, above-is (exact_sum a b k) (lifted_sum a b k) c) refl

    saturated-lifted : saturated a b k ≡ cond low (2 ^ 31) (cond high (2 ^ 31 - 1) (wrap (total a b k)))
    unfolding saturated clamp
    saturated-lifted =
        let c = counts-sum a b k ha hb in
        rw (below-is (exact_sum a b k) (lifted_sum a b k) c, above-is (exact_sum a b k) (lifted_sum a b k) c)
        (clamped-word low high (exact_sum a b k) (wrap (total a b k)) (word-is (exact_sum a b k) (lifted_sum a b k) c ∙ wrap-lifted a b k))

    -- the sum is no signed word where both summands have the sign that the wrapped sum has not
    by-signs : k < 2 → (x y z : Bool) → negative a ≡ x → negative b ≡ y → negative (wrap (total a b k)) ≡ z → xor x z && xor y z ≡ low || high
    unfolding xor lifted_sum lifted
    by-signs hk true true true p q r = in-range (omega (arith, leb-true, leb-false)) (omega (arith, leb-true, leb-false))
    by-signs hk true true false p q r = too-low (omega (arith, leb-true, leb-false))
    by-signs hk true false true p q r = in-range (omega (arith, leb-true, leb-false)) (omega (arith, leb-true, leb-false))
    by-signs hk true false false p q r = in-range (omega (arith, leb-true, leb-false)) (omega (arith, leb-true, leb-false))
    by-signs hk false true true p q r = in-range (omega (arith, leb-true, leb-false)) (omega (arith, leb-true, leb-false))
    by-signs hk false true false p q r = in-range (omega (arith, leb-true, leb-false)) (omega (arith, leb-true, leb-false))
    by-signs hk false false true p q r = too-high (omega (arith, leb-true, leb-false))
    by-signs hk false false false p q r = in-range (omega (arith, leb-true, leb-false)) (omega (arith, leb-true, leb-false))

    -- and then that sign says which bound is nearest
    by-range : k < 2 → (p q z : Bool) → low ≡ p → high ≡ q → negative (wrap (total a b k)) ≡ z
        → cond (p || q) (cond z (2 ^ 31 - 1) (2 ^ 31)) (wrap (total a b k)) ≡ cond p (2 ^ 31) (cond q (2 ^ 31 - 1) (wrap (total a b k)))
    unfolding lifted_sum lifted
    by-range hk true q true l h r = absurd (omega (arith, leb-true))
    by-range hk true q false l h r = refl
    by-range hk false true true l h r = refl
    by-range hk false true false l h r = absurd (omega (arith, leb-true, leb-false))
    by-range hk false false z l h r = refl

-- what the translation computes: the sign of (a ^ v) & (b ^ v), for the wrapped sum v
module _ (a b k v : ℕ) (ha : a < 2 ^ 32) (hb : b < 2 ^ 32) (hk : k < 2) (e : wrap (total a b k) ≡ v) where
  pub overflow-is : s_less (bit_and (bit_xor a v) (bit_xor b v)) 0 ≡ overflows a b k
  overflow-is =
      let hv : v < 2 ^ 32 = rw (← e) (wrap-word (total a b k)) in
      let wa = xor_lt 32 a v ha hv in
      let wb = xor_lt 32 b v hb hv in
      negative-is (bit_and (bit_xor a v) (bit_xor b v)) (and_lt 32 (bit_xor a v) (bit_xor b v) wa wb)
      ∙ sign-and (bit_xor a v) (bit_xor b v) wa wb
      ∙ ap₂ ◌&&◌ (sign-xor a v ha hv) (sign-xor b v hb hv)
      ∙ by-signs a b k ha hb hk (negative a) (negative b) (negative v) refl refl (ap (λ (x : ℕ). negative x) e)
      ∙ sym (overflows-lifted a b k ha hb)

  pub clamp-is : cond (overflows a b k) (cond (s_less v 0) (2 ^ 31 - 1) (2 ^ 31)) v ≡ saturated a b k
  clamp-is =
      rw (← e, negative-is (wrap (total a b k)) (wrap-word (total a b k)), overflows-lifted a b k ha hb, saturated-lifted a b k ha hb)
      (by-range a b k ha hb hk (low a b k) (high a b k) (negative (wrap (total a b k))) refl refl refl)
