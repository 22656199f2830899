-- Words clamped to a width, signed or not: minima and maxima of words, as the clamp of integers.
use mathlib.Core.Path.{◌≡◌, refl, sym, ◌∙◌}
use mathlib.Core.Bool.{Bool, true, false, cond, ◌||◌}
use Prim.Native.Nat.{ℕ, ◌+◌, ◌-◌, ◌*◌, ◌%◌, ◌^◌, ◌≤◌, ◌<◌}
use native.Mathlib.Omega.{arith}
use lib.Dec.{ltb}
use lib.IntN.{pos, negsuc}
use lib.Signed.{lt_z}
use lib.Pow.{pow_pos, pow_mono}
use borrow.Author.Tests.{ltb-true, ltb-false, lt-ltb, le-ltb}
use Rattle.evaluation.specs.Word.{s_less, u_min, s_min, s_max}
use Rattle.meaning.specs.Number.{signed_of, integer_of, word_of, clamp, least, greatest}
use Rattle.meaning.proofs.Order.{sless-is}

-- a word's signed number wraps to the word
word-signed : (x : ℕ) → x < 2 ^ 32 → word_of (signed_of 32 x) ≡ x
unfolding signed_of word_of
word-signed x h = go (ltb (x * 2) (2 ^ 32)) refl
  where
    go : (b : Bool) → ltb (x * 2) (2 ^ 32) ≡ b → word_of (cond b (pos x) (negsuc (2 ^ 32 - 1 - x))) ≡ x
    go true e = omega arith
    go false e = omega arith

word_number : (sign : Bool) (x : ℕ) → x < 2 ^ 32 → word_of (integer_of sign 32 x) ≡ x
unfolding word_of
word_number true x h = word-signed x h
word_number false x h = omega arith

-- what a test and its converse choose: where neither holds, the two must be the same
either_less : (p q x y : ℕ) → (p ≡ q → x ≡ y) → cond (ltb p q) x y ≡ cond (ltb q p) y x
either_less p q x y h = go (ltb p q) (ltb q p) refl refl
  where
    go : (a b : Bool) → ltb p q ≡ a → ltb q p ≡ b → cond a x y ≡ cond b y x
    go true true e f = absurd (omega (arith, ltb-true p q e, ltb-true q p f))
    go true false e f = refl
    go false true e f = refl
    go false false e f = sym (h (omega (arith, ltb-false p q e, ltb-false q p f)))

smaller-either : (x y : ℕ) → x < 2 ^ 32 → y < 2 ^ 32 → cond (s_less x y) x y ≡ cond (s_less y x) y x
unfolding s_less
smaller-either x y hx hy = either_less ((x + 2 ^ 31) % 2 ^ 32) ((y + 2 ^ 31) % 2 ^ 32) x y (λ e. omega arith)

-- a clamp between words: of their signed numbers
module _ (lo hi v : ℕ) (hl : lo < 2 ^ 32) (hh : hi < 2 ^ 32) (hv : v < 2 ^ 32) where
  clamped-word : word_of (clamp (signed_of 32 lo) (signed_of 32 hi) (signed_of 32 v)) ≡ cond (s_less v lo) lo (cond (s_less hi v) hi v)
  unfolding clamp
  clamped-word = rw (sless-is v lo hv hl, sless-is hi v hh hv) (go (lt_z (signed_of 32 v) (signed_of 32 lo)) (lt_z (signed_of 32 hi) (signed_of 32 v)))
    where
      go : (a b : Bool) → word_of (cond a (signed_of 32 lo) (cond b (signed_of 32 hi) (signed_of 32 v))) ≡ cond a lo (cond b hi v)
      go true b = word-signed lo hl
      go false true = word-signed hi hh
      go false false = word-signed v hv

  -- the maximum with lo, then the minimum with hi
  max-min : s_less hi lo ≡ false → s_min (s_max v lo) hi ≡ word_of (clamp (signed_of 32 lo) (signed_of 32 hi) (signed_of 32 v))
  max-min o = go (s_less v lo) refl ∙ sym clamped-word
    where
      go : (a : Bool) → s_less v lo ≡ a → cond (s_less (cond a lo v) hi) (cond a lo v) hi ≡ cond a lo (cond (s_less hi v) hi v)
      go true e = smaller-either lo hi hl hh ∙ rw o refl
      go false e = smaller-either v hi hv hh

-- ---- the bounds of n bits, as words

abbrev low_word : Bool → ℕ → ℕ
low_word to n = cond to (2 ^ 32 - 2 ^ (n - 1)) 0

abbrev high_word : Bool → ℕ → ℕ
high_word to n = cond to (2 ^ (n - 1) - 1) (2 ^ n - 1)

module _ (n : ℕ) (h0 : 0 < n) (h : n ≤ 32) where
  half_pos : 0 < 2 ^ (n - 1)
  half_pos = pow_pos (n - 1)

  half_le : 2 ^ (n - 1) ≤ 2 ^ 31
  half_le = let m : n - 1 ≤ 31 = omega arith in pow_mono m

  whole_le : 2 ^ n ≤ 2 ^ 32
  whole_le = pow_mono h

  narrow : n < 32 → 2 ^ n ≤ 2 ^ 31
  narrow l = let m : n ≤ 31 = omega arith in pow_mono m

  low-lt : (to : Bool) → low_word to n < 2 ^ 32
  low-lt true = omega (arith, half_pos)
  low-lt false = omega arith

  high_lt : (to : Bool) → high_word to n < 2 ^ 32
  high_lt true = omega (arith, half_le)
  high_lt false = omega (arith, whole_le)

  low-is : (to : Bool) → signed_of 32 (low_word to n) ≡ least to n
  unfolding signed_of least
  low-is true =
      let e : 2 ^ 32 - 1 - (2 ^ 32 - 2 ^ (n - 1)) ≡ 2 ^ (n - 1) - 1 = omega (arith, half_pos, half_le) in
      rw (le-ltb ((2 ^ 32 - 2 ^ (n - 1)) * 2) (2 ^ 32) (omega (arith, half_le)), e) refl
  low-is false = refl

  high_is : (to : Bool) → to || ltb n 32 ≡ true → signed_of 32 (high_word to n) ≡ greatest to n
  unfolding signed_of greatest
  high_is true o = rw (lt-ltb ((2 ^ (n - 1) - 1) * 2) (2 ^ 32) (omega (arith, half_pos, half_le))) refl
  high_is false o =
      let m : 2 ^ n ≤ 2 ^ 31 = narrow (ltb-true n 32 o) in
      rw (lt-ltb ((2 ^ n - 1) * 2) (2 ^ 32) (omega arith)) refl

  low-high : (to : Bool) → to || ltb n 32 ≡ true → s_less (high_word to n) (low_word to n) ≡ false
  unfolding s_less
  low-high true o = le-ltb ((2 ^ (n - 1) - 1 + 2 ^ 31) % 2 ^ 32) ((2 ^ 32 - 2 ^ (n - 1) + 2 ^ 31) % 2 ^ 32) (omega (arith, half_pos, half_le))
  low-high false o =
      let m : 2 ^ n ≤ 2 ^ 31 = narrow (ltb-true n 32 o) in
      le-ltb ((2 ^ n - 1 + 2 ^ 31) % 2 ^ 32) (2 ^ 31) (omega (arith, pow_pos n))

  module _ (v : ℕ) (hv : v < 2 ^ 32) where
    -- a signed word
    pub clamp-signed : (to : Bool) → to || ltb n 32 ≡ true → s_min (s_max v (low_word to n)) (high_word to n) ≡ word_of (clamp (least to n) (greatest to n) (signed_of 32 v))
    clamp-signed to o =
        max-min (low_word to n) (high_word to n) v (low-lt to) (high_lt to) hv (low-high to o) ∙ rw (low-is to, high_is to o) refl

    -- an unsigned one is never below the least
    pub clamp-unsigned : (to : Bool) → u_min v (high_word to n) ≡ word_of (clamp (least to n) (greatest to n) (pos v))
    unfolding clamp least greatest
    clamp-unsigned to = either_less v (high_word to n) v (high_word to n) (λ e. e) ∙ last to
      where
        both : (b : Bool) (x y : ℕ) → x < 2 ^ 32 → y < 2 ^ 32 → cond b x y ≡ word_of (cond b (pos x) (pos y))
        both true x y hx hy = sym (word_number false x hx)
        both false x y hx hy = sym (word_number false y hy)

        last : (to : Bool) → cond (ltb (high_word to n) v) (high_word to n) v ≡ word_of (clamp (least to n) (greatest to n) (pos v))
        last true = both (ltb (high_word true n) v) (high_word true n) v (high_lt true) hv
        last false = rw (le-ltb v 0 (omega arith)) (both (ltb (high_word false n) v) (high_word false n) v (high_lt false) hv)

module _ (v : ℕ) (hv : v < 2 ^ 32) where
  -- no word, signed or not, is above the greatest unsigned one
  below-greatest : lt_z (greatest false 32) (signed_of 32 v) ≡ false
  unfolding greatest signed_of
  below-greatest = go (ltb (v * 2) (2 ^ 32))
    where
      go : (b : Bool) → lt_z (pos (2 ^ 32 - 1)) (cond b (pos v) (negsuc (2 ^ 32 - 1 - v))) ≡ false
      go true = le-ltb (2 ^ 32 - 1) v (omega arith)
      go false = refl

  -- a signed word to an unsigned one
  pub clamp-positive : s_max v 0 ≡ word_of (clamp (least false 32) (greatest false 32) (signed_of 32 v))
  unfolding clamp least signed_of word_of
  clamp-positive = rw (below-greatest, sless-is v 0 hv (omega arith)) (go (lt_z (signed_of 32 v) (pos 0)))
    where
      go : (b : Bool) → cond b 0 v ≡ word_of (cond b (pos 0) (signed_of 32 v))
      go true = refl
      go false = sym (word-signed v hv)

  -- a word is within the bounds of its sign
  within : (sign : Bool) → (lt_z (integer_of sign 32 v) (least sign 32) ≡ false) × (lt_z (greatest sign 32) (integer_of sign 32 v) ≡ false)
  unfolding least greatest signed_of
  within true = go (ltb (v * 2) (2 ^ 32)) refl
    where
      go : (b : Bool) → ltb (v * 2) (2 ^ 32) ≡ b
          → (lt_z (cond b (pos v) (negsuc (2 ^ 32 - 1 - v))) (negsuc (2 ^ 31 - 1)) ≡ false) × (lt_z (pos (2 ^ 31 - 1)) (cond b (pos v) (negsuc (2 ^ 32 - 1 - v))) ≡ false)
      go true e = (refl, le-ltb (2 ^ 31 - 1) v (omega (arith, ltb-true (v * 2) (2 ^ 32) e)))
      go false e = (le-ltb (2 ^ 31 - 1) (2 ^ 32 - 1 - v) (omega (arith, ltb-false (v * 2) (2 ^ 32) e)), refl)
  within false = (le-ltb v 0 (omega arith), le-ltb (2 ^ 32 - 1) v (omega arith))

  -- a word to a word of the same sign
  pub clamp-same : (sign : Bool) → word_of (clamp (least sign 32) (greatest sign 32) (integer_of sign 32 v)) ≡ v
  unfolding clamp
  clamp-same sign = rw ((within sign).0, (within sign).1) (word_number sign v hv)
