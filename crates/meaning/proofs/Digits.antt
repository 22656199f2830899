-- Bits: a number is what its bits are; the bits of sums, shifts, fields and of the operations on words.
use mathlib.Core.Path.{◌≡◌, refl, sym, ap, ◌∙◌}
use mathlib.Core.Bool.{Bool, true, false, cond, not, ◌&&◌, ◌||◌, xor, true≢false, false≢true}
use Prim.Native.Nat.{ℕ, zero, suc, ◌+◌, ◌-◌, ◌*◌, ◌/◌, ◌%◌, ◌^◌, ◌≤◌, ◌<◌, min, max}
use native.Mathlib.Omega.{arith}
use native.Mathlib.Nat.{mod-lt, div-div-eq-div-mul, pow-succ', div-eq_of_lt, lt_of_lt_of_le}
use lib.Bits.{bit_and, bit_or, bit_xor, and_shr, or_shr, xor_shr, and_step, or_step, xor_step, differ}
use lib.Pow.{pow_pos, pow_mono, pow-add, shr-shr, field, mod-mod-pow, high, low}
use lib.Dec.{eqb, ltb, leb, eqb-suc-zero, eqb-zero-suc, eqb-suc-suc}
use borrow.Author.Tests.{leb-true, leb-false, le-leb, lt-leb}
use Rattle.evaluation.specs.Word as E
use Rattle.evaluation.proofs.Words.{reversed-lt}
use Rattle.evaluation.proofs.Fields.{inserted-lt}
use Rattle.meaning.specs.Number.{bit_at, from_bits, reversed, inserted}

-- ---- the lowest bit

abbrev odd : ℕ → Bool
odd x = eqb (x % 2) 1

odd-same : (x y : ℕ) → odd x ≡ odd y → x % 2 ≡ y % 2
odd-same x y h = go (x % 2) (y % 2) (omega arith) (omega arith) h
  where
    go : (p q : ℕ) → p < 2 → q < 2 → eqb p 1 ≡ eqb q 1 → p ≡ q
    go zero zero hp hq e = refl
    go (suc zero) (suc zero) hp hq e = refl
    go zero (suc zero) hp hq e = absurd (false≢true e)
    go (suc zero) zero hp hq e = absurd (true≢false e)
    go (suc (suc p)) q hp hq e = absurd (omega arith)
    go zero (suc (suc q)) hp hq e = absurd (omega arith)
    go (suc zero) (suc (suc q)) hp hq e = absurd (omega arith)

pub bit-suc : (x j : ℕ) → bit_at x (suc j) ≡ bit_at (x / 2) j
bit-suc x j = ap odd (ap (λ (z : ℕ). x / z) (pow-succ' 2 j) ∙ sym (div-div-eq-div-mul x 2 (2 ^ j)))

pub bit-zero : (x : ℕ) → bit_at x 0 ≡ odd x
bit-zero x = let d : x / 2 ^ 0 ≡ x = omega arith in ap odd d

-- a digit as a truth
pub digit-is : (x : ℕ) → x % 2 ≡ cond (eqb (x % 2) 1) 1 0
digit-is x = go (x % 2) (omega arith)
  where
    go : (d : ℕ) → d < 2 → d ≡ cond (eqb d 1) 1 0
    go zero h = refl
    go (suc zero) h = refl
    go (suc (suc d)) h = absurd (omega arith)

-- two numbers of n bits are equal when their bits are
pub bits-ext : (n x y : ℕ) → x < 2 ^ n → y < 2 ^ n → ((j : ℕ) → j < n → bit_at x j ≡ bit_at y j) → x ≡ y
bits-ext zero x y hx hy h = omega arith
bits-ext (suc n) x y hx hy h =
    let e = bits-ext n (x / 2) (y / 2) (omega arith) (omega arith) (λ j k. sym (bit-suc x j) ∙ h (suc j) (omega arith) ∙ bit-suc y j) in
    let d = odd-same x y (sym (bit-zero x) ∙ h 0 (omega arith) ∙ bit-zero y) in
    omega arith

-- 0 has no ones
pub bit-none : (j : ℕ) → bit_at 0 j ≡ false
bit-none zero = refl
bit-none (suc j) = bit-suc 0 j ∙ bit-none j

-- ---- shifts

bit-shr : (x k j : ℕ) → bit_at (x / 2 ^ k) j ≡ bit_at x (k + j)
bit-shr x k j = ap odd (shr-shr x k j)

pub bit-mod : (x n j : ℕ) → j < n → bit_at (x % 2 ^ n) j ≡ bit_at x j
bit-mod x n j h =
    let d : n - suc j + 1 + j ≡ n = omega arith in
    ap (λ (z : ℕ). eqb z 1) (ap (λ (k : ℕ). x % 2 ^ k / 2 ^ j % 2) (sym d) ∙ ap (λ (z : ℕ). z % 2) (field x (n - suc j + 1) j) ∙ mod-mod-pow (x / 2 ^ j) (n - suc j) 1)

pub bit_high : (x n j : ℕ) → x < 2 ^ n → n ≤ j → bit_at x j ≡ false
bit_high x n j h k = ap odd (div-eq_of_lt (lt_of_lt_of_le h (pow_mono k)))

-- h above the k bits of c
bit-cat : (h k c j : ℕ) → c < 2 ^ k → bit_at (h * 2 ^ k + c) j ≡ cond (leb k j) (bit_at h (j - k)) (bit_at c j)
bit-cat h k c j l = go (leb k j) refl
  where
    go : (b : Bool) → leb k j ≡ b → bit_at (h * 2 ^ k + c) j ≡ cond b (bit_at h (j - k)) (bit_at c j)
    go true e =
        let q = leb-true k j e in
        let d : k + (j - k) ≡ j = omega arith in
        ap (bit_at (h * 2 ^ k + c)) (sym d) ∙ sym (bit-shr (h * 2 ^ k + c) k (j - k)) ∙ ap (λ (z : ℕ). bit_at z (j - k)) (high h k l)
    go false e = sym (bit-mod (h * 2 ^ k + c) k j (leb-false k j e)) ∙ ap (λ (z : ℕ). bit_at z j) (low h k l)

pub bit-shl : (x k j : ℕ) → bit_at (x * 2 ^ k) j ≡ cond (leb k j) (bit_at x (j - k)) false
bit-shl x k j =
    let d : x * 2 ^ k ≡ x * 2 ^ k + 0 = omega arith in
    ap (λ (z : ℕ). bit_at z j) d ∙ bit-cat x k 0 j (pow_pos k) ∙ ap (cond (leb k j) (bit_at x (j - k))) (bit-none j)

-- a number of n + 1 bits has the top one from 2 ^ n on
pub top_bit : (n x : ℕ) → x < 2 ^ suc n → bit_at x n ≡ leb (2 ^ n) x
top_bit n x h = go (leb (2 ^ n) x) refl
  where
    go : (b : Bool) → leb (2 ^ n) x ≡ b → bit_at x n ≡ b
    go true e =
        let l = leb-true (2 ^ n) x e in
        let d : 1 * 2 ^ n + (x - 2 ^ n) ≡ x = omega arith in
        let z : n - n ≡ 0 = omega arith in
        ap (λ (y : ℕ). bit_at y n) (sym d) ∙ bit-cat 1 n (x - 2 ^ n) n (omega arith) ∙ rw (le-leb n n (omega arith), z) refl
    go false e = bit_high x n n (leb-false (2 ^ n) x e) (omega arith)

-- a power of two has one
pub bit-pow : (k j : ℕ) → bit_at (2 ^ k) j ≡ eqb j k
bit-pow zero zero = refl
bit-pow zero (suc j) = rw (eqb-suc-zero j) (bit-suc 1 j ∙ bit-none j)
bit-pow (suc k) zero = let d : 2 ^ suc k % 2 ≡ 0 = omega arith in rw (eqb-zero-suc k) (bit-zero (2 ^ suc k) ∙ ap (λ (z : ℕ). eqb z 1) d)
bit-pow (suc k) (suc j) = let d : 2 ^ suc k / 2 ≡ 2 ^ k = omega arith in rw (eqb-suc-suc j k) (bit-suc (2 ^ suc k) j ∙ ap (λ (z : ℕ). bit_at z j) d ∙ bit-pow k j)

-- ---- numbers made of bits

-- a bit as a number
bit-of : (b : Bool) → bit_at (cond b 1 0) 0 ≡ b
bit-of true = refl
bit-of false = refl

from_step : (n : ℕ) (f : ℕ → Bool) → from_bits (suc n) f ≡ cond (f n) 1 0 * 2 ^ n + from_bits n f
unfolding from_bits
from_step n f = go (f n)
  where
    go : (b : Bool) → from_bits n f + cond b (2 ^ n) 0 ≡ cond b 1 0 * 2 ^ n + from_bits n f
    go true = omega arith
    go false = omega arith

pub from-lt : (n : ℕ) (f : ℕ → Bool) → from_bits n f < 2 ^ n
unfolding from_bits
from-lt zero f = omega arith
from-lt (suc n) f = go (f n) (from-lt n f)
  where
    go : (b : Bool) → from_bits n f < 2 ^ n → from_bits n f + cond b (2 ^ n) 0 < 2 ^ suc n
    go true h = omega arith
    go false h = omega arith

pub bit-from : (n : ℕ) (f : ℕ → Bool) (j : ℕ) → j < n → bit_at (from_bits n f) j ≡ f j
bit-from zero f j h = absurd (omega arith)
bit-from (suc n) f j h =
    ap (λ (z : ℕ). bit_at z j) (from_step n f) ∙ bit-cat (cond (f n) 1 0) n (from_bits n f) j (from-lt n f) ∙ go (leb n j) refl (λ l. bit-from n f j l)
  where
    go : (b : Bool) → leb n j ≡ b → (j < n → bit_at (from_bits n f) j ≡ f j) → cond b (bit_at (cond (f n) 1 0) (j - n)) (bit_at (from_bits n f) j) ≡ f j
    go true e below =
        let l = leb-true n j e in
        let d : j ≡ n = omega arith in
        let z : n - n ≡ 0 = omega arith in
        rw (d, z) (bit-of (f n))
    go false e below = below (leb-false n j e)

-- a number of n bits is made of them
pub from_bits_lem : (n x : ℕ) (f : ℕ → Bool) → x < 2 ^ n → ((j : ℕ) → j < n → bit_at x j ≡ f j) → x ≡ from_bits n f
from_bits_lem n x f h k = bits-ext n x (from_bits n f) h (from-lt n f) (λ j l. k j l ∙ sym (bit-from n f j l))

-- ---- the operations, bit by bit

-- the lowest bit of a number that ends in the digit m
low_digit : (a m : ℕ) → m < 2 → odd (a * 2 + m) ≡ eqb m 1
low_digit a m h = let d : (a * 2 + m) % 2 ≡ m = omega arith in ap (λ (z : ℕ). eqb z 1) d

-- what holds of the digits 0 and 1 holds of the lowest
by_digits : (P : ℕ → ℕ → Type 0) → P 0 0 → P 0 1 → P 1 0 → P 1 1 → (x y : ℕ) → P (x % 2) (y % 2)
by_digits P a b c d x y = go (x % 2) (y % 2) (omega arith) (omega arith)
  where
    go : (p q : ℕ) → p < 2 → q < 2 → P p q
    go zero zero hp hq = a
    go zero (suc zero) hp hq = b
    go (suc zero) zero hp hq = c
    go (suc zero) (suc zero) hp hq = d
    go (suc (suc p)) q hp hq = absurd (omega arith)
    go zero (suc (suc q)) hp hq = absurd (omega arith)
    go (suc zero) (suc (suc q)) hp hq = absurd (omega arith)

odd-and : (x y : ℕ) → odd (bit_and x y) ≡ odd x && odd y
odd-and x y =
    ap odd (and_step x y) ∙ low_digit (bit_and (x / 2) (y / 2)) (min (x % 2) (y % 2)) (omega arith)
    ∙ by_digits (λ p q. eqb (min p q) 1 ≡ eqb p 1 && eqb q 1) refl refl refl refl x y

odd-or : (x y : ℕ) → odd (bit_or x y) ≡ odd x || odd y
odd-or x y =
    ap odd (or_step x y) ∙ low_digit (bit_or (x / 2) (y / 2)) (max (x % 2) (y % 2)) (omega arith)
    ∙ by_digits (λ p q. eqb (max p q) 1 ≡ eqb p 1 || eqb q 1) refl refl refl refl x y

odd-xor : (x y : ℕ) → odd (bit_xor x y) ≡ xor (odd x) (odd y)
unfolding xor
odd-xor x y =
    ap odd (xor_step x y) ∙ low_digit (bit_xor (x / 2) (y / 2)) (differ (x % 2) (y % 2)) (by_digits (λ p q. differ p q < 2) (omega arith) (omega arith) (omega arith) (omega arith) x y)
    ∙ by_digits (λ p q. eqb (differ p q) 1 ≡ xor (eqb p 1) (eqb q 1)) refl refl refl refl x y

pub bit-and : (x y j : ℕ) → bit_at (bit_and x y) j ≡ bit_at x j && bit_at y j
bit-and x y j = ap odd (and_shr x y j) ∙ odd-and (x / 2 ^ j) (y / 2 ^ j)

pub bit-or : (x y j : ℕ) → bit_at (bit_or x y) j ≡ bit_at x j || bit_at y j
bit-or x y j = ap odd (or_shr x y j) ∙ odd-or (x / 2 ^ j) (y / 2 ^ j)

pub bit-xor : (x y j : ℕ) → bit_at (bit_xor x y) j ≡ xor (bit_at x j) (bit_at y j)
bit-xor x y j = ap odd (xor_shr x y j) ∙ odd-xor (x / 2 ^ j) (y / 2 ^ j)

odd-not : (x y : ℕ) → x % 2 + y % 2 ≡ 1 → odd x ≡ not (odd y)
odd-not x y h = go (y % 2) (x % 2) (omega arith) h
  where
    go : (q p : ℕ) → q < 2 → p + q ≡ 1 → eqb p 1 ≡ not (eqb q 1)
    go zero p l e = let d : p ≡ 1 = omega arith in rw d refl
    go (suc zero) p l e = let d : p ≡ 0 = omega arith in rw d refl
    go (suc (suc q)) p l e = absurd (omega arith)

-- every one of n bits turned
bit-turned : (n x j : ℕ) → x < 2 ^ n → j < n → bit_at (2 ^ n - 1 - x) j ≡ not (bit_at x j)
bit-turned zero x j h k = absurd (omega arith)
bit-turned (suc n) x zero h k = bit-zero (2 ^ suc n - 1 - x) ∙ odd-not (2 ^ suc n - 1 - x) x (omega (arith, pow_pos n)) ∙ ap not (sym (bit-zero x))
bit-turned (suc n) x (suc j) h k =
    let e : (2 ^ suc n - 1 - x) / 2 ≡ 2 ^ n - 1 - x / 2 = omega arith in
    bit-suc (2 ^ suc n - 1 - x) j ∙ ap (λ (z : ℕ). bit_at z j) e ∙ bit-turned n (x / 2) j (omega arith) (omega arith) ∙ ap not (sym (bit-suc x j))

pub bit_not : (x j : ℕ) → x < 2 ^ 32 → j < 32 → bit_at (2 ^ 32 - 1 - x) j ≡ not (bit_at x j)
bit_not x j h k = bit-turned 32 x j h k

-- ---- the opposite order

bit-reversed : (n x j : ℕ) → j < n → bit_at (E.reversed n x) j ≡ bit_at x (n - suc j)
unfolding E.reversed
bit-reversed zero x j h = absurd (omega arith)
bit-reversed (suc n) x j h =
    let d : suc n - suc j ≡ n - j = omega arith in
    rw d (bit-cat (x % 2) n (E.reversed n (x / 2)) j (reversed-lt n (x / 2)) ∙ go (leb n j) refl (λ l. bit-reversed n (x / 2) j l))
  where
    go : (b : Bool) → leb n j ≡ b → (j < n → bit_at (E.reversed n (x / 2)) j ≡ bit_at (x / 2) (n - suc j)) → cond b (bit_at (x % 2) (j - n)) (bit_at (E.reversed n (x / 2)) j) ≡ bit_at x (n - j)
    go true e below =
        let l = leb-true n j e in
        let d : j ≡ n = omega arith in
        let z : n - n ≡ 0 = omega arith in
        rw (d, z) (bit-mod x 1 0 (omega arith))
    go false e below =
        let l = leb-false n j e in
        let d : n - j ≡ suc (n - suc j) = omega arith in
        rw d (below l ∙ sym (bit-suc x (n - suc j)))

pub reversed-is : (x : ℕ) → x < 2 ^ 32 → E.reversed 32 x ≡ reversed x
unfolding reversed
reversed-is x h =
    from_bits_lem 32 (E.reversed 32 x) (λ j. bit_at x (31 - j)) (reversed-lt 32 x) (λ j l. let d : 31 - j ≡ 32 - suc j = omega arith in rw d (bit-reversed 32 x j l))

-- ---- fields

-- a field put into a number: the part above it, the field, the part below
inserted-parts : (x v p n : ℕ) → E.inserted x v p n ≡ (x / 2 ^ (p + n) * 2 ^ n + v % 2 ^ n) * 2 ^ p + x % 2 ^ p
inserted-parts x v p n =
    let a = x / 2 ^ (p + n) in
    let e : a * 2 ^ (p + n) ≡ a * 2 ^ n * 2 ^ p = rw (pow-add 2 p n) (omega arith) in
    ap (λ (z : ℕ). z + (v % 2 ^ n * 2 ^ p + x % 2 ^ p)) e ∙ omega arith

-- a bit of the field is v's, any other x's
bit-inserted : (x v p n j : ℕ) → bit_at (E.inserted x v p n) j ≡ cond (leb p j && ltb j (p + n)) (bit_at v (j - p)) (bit_at x j)
bit-inserted x v p n j =
    ap (λ (z : ℕ). bit_at z j) (inserted-parts x v p n)
    ∙ bit-cat (x / 2 ^ (p + n) * 2 ^ n + v % 2 ^ n) p (x % 2 ^ p) j (mod-lt x (pow_pos p))
    ∙ go (leb p j) (leb n (j - p)) refl refl
  where
    go : (b d : Bool) → leb p j ≡ b → leb n (j - p) ≡ d
        → cond b (bit_at (x / 2 ^ (p + n) * 2 ^ n + v % 2 ^ n) (j - p)) (bit_at (x % 2 ^ p) j) ≡ cond (b && ltb j (p + n)) (bit_at v (j - p)) (bit_at x j)
    go false d e f = bit-mod x p j (leb-false p j e)
    go true true e f =
        let k = leb-true p j e in
        let l = leb-true n (j - p) f in
        let m : p + n + (j - p - n) ≡ j = omega arith in
        bit-cat (x / 2 ^ (p + n)) n (v % 2 ^ n) (j - p) (mod-lt v (pow_pos n)) ∙ rw (f, lt-leb (suc j) (p + n) (omega arith)) (bit-shr x (p + n) (j - p - n) ∙ ap (bit_at x) m)
    go true false e f =
        let k = leb-true p j e in
        let l = leb-false n (j - p) f in
        bit-cat (x / 2 ^ (p + n)) n (v % 2 ^ n) (j - p) (mod-lt v (pow_pos n)) ∙ rw (f, le-leb (suc j) (p + n) (omega arith)) (bit-mod v n (j - p) l)

pub inserted-is : (x v p n : ℕ) → x < 2 ^ 32 → p + n ≤ 32 → E.inserted x v p n ≡ inserted x v p n
unfolding inserted
inserted-is x v p n h l =
    from_bits_lem 32 (E.inserted x v p n) (λ j. cond (leb p j && ltb j (p + n)) (bit_at v (j - p)) (bit_at x j)) (inserted-lt x v p n h l) (λ j k. bit-inserted x v p n j)
