-- Whole numbers. A word is a number below 2 ^ 32; as a signed number it is one from -2 ^ 31 to 2 ^ 31 - 1.
use Rattle.std.specs.Prelude.{Bool, cond, ◌&&◌, ℕ, zero, suc, ◌+◌, ◌-◌, ◌*◌, ◌/◌, ◌%◌, ◌^◌, eqb, ltb, leb, ℤ, pos, negsuc}
use Rattle.std.specs.Int.Signed.{lt_z, le_z}

-- ---- words and integers

-- the signed number of n bits: its top bit counts negative
unfoldable pub signed_of : ℕ → ℕ → ℤ
signed_of n x = cond (ltb (x * 2) (2 ^ n)) (pos x) (negsuc (2 ^ n - 1 - x))

abbrev pub signed : ℕ → ℤ
signed x = signed_of 32 x

-- a number of n bits, signed or not
abbrev pub integer_of : Bool → ℕ → ℕ → ℤ
integer_of sign n x = cond sign (signed_of n x) (pos x)

-- the word that an integer wraps to
unfoldable pub word_of : ℤ → ℕ
word_of (pos n) = n % 2 ^ 32
word_of (negsuc n) = 2 ^ 32 - 1 - n % 2 ^ 32

-- the integer of lo to hi that is nearest
unfoldable pub clamp : ℤ → ℤ → ℤ → ℤ
clamp lo hi z = cond (lt_z z lo) lo (cond (lt_z hi z) hi z)

-- the least and the greatest number of n bits, signed or not
unfoldable pub least : Bool → ℕ → ℤ
least sign n = cond sign (negsuc (2 ^ (n - 1) - 1)) (pos 0)

unfoldable pub greatest : Bool → ℕ → ℤ
greatest sign n = cond sign (pos (2 ^ (n - 1) - 1)) (pos (2 ^ n - 1))

-- divided by 2 ^ n and rounded down
unfoldable pub divided : ℤ → ℕ → ℤ
divided (pos x) n = pos (x / 2 ^ n)
divided (negsuc x) n = negsuc (x / 2 ^ n)

-- of two words the smaller or greater, as signed or unsigned numbers
unfoldable pub smaller : Bool → ℕ → ℕ → ℕ
smaller sign x y = cond (le_z (integer_of sign 32 x) (integer_of sign 32 y)) x y

unfoldable pub greater : Bool → ℕ → ℕ → ℕ
greater sign x y = cond (le_z (integer_of sign 32 x) (integer_of sign 32 y)) y x

-- ---- bits

-- bit j, as a number and as a truth
abbrev pub digit : ℕ → ℕ → ℕ
digit x j = x / 2 ^ j % 2

abbrev pub bit_at : ℕ → ℕ → Bool
bit_at x j = eqb (digit x j) 1

-- the number whose bit j is f j, for the places below n
unfoldable pub from_bits : ℕ → (ℕ → Bool) → ℕ
from_bits zero f = 0
from_bits (suc n) f = from_bits n f + cond (f n) (2 ^ n) 0

-- how many of the n lowest bits are ones
unfoldable pub ones : ℕ → ℕ → ℕ
ones zero x = 0
ones (suc n) x = ones n x + cond (bit_at x n) 1 0

-- the highest place below n with a one; all ones where there is none
unfoldable pub highest_one : ℕ → ℕ → ℕ
highest_one zero x = 2 ^ 32 - 1
highest_one (suc n) x = cond (bit_at x n) n (highest_one n x)

-- every bit turned
unfoldable pub complement : ℕ → ℕ
complement x = 2 ^ 32 - 1 - x

-- the bits in the opposite order
unfoldable pub reversed : ℕ → ℕ
reversed x = from_bits 32 (λ j. bit_at x (31 - j))

-- ---- fields: n bits from place p on

abbrev pub field : ℕ → ℕ → ℕ → ℕ
field x p n = x / 2 ^ p % 2 ^ n

-- the field as a word, its sign extended or not
unfoldable pub extracted : Bool → ℕ → ℕ → ℕ → ℕ
extracted sign x p n = word_of (integer_of sign n (field x p n))

-- x with the field replaced by the low bits of v
unfoldable pub inserted : ℕ → ℕ → ℕ → ℕ → ℕ
inserted x v p n = from_bits 32 (λ j. cond (leb p j && ltb j (p + n)) (bit_at v (j - p)) (bit_at x j))
