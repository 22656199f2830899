-- A record as the meanings read it (01, 'Record'): 18 bytes, little-endian: kind, form (0 register, 1 constant, 2 immediate), the opcode's value and
-- the word; and the places of the word's fields, from decode.rs and the arms of `op`. Nothing here is the translator's; that the two readings are
-- the same is proved (proofs/Reading.antt).
use Rattle.std.specs.Prelude.{Bool, cond, List, ℕ, zero, suc, ◌+◌, ◌*◌, ◌^◌, get_or}
use Rattle.meaning.specs.Number.{field, bit_at, signed_of, word_of}

pub record Record : Type 0 where
  pub kind : ℕ
  pub form : ℕ
  pub value : ℕ
  pub word : ℕ

-- the number in n bytes from place p on
unfoldable pub number_at : List ℕ → ℕ → ℕ → ℕ
number_at l p zero = 0
number_at l p (suc n) = get_or l p 0 + 256 * number_at l (suc p) n

unfoldable pub record_of : List ℕ → Record
record_of l = record { kind = number_at l 0 1; form = number_at l 1 1; value = number_at l 2 8; word = number_at l 10 8 }

-- n bits of the word from place p on, and one of them
abbrev pub bits : Record → ℕ → ℕ → ℕ
bits i p n = field i.word p n

abbrev pub bit : Record → ℕ → Bool
bit i p = bit_at i.word p

-- the registers: of the result, and of the operands a, b and c
abbrev pub rd : Record → ℕ
rd i = bits i 0 8

abbrev pub ra : Record → ℕ
ra i = bits i 8 8

abbrev pub rb : Record → ℕ
rb i = bits i 20 8

abbrev pub rc : Record → ℕ
rc i = bits i 39 8

-- the immediates: a word, and twenty bits of which bit 56 is the sign
abbrev pub imm32 : Record → ℕ
imm32 i = bits i 20 32

unfoldable pub simm20 : Record → ℕ
simm20 i = word_of (signed_of 20 (bits i 20 19 + cond (bit i 56) (2 ^ 19) 0))

-- the constant: a slot, and a word of it
abbrev pub constant_slot : Record → ℕ
constant_slot i = bits i 34 5

abbrev pub constant_word : Record → ℕ
constant_word i = bits i 20 14
