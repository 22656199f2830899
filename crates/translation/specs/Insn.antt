-- The fields of an instruction (decode.rs): its form (0 register, 1 constant buffer, 2 immediate), the value of its opcode, its word.
use Rattle.std.specs.Prelude.{Bool, cond, ℕ, ◌+◌, ◌/◌, ◌%◌, ◌^◌, eqb}
use Rattle.translation.specs.declared.insn.Insn as D

abbrev pub Insn : Type 0
Insn = D.Insn

-- n bits from place lo on
unfoldable pub bits : Insn → ℕ → ℕ → ℕ
bits i lo n = i.word / 2 ^ lo % 2 ^ n

unfoldable pub bit : Insn → ℕ → Bool
bit i b = eqb (bits i b 1) 1

abbrev pub rd : Insn → ℕ
rd i = bits i 0 8

abbrev pub ra : Insn → ℕ
ra i = bits i 8 8

abbrev pub rb : Insn → ℕ
rb i = bits i 20 8

abbrev pub rc : Insn → ℕ
rc i = bits i 39 8

abbrev pub imm32 : Insn → ℕ
imm32 i = bits i 20 32

-- twenty bits, the top one the sign
unfoldable pub simm20 : Insn → ℕ
simm20 i = cond (bit i 56) (bits i 20 19 + 4294443008) (bits i 20 19)

-- the constant slot, and the word in it: the Rust's offset is four times that
abbrev pub cslot : Insn → ℕ
cslot i = bits i 34 5

abbrev pub cword : Insn → ℕ
cword i = bits i 20 14
