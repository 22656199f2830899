-- The two works of samples/ (count.bin, conditions.bin): their records, and what they must do from every state.
use Rattle.std.specs.Prelude.{◌≡◌, Bool, List, [], ◌∷◌, ℕ, ◌+◌, ◌*◌, ◌/◌, ◌%◌, ◌^◌, ◌≤◌, eqb, leb}
use Rattle.evaluation.specs.declared.state.State.{State}
use Rattle.meaning.specs.Number.{from_bits, field}
use Rattle.meaning.specs.Operand.{reg, flag}
use Rattle.meaning.specs.Meaning.{overflows}

-- ---- the count: 64 bits in two registers, R0 low and R1 high

-- iadd R0.CC, R0, 1
abbrev pub count_low : List ℕ
count_low = 9 ∷ 2 ∷ 0 ∷ 0 ∷ 0 ∷ 0 ∷ 0 ∷ 0 ∷ 16 ∷ 56 ∷ 0 ∷ 0 ∷ 23 ∷ 0 ∷ 0 ∷ 128 ∷ 16 ∷ 56 ∷ []

-- iadd.X R1, R1, RZ
abbrev pub count_high : List ℕ
count_high = 9 ∷ 0 ∷ 0 ∷ 0 ∷ 0 ∷ 0 ∷ 0 ∷ 0 ∷ 16 ∷ 92 ∷ 1 ∷ 1 ∷ 247 ∷ 15 ∷ 0 ∷ 8 ∷ 16 ∷ 92 ∷ []

abbrev pub count_records : List (List ℕ)
count_records = count_low ∷ count_high ∷ []

abbrev pub count64 : State → ℕ
count64 s = reg s 1 * 2 ^ 32 + reg s 0

-- t is n steps after s; other registers and the predicates are as they were
pub record Counts (n : ℕ) (s t : State) : Type 0 where
  pub count : count64 t ≡ (count64 s + n) % 2 ^ 64
  pub others : (k : ℕ) → 2 ≤ k → reg t k ≡ reg s k
  pub preds : t.preds ≡ s.preds

-- ---- the conditions: the flags of R0 + R1, packed beside a number in byte 1 of R2

-- iadd R0.CC, R0, R1
abbrev pub conditions_sum : List ℕ
conditions_sum = 9 ∷ 0 ∷ 0 ∷ 0 ∷ 0 ∷ 0 ∷ 0 ∷ 0 ∷ 16 ∷ 92 ∷ 0 ∷ 0 ∷ 23 ∷ 0 ∷ 0 ∷ 128 ∷ 16 ∷ 92 ∷ []

-- p2r R2.B1, CC, R2, 0xf
abbrev pub conditions_pack : List ℕ
conditions_pack = 28 ∷ 2 ∷ 0 ∷ 0 ∷ 0 ∷ 0 ∷ 0 ∷ 0 ∷ 232 ∷ 56 ∷ 2 ∷ 2 ∷ 247 ∷ 0 ∷ 0 ∷ 3 ∷ 232 ∷ 56 ∷ []

abbrev pub conditions_records : List (List ℕ)
conditions_records = conditions_sum ∷ conditions_pack ∷ []

-- Z, S, C and O of the sum of two words
abbrev pub sum_flags : ℕ → ℕ → List Bool
sum_flags a b = eqb ((a + b) % 2 ^ 32) 0 ∷ leb (2 ^ 31) ((a + b) % 2 ^ 32) ∷ leb (2 ^ 32) (a + b) ∷ overflows a b 0 ∷ []

-- the sum and its flags; in R2 bits 8 to 11 are the flags and all others stay, so the number in bits 12 to 15 survives
pub record Packs (s t : State) : Type 0 where
  pub sum : reg t 0 ≡ (reg s 0 + reg s 1) % 2 ^ 32
  pub flags : t.flags ≡ sum_flags (reg s 0) (reg s 1)
  pub word : reg t 2 ≡ reg s 2 / 2 ^ 12 * 2 ^ 12 + (from_bits 4 (λ n. flag t n) * 2 ^ 8 + reg s 2 % 2 ^ 8)
  pub number : field (reg t 2) 12 4 ≡ field (reg s 2) 12 4
  pub second : reg t 1 ≡ reg s 1
  pub others : (k : ℕ) → 3 ≤ k → reg t k ≡ reg s k
  pub preds : t.preds ≡ s.preds
