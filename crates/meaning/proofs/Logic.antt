-- The arms of logic: lop, lop32i, lop3.
use mathlib.Core.Path.{◌≡◌, refl, ap, ◌∙◌}
use mathlib.Core.Bool.{Bool, true, false, cond, not, ◌&&◌, ◌||◌, xor}
use mathlib.Core.List.{List, [], ◌∷◌}
use mathlib.Core.Option.{some}
use Prim.Native.Nat.{ℕ, ◌+◌, ◌*◌, ◌/◌, ◌^◌, ◌<◌}
use native.Mathlib.Omega.{arith}
use native.Mathlib.Nat.{lt_of_le_of_lt}
use lib.Dec.{eqb}
use lib.Bits.{bit_and, bit_or, bit_xor, or_lt, xor_lt, and_le_l, and_le_r}
use Rattle.evaluation.specs.declared.value.Value.TheVariants.{Word, Truth}
use Rattle.evaluation.specs.declared.state.State.{State}
use Rattle.evaluation.specs.Word.{not_word, unary_word, binary_word, compare_word}
use Rattle.evaluation.specs.Value.{with_word, unary, binary, compared, two}
use Rattle.evaluation.specs.Machine.{bare_effect, one_effect, value_at, effect_of}
use Rattle.translation.specs.Insn as T
use Rattle.meaning.specs.Record.{Record, bits, bit, ra, rc, imm32}
use Rattle.meaning.proofs.Reading.{insn}
use Rattle.translation.specs.Helpers.{lop3, lop3_row, lop3_rows, table_bit}
use Rattle.translation.specs.Arms as A
use Rattle.meaning.proofs.Reading.{bits-lt}
use Rattle.meaning.specs.Number.{bit_at, from_bits, digit}
use Rattle.meaning.specs.Operand.{reg, set_pred, operand_b}
use Rattle.meaning.specs.Meaning as M
use Rattle.translation.proofs.Sem.{ran, halted, sem}
use Rattle.translation.proofs.Stays.{Proper}
use Rattle.meaning.proofs.Helper.{asked, reg-word, operand-word, set-sem, setp-sem, src_b-sem, src_b-missing, missing, final, set_cc_if-sem, inot-sem, ra-sem, rc-sem, complement-word, Gives, code_gives, words}
use Rattle.meaning.proofs.Digits.{from-lt, from_bits_lem, bit-none, bit-and, bit-or, bit-xor, bit_not, digit-is}

-- ---- two words

-- the word whose bits are f of those of x and y
abbrev each_bit : (Bool → Bool → Bool) → ℕ → ℕ → ℕ
each_bit f x y = from_bits 32 (λ j. f (bit_at x j) (bit_at y j))

and_is : (x y : ℕ) → x < 2 ^ 32 → bit_and x y ≡ each_bit ◌&&◌ x y
and_is x y h = from_bits_lem 32 (bit_and x y) (λ j. bit_at x j && bit_at y j) (lt_of_le_of_lt (and_le_l x y) h) (λ j l. bit-and x y j)

or_is : (x y : ℕ) → x < 2 ^ 32 → y < 2 ^ 32 → bit_or x y ≡ each_bit ◌||◌ x y
or_is x y h k = from_bits_lem 32 (bit_or x y) (λ j. bit_at x j || bit_at y j) (or_lt 32 x y h k) (λ j l. bit-or x y j)

xor_is : (x y : ℕ) → x < 2 ^ 32 → y < 2 ^ 32 → bit_xor x y ≡ each_bit xor x y
xor_is x y h k = from_bits_lem 32 (bit_xor x y) (λ j. xor (bit_at x j) (bit_at y j)) (xor_lt 32 x y h k) (λ j l. bit-xor x y j)

bitwise-word : (o x y : ℕ) → y < 2 ^ 32 → M.bitwise o x y < 2 ^ 32
unfolding M.bitwise
bitwise-word o x y h = go (eqb o 0) (eqb o 1) (eqb o 2)
  where
    go : (a b c : Bool) → cond a (each_bit ◌&&◌ x y) (cond b (each_bit ◌||◌ x y) (cond c (each_bit xor x y) y)) < 2 ^ 32
    go true b c = from-lt 32 (λ j. bit_at x j && bit_at y j)
    go false true c = from-lt 32 (λ j. bit_at x j || bit_at y j)
    go false false true = from-lt 32 (λ j. xor (bit_at x j) (bit_at y j))
    go false false false = h

module _ (cs : List ℕ) (s : State) where
  lop_word-sem : (o x y : ℕ) → x < 2 ^ 32 → y < 2 ^ 32 → sem cs (A.lop_word o) (Word x ∷ Word y ∷ []) s ≡ ran s (Word (M.bitwise o x y))
  unfolding A.lop_word M.bitwise effect_of two binary binary_word with_word value_at
  lop_word-sem o x y h k = all.gives
    where
      all : Gives cs s (Word x ∷ Word y ∷ []) (A.lop_word o) (Word (M.bitwise o x y))
      all = words _ (code_gives (rw (and_is x y h) refl)) (words _ (code_gives (rw (or_is x y h k) refl)) (words _ (code_gives (rw (xor_is x y h k) refl)) (code_gives refl)))

  -- the predicate: of the result and zero
  abbrev test_of : ℕ → ℕ → Bool
  test_of t v = cond (eqb t 2) (eqb v 0) (cond (eqb t 3) (not (eqb v 0)) (eqb t 1))

  lop_test-sem : (t v : ℕ) → sem cs (A.lop_test t) (Word v ∷ Word 0 ∷ []) s ≡ ran s (Truth (test_of t v))
  unfolding A.lop_test effect_of bare_effect two compared compare_word with_word value_at
  lop_test-sem t v = go (eqb t 2) (eqb t 3) (eqb t 1) refl refl refl
    where
      go : (a b c : Bool) → eqb t 2 ≡ a → eqb t 3 ≡ b → eqb t 1 ≡ c → sem cs (A.lop_test t) (Word v ∷ Word 0 ∷ []) s ≡ ran s (Truth (test_of t v))
      go true b c p q r = rw p refl
      go false true c p q r = rw (p, q) refl
      go false false true p q r = rw (p, q, r) refl
      go false false false p q r = rw (p, q, r) refl

  -- a store to predicate 7
  none-set : (n : ℕ) (t : Bool) → eqb n 7 ≡ true → set_pred s n t ≡ s
  unfolding set_pred
  none-set n t e = rw e refl

  lop_predicate-sem : (i : Record) (v : ℕ) → sem cs (A.lop_predicate (insn i)) (Word v ∷ []) s ≡ ran (M.set_test i v s) (Word v)
  unfolding A.lop_predicate M.set_test effect_of value_at T.bits T.bit
  lop_predicate-sem i v = go (eqb (bits i 48 3) 7) refl
    where
      go : (b : Bool) → eqb (bits i 48 3) 7 ≡ b → sem cs (A.lop_predicate (insn i)) (Word v ∷ []) s ≡ ran (M.set_test i v s) (Word v)
      go true e = rw (e, none-set (bits i 48 3) (test_of (bits i 44 2) v) e) refl
      go false e = rw (e, lop_test-sem (bits i 44 2) v, setp-sem cs s (bits i 48 3)) refl

-- ---- the arms lop and lop32i

module _ (cs : List ℕ) (i : Record) (s : State) where
  pub lop-does : missing cs i ≡ false → Proper cs s → final (sem cs (A.lop (insn i)) [] s) ≡ some (M.lop cs i s)
  unfolding A.lop value_at T.bits T.bit
  lop-does h w =
      let a = M.complement_if (bit i 39) (reg s (ra i)) in
      let b = M.complement_if (bit i 40) (operand_b cs i s) in
      let ha = complement-word (bit i 39) (reg s (ra i)) (reg-word cs s (ra i) w) in
      let hb = complement-word (bit i 40) (operand_b cs i s) (operand-word cs s i w) in
      let hv = bitwise-word (bits i 41 2) a b hb in
      rw (
        src_b-sem cs s i h,
        ra-sem cs s i,
        inot-sem cs s (bit i 39),
        inot-sem cs s (bit i 40),
        lop_word-sem cs s (bits i 41 2) a b ha hb,
        set_cc_if-sem cs s w (bit i 47) (M.lop_word cs i s) hv,
        lop_predicate-sem cs,
        set-sem cs,
      ) refl

  pub lop-missing : missing cs i ≡ true → sem cs (A.lop (insn i)) [] s ≡ halted (asked i) s
  unfolding A.lop T.bits T.bit
  lop-missing h = rw (src_b-missing cs s i h) refl

  pub lop32i-does : Proper cs s → final (sem cs (A.lop32i (insn i)) [] s) ≡ some (M.lop32i i s)
  unfolding A.lop32i effect_of value_at T.bits T.bit
  lop32i-does w =
      let a = M.complement_if (bit i 55) (reg s (ra i)) in
      let b = M.complement_if (bit i 56) (imm32 i) in
      let ha = complement-word (bit i 55) (reg s (ra i)) (reg-word cs s (ra i) w) in
      let hb = complement-word (bit i 56) (imm32 i) (bits-lt i 20 32) in
      let hv = bitwise-word (bits i 53 2) a b hb in
      rw (
        ra-sem cs s i,
        inot-sem cs s (bit i 55),
        inot-sem cs s (bit i 56),
        lop_word-sem cs s (bits i 53 2) a b ha hb,
        set_cc_if-sem cs s w (bit i 52) (M.lop32i_word i s) hv,
        set-sem cs,
      ) refl

-- ---- lop3: row after row of the table is put to the result

unfoldable with_row : Bool → ℕ → ℕ → ℕ → ℕ → ℕ
with_row on acc x y z = cond on (bit_or acc (bit_and (bit_and x y) z)) acc

-- of one bit: where all three operands have it, the row gives it
abbrev row_bit : Bool → Bool → Bool → Bool → Bool → Bool
row_bit on acc x y z = cond (x && (y && z)) (cond acc true on) acc

bit-row : (on : Bool) (acc x y z j : ℕ) → bit_at (with_row on acc x y z) j ≡ row_bit on (bit_at acc j) (bit_at x j) (bit_at y j) (bit_at z j)
unfolding with_row
bit-row true acc x y z j =
    simp (bit-or acc (bit_and (bit_and x y) z) j, bit-and (bit_and x y) z j, bit-and x y j) (go (bit_at acc j) (bit_at x j) (bit_at y j) (bit_at z j))
  where
    go : (d a b c : Bool) → d || ((a && b) && c) ≡ row_bit true d a b c
    go true true true true = refl
    go true true true false = refl
    go true true false c = refl
    go true false b c = refl
    go false true true true = refl
    go false true true false = refl
    go false true false c = refl
    go false false b c = refl
bit-row false acc x y z j = go (bit_at acc j) (bit_at x j && (bit_at y j && bit_at z j))
  where
    go : (d h : Bool) → d ≡ cond h (cond d true false) d
    go true true = refl
    go true false = refl
    go false true = refl
    go false false = refl

row_word : (on : Bool) (acc x y z : ℕ) → acc < 2 ^ 32 → z < 2 ^ 32 → with_row on acc x y z < 2 ^ 32
unfolding with_row
row_word true acc x y z h k = or_lt 32 acc (bit_and (bit_and x y) z) h (lt_of_le_of_lt (and_le_r (bit_and x y) z) k)
row_word false acc x y z h k = h

-- the two rows from k on
abbrev with_rows : ℕ → ℕ → ℕ → ℕ → ℕ → ℕ → ℕ
with_rows lut k acc x y c = with_row (table_bit lut (k + 1)) (with_row (table_bit lut k) acc x y (not_word c)) x y c

rows-word : (lut k x y c : ℕ) {acc : ℕ} → c < 2 ^ 32 → acc < 2 ^ 32 → with_rows lut k acc x y c < 2 ^ 32
unfolding not_word
rows-word lut k x y c {acc} h l =
    row_word (table_bit lut (k + 1)) (with_row (table_bit lut k) acc x y (not_word c)) x y c (row_word (table_bit lut k) acc x y (not_word c) l (omega arith)) h

-- all eight
abbrev all_rows : ℕ → ℕ → ℕ → ℕ → ℕ
all_rows lut a b c =
    with_rows lut 6 (with_rows lut 4 (with_rows lut 2 (with_rows lut 0 0 (not_word a) (not_word b) c) (not_word a) b c) a (not_word b) c) a b c

all-word : (lut a b c : ℕ) → c < 2 ^ 32 → all_rows lut a b c < 2 ^ 32
all-word lut a b c h =
    rows-word lut 6 a b c h (rows-word lut 4 a (not_word b) c h (rows-word lut 2 (not_word a) b c h (rows-word lut 0 (not_word a) (not_word b) c h (omega arith))))

-- the same rows for one bit of each operand
abbrev bit_rows : ℕ → ℕ → (acc x y z : Bool) → Bool
bit_rows lut k acc x y z = row_bit (table_bit lut (k + 1)) (row_bit (table_bit lut k) acc x y (not z)) x y z

-- exactly one row has the operands' bits
rows-bit : (lut : ℕ) (x y z : Bool)
    → bit_rows lut 6 (bit_rows lut 4 (bit_rows lut 2 (bit_rows lut 0 false (not x) (not y) z) (not x) y z) x (not y) z) x y z
    ≡ bit_at lut (4 * cond x 1 0 + 2 * cond y 1 0 + cond z 1 0)
unfolding table_bit
rows-bit lut true true true = refl
rows-bit lut true true false = refl
rows-bit lut true false true = refl
rows-bit lut true false false = refl
rows-bit lut false true true = refl
rows-bit lut false true false = refl
rows-bit lut false false true = refl
rows-bit lut false false false = refl

bit-not_word : (x j : ℕ) → x < 2 ^ 32 → j < 32 → bit_at (not_word x) j ≡ not (bit_at x j)
unfolding not_word
bit-not_word x j h k = bit_not x j h k

rows_are : (lut a b c : ℕ) → a < 2 ^ 32 → b < 2 ^ 32 → c < 2 ^ 32 → all_rows lut a b c ≡ M.tabled lut a b c
unfolding M.tabled
rows_are lut a b c ha hb hc =
    from_bits_lem 32 (all_rows lut a b c) (λ j. bit_at lut (4 * digit a j + 2 * digit b j + digit c j)) (all-word lut a b c hc) (λ j k.
    let place : 4 * cond (bit_at a j) 1 0 + 2 * cond (bit_at b j) 1 0 + cond (bit_at c j) 1 0 ≡ 4 * digit a j + 2 * digit b j + digit c j
    = omega (arith, digit-is (a / 2 ^ j), digit-is (b / 2 ^ j), digit-is (c / 2 ^ j)) in
    simp (bit-row, bit-not_word, bit-none) (rows-bit lut (bit_at a j) (bit_at b j) (bit_at c j) ∙ ap (bit_at lut) place))

module _ (cs : List ℕ) (s : State) where
  lop3_row-sem : (on : Bool) (acc x y z : ℕ) → sem cs (lop3_row on) (Word acc ∷ Word x ∷ Word y ∷ Word z ∷ []) s ≡ ran s (Word (with_row on acc x y z))
  unfolding lop3_row with_row effect_of two binary binary_word with_word value_at
  lop3_row-sem true acc x y z = refl
  lop3_row-sem false acc x y z = refl

  lop3_rows-sem : (lut k acc x y c : ℕ)
      → sem cs (lop3_rows lut k) (Word acc ∷ Word x ∷ Word y ∷ Word c ∷ Word (not_word c) ∷ []) s ≡ ran s (Word (with_rows lut k acc x y c))
  unfolding lop3_rows value_at
  lop3_rows-sem lut k acc x y c = rw (lop3_row-sem (table_bit lut k) acc x y (not_word c), lop3_row-sem (table_bit lut (k + 1))) refl

  lop3-sem : (lut a b c : ℕ) → a < 2 ^ 32 → b < 2 ^ 32 → c < 2 ^ 32
      → sem cs (lop3 lut) (Word a ∷ Word b ∷ Word c ∷ []) s ≡ ran s (Word (M.tabled lut a b c))
  unfolding lop3 effect_of one_effect unary unary_word with_word value_at
  lop3-sem lut a b c ha hb hc =
      rw (lop3_rows-sem lut 0, lop3_rows-sem lut 2, lop3_rows-sem lut 4, lop3_rows-sem lut 6) (ap (λ (z : ℕ). ran s (Word z)) (rows_are lut a b c ha hb hc))

module _ (cs : List ℕ) (i : Record) (s : State) where
  pub lop3_arm-does : missing cs i ≡ false → Proper cs s → final (sem cs (A.lop3_arm (insn i)) [] s) ≡ some (M.lop3 cs i s)
  unfolding A.lop3_arm A.lop3_table value_at T.bits T.bit
  lop3_arm-does h w =
      let ha = reg-word cs s (ra i) w in
      let hb = operand-word cs s i w in
      let hc = reg-word cs s (rc i) w in
      rw (ra-sem cs s i, src_b-sem cs s i h, rc-sem cs s i, lop3-sem cs s, set-sem cs) refl

  pub lop3_arm-missing : missing cs i ≡ true → sem cs (A.lop3_arm (insn i)) [] s ≡ halted (asked i) s
  unfolding A.lop3_arm value_at T.bits T.bit
  lop3_arm-missing h = rw (ra-sem cs s i, src_b-missing cs s i h) refl
