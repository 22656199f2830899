-- The arms that shift: shl, shr, shf, lea.
use mathlib.Core.Path.{◌≡◌, refl, sym, ap, ◌∙◌}
use mathlib.Core.Bool.{Bool, true, false, cond, not, ◌&&◌, ◌||◌, true≢false, false≢true, and-true}
use mathlib.Core.List.{List, [], ◌∷◌}
use mathlib.Core.Option.{some}
use Prim.Native.Nat.{ℕ, ◌+◌, ◌-◌, ◌*◌, ◌/◌, ◌%◌, ◌^◌, ◌≤◌, ◌<◌, min}
use native.Mathlib.Omega.{arith}
use native.Mathlib.Nat.{div-le_self, mul-mod_left, add-mul-div_right, mul-div-mul_right, mul_assoc, add_comm}
use lib.Dec.{eqb, ltb, leb}
use lib.IntN.{pos, negsuc}
use lib.Bits.{bit_or, and_mask, or_shifted_r, or_comm}
use lib.Pow.{pow_pos, pow-add, high, low, mod-pow-add, shl-shr, shr_lt}
use borrow.Author.Tests.{ltb-true, ltb-false, lt-ltb, le-ltb, le-leb, lt-leb, eqb-true, eqb-false}
use Rattle.evaluation.specs.declared.value.Value.{Value}
use Rattle.evaluation.specs.declared.value.Value.TheVariants.{Word}
use Rattle.evaluation.specs.declared.state.State.{State}
use Rattle.evaluation.specs.Word.{unary_word, binary_word, compare_word}
use Rattle.evaluation.specs.Value.{with_word, with_truth, unary, binary, compared, two, chosen, three}
use Rattle.evaluation.specs.Machine.{one_effect, value_at, effect_of}
use Rattle.translation.specs.Insn as T
use Rattle.meaning.specs.Record.{Record, bits, bit, rd, ra, rb, rc, constant_slot, constant_word}
use Rattle.meaning.proofs.Reading.{insn}
use Rattle.translation.specs.Code.{ite}
use Rattle.translation.specs.Helpers.{r, src_b, cbuf_imm, shifted, shift_fill, shift_end, shift}
use Rattle.translation.specs.Arms.{shl, shr, shf_left, shf_amount, shf_select, shf_word, shf_words, shf, lea_reg, lea_cbuf, lea_high, lea_b, lea_shift, lea_join, lea_word, lea_negates, lea}
use Rattle.meaning.proofs.Reading.{bits-lt}
use Rattle.meaning.specs.Number.{signed_of, integer_of, word_of, divided}
use Rattle.meaning.specs.Operand.{reg, set_reg, constant, operand_b}
use Rattle.meaning.specs.Meaning as M
use Rattle.translation.proofs.Sem.{ran, halted, sem}
use Rattle.translation.proofs.Stays.{Proper}
use Rattle.meaning.proofs.Helper.{asked, reg-word, set-sem, src_b-sem, src_b-missing, missing, final, select-is, ineg-sem, ra-sem, rb-sem, rc-sem, note_unless-sem, negate_word, constant-sem, constant-missing}
use Rattle.meaning.proofs.Reverse.{reverse_if-sem, reverse_if-word}
use Rattle.meaning.proofs.Carry.{add-wrapped}
use Rattle.meaning.proofs.Order.{umin-is}

-- ---- words shifted by fewer than 32 places, and what is left after 32

-- a word as a number, signed or not, divided by 2 ^ n
abbrev sunk : Bool → ℕ → ℕ → ℕ
sunk sign a n = word_of (divided (integer_of sign 32 a) n)

-- what is left after 32 places or more: of a signed number its sign, else nothing
abbrev left_after : Bool → ℕ → ℕ
left_after sign a = cond sign (sunk true a 32) 0

module _ (a n : ℕ) (h : a < 2 ^ 32) where
  quotient-word : (x : ℕ) → x < 2 ^ 32 → x / 2 ^ n % 2 ^ 32 ≡ x / 2 ^ n
  quotient-word x l = let k = div-le_self x (2 ^ n) in omega arith

  logical-is : a / 2 ^ n ≡ sunk false a n
  unfolding word_of divided
  logical-is = sym (quotient-word a h)

  arithmetic-is : cond (ltb a (2 ^ 31)) (a / 2 ^ n) (2 ^ 32 - 1 - (2 ^ 32 - 1 - a) / 2 ^ n) ≡ sunk true a n
  unfolding word_of divided signed_of
  arithmetic-is = go (ltb a (2 ^ 31)) refl
    where
      go : (b : Bool) → ltb a (2 ^ 31) ≡ b
          → cond b (a / 2 ^ n) (2 ^ 32 - 1 - (2 ^ 32 - 1 - a) / 2 ^ n) ≡ word_of (divided (cond (ltb (a * 2) (2 ^ 32)) (pos a) (negsuc (2 ^ 32 - 1 - a))) n)
      go true e = let l = ltb-true a (2 ^ 31) e in rw (lt-ltb (a * 2) (2 ^ 32) (omega arith), quotient-word a h) refl
      go false e = let l = ltb-false a (2 ^ 31) e in rw (le-ltb (a * 2) (2 ^ 32) (omega arith), quotient-word (2 ^ 32 - 1 - a) (omega arith)) refl

-- 31 places leave what 32 do
fill_is : (a : ℕ) → a < 2 ^ 32 → cond (ltb a (2 ^ 31)) (a / 2 ^ 31) (2 ^ 32 - 1 - (2 ^ 32 - 1 - a) / 2 ^ 31) ≡ sunk true a 32
fill_is a h = go (ltb a (2 ^ 31)) refl ∙ arithmetic-is a 32 h
  where
    go : (b : Bool) → ltb a (2 ^ 31) ≡ b
        → cond b (a / 2 ^ 31) (2 ^ 32 - 1 - (2 ^ 32 - 1 - a) / 2 ^ 31) ≡ cond (ltb a (2 ^ 31)) (a / 2 ^ 32) (2 ^ 32 - 1 - (2 ^ 32 - 1 - a) / 2 ^ 32)
    go true e = let l = ltb-true a (2 ^ 31) e in rw e (omega arith)
    go false e = let l = ltb-false a (2 ^ 31) e in rw e (omega arith)

left_word : (a n : ℕ) → n < 32 → binary_word 43 a n ≡ Word (M.wrap (a * 2 ^ n))
unfolding binary_word
left_word a n h = rw (lt-ltb n 32 h) refl

module _ (cs : List ℕ) (s : State) where
  shifted-left : (sign : Bool) (a n : ℕ) → n < 32 → sem cs (shifted true sign) (Word a ∷ Word n ∷ []) s ≡ ran s (Word (a * 2 ^ n % 2 ^ 32))
  unfolding shifted effect_of two binary with_word value_at
  shifted-left sign a n h = rw (left_word a n h) refl

  shifted-right : (sign : Bool) (a n : ℕ) → a < 2 ^ 32 → n < 32 → sem cs (shifted false sign) (Word a ∷ Word n ∷ []) s ≡ ran s (Word (sunk sign a n))
  unfolding shifted effect_of two binary binary_word with_word value_at
  shifted-right true a n h l = rw (lt-ltb n 32 l, arithmetic-is a n h) refl
  shifted-right false a n h l = rw (lt-ltb n 32 l, logical-is a n h) refl

  shift_fill-sem : (sign : Bool) (a : ℕ) → a < 2 ^ 32 → sem cs (shift_fill sign) (Word a ∷ []) s ≡ ran s (Word (left_after sign a))
  unfolding shift_fill effect_of one_effect unary unary_word two binary binary_word with_word value_at
  shift_fill-sem true a h = rw (fill_is a h) refl
  shift_fill-sem false a h = refl

  shift_end-sem : (sign wrap : Bool) (a b v : ℕ) → a < 2 ^ 32
      → sem cs (shift_end sign wrap) (Word a ∷ Word b ∷ Word v ∷ []) s ≡ ran s (Word (cond wrap v (cond (leb 32 b) (left_after sign a) v)))
  unfolding shift_end effect_of two compared compare_word with_word value_at
  shift_end-sem sign true a b v h = refl
  shift_end-sem sign false a b v h = rw (shift_fill-sem sign a h, select-is) refl

  -- ---- shl and shr: the count, whole or modulo 32

  shift-left : (wrap : Bool) (a b : ℕ) → a < 2 ^ 32
      → sem cs (shift true false wrap) (Word a ∷ Word b ∷ []) s
      ≡ ran s (Word (cond (ltb (cond wrap (b % 32) b) 32) (a * 2 ^ cond wrap (b % 32) b % 2 ^ 32) 0))
  unfolding shift effect_of two binary binary_word with_word value_at
  shift-left wrap a b h = rw (and_mask b 5, shifted-left false a (b % 32) (omega arith), shift_end-sem false wrap a b _ h, counted wrap) refl
    where
      below : (t : Bool) → ltb b 32 ≡ t → cond (leb 32 b) 0 (a * 2 ^ (b % 32) % 2 ^ 32) ≡ cond t (a * 2 ^ b % 2 ^ 32) 0
      below true e = let l = ltb-true b 32 e in let m : b % 32 ≡ b = omega arith in rw (m, lt-leb 32 b l) refl
      below false e = rw (le-leb 32 b (ltb-false b 32 e)) refl

      counted : (w : Bool) → cond w (a * 2 ^ (b % 32) % 2 ^ 32) (cond (leb 32 b) 0 (a * 2 ^ (b % 32) % 2 ^ 32))
          ≡ cond (ltb (cond w (b % 32) b) 32) (a * 2 ^ cond w (b % 32) b % 2 ^ 32) 0
      counted true = rw (lt-ltb (b % 32) 32 (omega arith)) refl
      counted false = below (ltb b 32) refl

  shift-right : (sign wrap : Bool) (a b : ℕ) → a < 2 ^ 32
      → sem cs (shift false sign wrap) (Word a ∷ Word b ∷ []) s ≡ ran s (Word (sunk sign a (min (cond wrap (b % 32) b) 32)))
  unfolding shift effect_of two binary binary_word with_word value_at
  shift-right sign wrap a b h =
      rw (and_mask b 5, shifted-right sign a (b % 32) h (omega arith), shift_end-sem (sign && true) wrap a b _ h, counted wrap) refl
    where
      nothing : (g : Bool) → left_after (g && true) a ≡ sunk g a 32
      nothing true = refl
      nothing false = let z : a / 2 ^ 32 ≡ 0 = omega arith in sym (sym (logical-is a 32 h) ∙ z)

      below : (t : Bool) → ltb b 32 ≡ t → cond (leb 32 b) (left_after (sign && true) a) (sunk sign a (b % 32)) ≡ sunk sign a (min b 32)
      below true e = let l = ltb-true b 32 e in let m : b % 32 ≡ b = omega arith in let k : min b 32 ≡ b = omega arith in rw (lt-leb 32 b l, m, k) refl
      below false e = let l = ltb-false b 32 e in let k : min b 32 ≡ 32 = omega arith in rw (le-leb 32 b l, k) (nothing sign)

      counted : (w : Bool) → cond w (sunk sign a (b % 32)) (cond (leb 32 b) (left_after (sign && true) a) (sunk sign a (b % 32)))
          ≡ sunk sign a (min (cond w (b % 32) b) 32)
      counted true = let m : min (b % 32) 32 ≡ b % 32 = omega arith in rw m refl
      counted false = below (ltb b 32) refl

module _ (cs : List ℕ) (i : Record) (s : State) where
  pub shl-does : missing cs i ≡ false → Proper cs s → final (sem cs (shl (insn i)) [] s) ≡ some (M.shl cs i s)
  unfolding shl value_at T.bits T.bit
  shl-does h w =
      rw (ra-sem cs s i, src_b-sem cs s i h, shift-left cs s (bit i 39) _ _ (reg-word cs s (ra i) w), set-sem cs s) refl

  pub shl-missing : missing cs i ≡ true → sem cs (shl (insn i)) [] s ≡ halted (asked i) s
  unfolding shl value_at T.bits T.bit
  shl-missing h = rw (ra-sem cs s i, src_b-missing cs s i h) refl

  pub shr-does : missing cs i ≡ false → Proper cs s → final (sem cs (shr (insn i)) [] s) ≡ some (M.shr cs i s)
  unfolding shr value_at T.bits T.bit
  shr-does h w =
      let k = reg-word cs s (ra i) w in
      let l = reverse_if-word (bit i 40) (reg s (ra i)) k in
      rw (ra-sem cs s i, src_b-sem cs s i h, reverse_if-sem cs s _ _ k, shift-right cs s _ _ _ _ l, set-sem cs s) refl

  pub shr-missing : missing cs i ≡ true → sem cs (shr (insn i)) [] s ≡ halted (asked i) s
  unfolding shr value_at T.bits T.bit
  shr-missing h = rw (ra-sem cs s i, src_b-missing cs s i h) refl

-- ---- shf: the double word, shifted

module _ (hi lo k m : ℕ) (e : m + k ≡ 32) (hl : lo < 2 ^ 32) where
  -- the high part of lo under the low part of hi is a word of the double word
  join_is : bit_or (lo / 2 ^ k) (hi * 2 ^ m % 2 ^ 32) ≡ (hi * 2 ^ 32 + lo) / 2 ^ k % 2 ^ 32
  join_is =
      let mk : 2 ^ (m + k) ≡ 2 ^ 32 = ap (λ (x : ℕ). 2 ^ x) e in
      let km : 2 ^ (k + m) ≡ 2 ^ 32 = ap (λ (x : ℕ). 2 ^ x) (add_comm k m ∙ e) in
      let l : lo / 2 ^ k < 2 ^ m = shr_lt m k (rw mk hl) in
      let n1 : hi * 2 ^ m % 2 ^ 32 ≡ hi % 2 ^ k * 2 ^ m =
      rw (← km, mod-pow-add (hi * 2 ^ m) k m, shl-shr hi m, mul-mod_left hi (2 ^ m)) (omega arith) in
      let n2 : (hi * 2 ^ 32 + lo) / 2 ^ k ≡ hi * 2 ^ m + lo / 2 ^ k =
      rw (add_comm (hi * 2 ^ 32) lo, ← mk, pow-add 2 m k, ← mul_assoc hi (2 ^ m) (2 ^ k), add-mul-div_right lo (hi * 2 ^ m) (pow_pos k)) (omega arith) in
      let n3 : (hi * 2 ^ m + lo / 2 ^ k) % 2 ^ 32 ≡ hi % 2 ^ k * 2 ^ m + lo / 2 ^ k =
      rw (← km, mod-pow-add (hi * 2 ^ m + lo / 2 ^ k) k m, high hi m l, low hi m l) refl in
      ap (bit_or (lo / 2 ^ k)) n1 ∙ or_shifted_r (hi % 2 ^ k) m (lo / 2 ^ k) l ∙ sym n3 ∙ ap (λ (x : ℕ). x % 2 ^ 32) (sym n2)

-- to shift left by n and drop 32 digits is to drop 32 - n
left_is : (x n : ℕ) → n ≤ 32 → x * 2 ^ n / 2 ^ 32 ≡ x / 2 ^ (32 - n)
left_is x n h =
    let d : 32 - n + n ≡ 32 = omega arith in
    let e : 2 ^ 32 ≡ 2 ^ (32 - n) * 2 ^ n = sym (ap (λ (k : ℕ). 2 ^ k) d) ∙ pow-add 2 (32 - n) n in
    ap (λ (k : ℕ). x * 2 ^ n / k) e ∙ mul-div-mul_right x (2 ^ (32 - n)) (pow_pos n)

-- ends and middle: what the code makes for count n is a word of the double word
module _ (hi lo : ℕ) (hh : hi < 2 ^ 32) (hl : lo < 2 ^ 32) where
  at-0 : (left : Bool) → cond left hi lo ≡ M.shifted left hi lo 0
  unfolding M.shifted
  at-0 true = omega arith
  at-0 false = omega arith

  at-32 : (left : Bool) → cond left lo hi ≡ M.shifted left hi lo 32
  unfolding M.shifted
  at-32 true = rw (left_is (M.double hi lo) 32 (omega arith)) (omega arith)
  at-32 false = omega arith

  module _ (n : ℕ) (h : n < 32) where
    right-middle : bit_or (lo / 2 ^ n) (hi * 2 ^ (32 - n) % 2 ^ 32) ≡ M.shifted false hi lo n
    unfolding M.shifted
    right-middle = join_is hi lo n (32 - n) (omega arith) hl

    left-middle : bit_or (hi * 2 ^ n % 2 ^ 32) (lo / 2 ^ (32 - n)) ≡ M.shifted true hi lo n
    unfolding M.shifted
    left-middle =
        or_comm (hi * 2 ^ n % 2 ^ 32) (lo / 2 ^ (32 - n)) ∙ join_is hi lo (32 - n) n (omega arith) hl
        ∙ ap (λ (x : ℕ). x % 2 ^ 32) (sym (left_is (M.double hi lo) n (omega arith)))

  -- v, which is undefined for the counts 0 and 32, counts between them alone
  ends-or : (left : Bool) (n : ℕ) (v : Value) → n ≤ 32 → (0 < n → n < 32 → v ≡ Word (M.shifted left hi lo n))
      → cond (eqb n 32) (Word (cond left lo hi)) (cond (eqb n 0) (Word (cond left hi lo)) v) ≡ Word (M.shifted left hi lo n)
  ends-or left n v h middle = go (eqb n 32) (eqb n 0) refl refl
    where
      go : (x y : Bool) → eqb n 32 ≡ x → eqb n 0 ≡ y → cond x (Word (cond left lo hi)) (cond y (Word (cond left hi lo)) v) ≡ Word (M.shifted left hi lo n)
      go true y e f = rw (eqb-true n 32 e, at-32 left) refl
      go false true e f = rw (eqb-true n 0 f, at-0 left) refl
      go false false e f = let d = eqb-false n 32 e in let g = eqb-false n 0 f in middle (omega arith) (omega arith)

module _ (cs : List ℕ) (s : State) where
  shf_select-sem : (x y n : ℕ) (v : Value)
      → sem cs shf_select (Word x ∷ Word y ∷ v ∷ Word n ∷ Word 32 ∷ []) s ≡ ran s (cond (eqb n 32) (Word y) (cond (eqb n 0) (Word x) v))
  unfolding shf_select effect_of two compared compare_word three chosen with_word with_truth value_at
  shf_select-sem x y n v = refl

  shf_amount-sem : (wrap : Bool) (n : ℕ) → sem cs (shf_amount wrap) (Word n ∷ Word 31 ∷ Word 32 ∷ []) s ≡ ran s (Word (cond wrap (n % 32) (min n 32)))
  unfolding shf_amount effect_of two binary binary_word with_word value_at
  shf_amount-sem true n = rw (and_mask n 5) refl
  shf_amount-sem false n = rw (umin-is n 32) refl

  shf_word-sem : (left : Bool) (lo hi n : ℕ) → lo < 2 ^ 32 → hi < 2 ^ 32 → n ≤ 32
      → sem cs (shf_word left) (Word lo ∷ Word hi ∷ Word n ∷ Word 32 ∷ []) s ≡ ran s (Word (M.shifted left hi lo n))
  unfolding shf_word effect_of two binary binary_word with_word value_at
  shf_word-sem left lo hi n hl hh h = go left
    where
      rest : (32 + (2 ^ 32 - n)) % 2 ^ 32 ≡ 32 - n
      rest = omega arith

      go : (left : Bool) → sem cs (shf_word left) (Word lo ∷ Word hi ∷ Word n ∷ Word 32 ∷ []) s ≡ ran s (Word (M.shifted left hi lo n))
      go true =
          rw (rest, shf_select-sem)
          (ap (ran s) (ends-or hi lo hh hl true n _ h (λ p q. rw (lt-ltb n 32 q, lt-ltb (32 - n) 32 (omega arith), left-middle hi lo hh hl n q) refl)))
      go false =
          rw (rest, shf_select-sem)
          (ap (ran s) (ends-or hi lo hh hl false n _ h (λ p q. rw (lt-ltb n 32 q, lt-ltb (32 - n) 32 (omega arith), right-middle hi lo hh hl n q) refl)))

  shf_words-sem : (i : Record) (lo n hi : ℕ) → lo < 2 ^ 32 → hi < 2 ^ 32
      → sem cs (shf_words (insn i)) (Word lo ∷ Word n ∷ Word hi ∷ []) s
      ≡ ran (set_reg s (rd i) (M.shifted (shf_left (insn i)) hi lo (M.shf_count i n))) (Word (M.shifted (shf_left (insn i)) hi lo (M.shf_count i n)))
  unfolding shf_words effect_of value_at T.bits T.bit
  shf_words-sem i lo n hi hl hh =
      rw (shf_amount-sem, shf_word-sem (shf_left (insn i)) lo hi (M.shf_count i n) hl hh (count-le (bit i 50)), note_unless-sem cs s, set-sem cs s) refl
    where
      count-le : (wrap : Bool) → cond wrap (n % 32) (min n 32) ≤ 32
      count-le true = omega arith
      count-le false = omega arith

module _ (cs : List ℕ) (i : Record) (s : State) where
  pub shf-does : missing cs i ≡ false → Proper cs s → final (sem cs (shf (insn i)) [] s) ≡ some (M.shf cs i s)
  unfolding shf value_at shf_left T.bits T.bit
  shf-does h w =
      let k = reg-word cs s (ra i) w in
      let l = reg-word cs s (rc i) w in
      rw (ra-sem cs s i, src_b-sem cs s i h, rc-sem cs s i, shf_words-sem cs s i _ _ _ k l) refl

  pub shf-missing : missing cs i ≡ true → sem cs (shf (insn i)) [] s ≡ halted (asked i) s
  unfolding shf value_at T.bits T.bit
  shf-missing h = rw (ra-sem cs s i, src_b-missing cs s i h) refl

-- ---- lea

module _ (cs : List ℕ) (i : Record) (s : State) where
  -- c alone where nothing is shifted: the shift of a by 32, undefined, is not used
  lea_join-sem : (n c a : ℕ) → n < 32 → c < 2 ^ 32 → a < 2 ^ 32
      → sem cs (lea_join (eqb n 0)) (Word c ∷ binary_word 43 c n ∷ binary_word 44 a (32 - n) ∷ []) s ≡ ran s (Word (M.shifted true c a n))
  unfolding lea_join effect_of two binary binary_word with_word value_at
  lea_join-sem n c a h hc ha = go (eqb n 0) refl
    where
      go : (b : Bool) → eqb n 0 ≡ b
          → sem cs (lea_join b) (Word c ∷ binary_word 43 c n ∷ binary_word 44 a (32 - n) ∷ []) s ≡ ran s (Word (M.shifted true c a n))
      go true e = rw (eqb-true n 0 e) (ap (λ (v : ℕ). ran s (Word v)) (at-0 c a hc ha true))
      go false e = let d = eqb-false n 0 e in rw (lt-ltb n 32 h, lt-ltb (32 - n) 32 (omega arith), left-middle c a hc ha n h) refl

  count-lt : lea_shift (insn i) < 32
  unfolding lea_shift T.bits T.bit
  count-lt = go (lea_reg (insn i)) (lea_cbuf (insn i))
    where
      go : (a b : Bool) → cond a (bits i 28 5) (cond b (bits i 51 5) (bits i 39 5)) < 32
      go true b = bits-lt i 28 5
      go false true = bits-lt i 51 5
      go false false = bits-lt i 39 5

  -- the shifted word, of the high form or the low one
  abbrev lea_shifted : Bool → ℕ → ℕ
  lea_shifted t a = cond t (M.shifted true (reg s (rc i)) a (lea_shift (insn i))) (M.wrap (a * 2 ^ lea_shift (insn i)))

  lea_word-sem : (a : ℕ) → a < 2 ^ 32 → Proper cs s
      → sem cs (lea_word (insn i)) (Word a ∷ []) s ≡ ran s (Word (lea_shifted (lea_high (insn i)) a))
  unfolding lea_word effect_of two binary with_word value_at T.bits T.bit
  lea_word-sem a h w = go (lea_high (insn i)) refl
    where
      go : (b : Bool) → lea_high (insn i) ≡ b
          → sem cs (lea_word (insn i)) (Word a ∷ []) s ≡ ran s (Word (lea_shifted b a))
      go true e = rw (e, rc-sem cs s i, lea_join-sem (lea_shift (insn i)) (reg s (rc i)) a count-lt (reg-word cs s (rc i) w) h) refl
      go false e = rw (e, left_word a (lea_shift (insn i)) count-lt) refl

  -- the constant is read by its opcode, else in the constant form unless the opcode names a register
  lea_b-sem : M.lea_reads i && not (M.lent cs i) ≡ false → sem cs (lea_b (insn i)) [] s ≡ ran s (Word (M.lea_b cs i s))
  unfolding lea_b lea_reg lea_cbuf T.bits T.bit
  lea_b-sem h = go (M.lea_reg i) (M.lea_constant i) (M.lent cs i) refl h
    where
      go : (a b c : Bool) → M.lent cs i ≡ c → (b || (not a && eqb i.form 1)) && not c ≡ false
          → sem cs (ite a (r (rb i)) (ite b (cbuf_imm (constant_slot i) (constant_word i)) (src_b (insn i)))) [] s
          ≡ ran s (Word (cond a (reg s (rb i)) (cond b (constant cs i) (operand_b cs i s))))
      go true b c e k = rb-sem cs s i
      go false true true e k = constant-sem cs s i e
      go false true false e k = absurd (true≢false k)
      go false false c e k = src_b-sem cs s i (rw e k)

  lea_b-missing : M.lea_reads i && not (M.lent cs i) ≡ true → sem cs (lea_b (insn i)) [] s ≡ halted (asked i) s
  unfolding lea_b lea_reg lea_cbuf T.bits T.bit
  lea_b-missing h = go (M.lea_reg i) (M.lea_constant i) (M.lent cs i) refl refl refl h
    where
      -- no opcode names both
      both : M.lea_reg i ≡ true → M.lea_constant i ≡ true → ⊥
      both e f = let p = eqb-true i.value (23512 * 2 ^ 48) e in let q = eqb-true i.value (6144 * 2 ^ 48) f in omega arith

      go : (a b c : Bool) → M.lea_reg i ≡ a → M.lea_constant i ≡ b → M.lent cs i ≡ c → (b || (not a && eqb i.form 1)) && not c ≡ true
          → sem cs (ite a (r (rb i)) (ite b (cbuf_imm (constant_slot i) (constant_word i)) (src_b (insn i)))) [] s ≡ halted (asked i) s
      go true true c e f l k = absurd (both e f)
      go true false c e f l k = absurd (false≢true k)
      go false true true e f l k = absurd (false≢true k)
      go false true false e f l k = constant-missing cs s i l
      go false false c e f l k = src_b-missing cs s i (rw l k)

  -- the sum, with a negated in the low form alone
  lea-is : (a b : ℕ)
      → M.wrap (lea_shifted (lea_high (insn i)) (M.negate_if (lea_negates (insn i)) a) + b)
      ≡ cond (lea_high (insn i)) (M.wrap (M.shifted true (reg s (rc i)) a (lea_shift (insn i)) + b)) (M.wrap (M.negate_if (bit i 45) a * 2 ^ lea_shift (insn i) + b))
  unfolding lea_negates M.negate_if T.bits T.bit
  lea-is a b = go (lea_high (insn i)) (bit i 45)
    where
      go : (t n : Bool)
          → M.wrap (lea_shifted t (M.negate_if (n && not t) a) + b)
          ≡ cond t (M.wrap (M.shifted true (reg s (rc i)) a (lea_shift (insn i)) + b)) (M.wrap (M.negate_if n a * 2 ^ lea_shift (insn i) + b))
      go true true = refl
      go true false = refl
      go false n = let e : n && true ≡ n = and-true n in rw e (add-wrapped (M.negate_if n a * 2 ^ lea_shift (insn i)) b)

  pub lea_does : M.lea_reads i && not (M.lent cs i) ≡ false → Proper cs s → final (sem cs (lea (insn i)) [] s) ≡ some (M.lea cs i s)
  unfolding lea effect_of two binary binary_word with_word value_at T.bits T.bit
  lea_does h w =
      let k = negate_word (lea_negates (insn i)) (reg s (ra i)) (reg-word cs s (ra i) w) in
      rw (ra-sem cs s i, lea_b-sem h, ineg-sem cs s, lea_word-sem _ k w, lea-is, set-sem cs s)
      (unfold lea_high lea_shift lea_reg lea_cbuf in refl)

  pub lea-missing : M.lea_reads i && not (M.lent cs i) ≡ true → sem cs (lea (insn i)) [] s ≡ halted (asked i) s
  unfolding lea value_at T.bits T.bit
  lea-missing h = rw (ra-sem cs s i, lea_b-missing h) refl
