-- The arms of tests and predicates: csetp, isetp, iset, psetp, pset; and imnmx and icmp, which choose by a test.
use mathlib.Core.Path.{◌≡◌, refl, sym, ap, ◌∙◌}
use mathlib.Core.Bool.{Bool, true, false, cond, not, ◌&&◌, ◌||◌, xor}
use mathlib.Core.List.{List, [], ◌∷◌}
use mathlib.Core.Option.{some}
use Prim.Native.Nat.{ℕ, zero, suc, ◌+◌, ◌-◌, ◌%◌, ◌^◌, ◌<◌}
use native.Mathlib.Omega.{arith}
use lib.Dec.{eqb, ltb}
use lib.Signed.{lt_z}
use borrow.Author.Tests.{ltb-true, ltb-false, eq-eqb, ne_eqb}
use Rattle.evaluation.specs.declared.value.Value.TheVariants.{Word, Truth}
use Rattle.evaluation.specs.declared.state.State.{State}
use Rattle.evaluation.specs.Word.{s_less, binary_word, compare_word, logic_truth}
use Rattle.evaluation.specs.Value.{with_word, with_truth, negated, binary, compared, logic, two}
use Rattle.evaluation.specs.State.{loaded}
use Rattle.evaluation.specs.Machine.{bare_effect, cell_effect, one_effect, value_at, effect_of}
use Rattle.translation.specs.Insn as T
use Rattle.meaning.specs.Record.{Record, bits, bit, rd, ra}
use Rattle.meaning.proofs.Reading.{insn}
use Rattle.translation.specs.Helpers.{p, bool_op, less_than, less_than_equal, greater_than, greater_than_equal, int_cmp, cc_flags, cc_case, cc_test}
use Rattle.translation.specs.Arms.{setp_both, truth_word, set_truth, set_word, set_either, csetp, icompare, pcombine, minimum, maximum, imnmx, icmp_words, icmp_swaps, icmp_bc, icmp}
use Rattle.meaning.proofs.Reading.{bits-lt}
use Rattle.meaning.specs.Number.{integer_of, smaller, greater, bit_at}
use Rattle.meaning.specs.Operand.{reg, set_reg, flag, operand_b}
use Rattle.meaning.specs.Meaning as M
use Rattle.translation.proofs.Sem.{ran, halted, sem}
use Rattle.meaning.proofs.Order.{sless-is, not-ltb, not_lt_z}
use Rattle.translation.proofs.Stays.{Proper}
use Rattle.meaning.proofs.Helper.{asked, reg-word, operand-word, set-sem, setp-sem, src_b-sem, src_b-missing, src_bc-sem, src_bc-missing, set_cc_if-sem, b2u-sem, missing, final, select-is, ra-sem, second_word, Gives, code_gives, truths, p-sem, chosen-word}

-- ---- two words: exactly one of less, equal and greater

-- the number whose order is that of the word: a signed word's top bit is turned
abbrev key : Bool → ℕ → ℕ
key sign x = cond sign ((x + 2 ^ 31) % 2 ^ 32) x

-- the evaluation's order
abbrev less : Bool → ℕ → ℕ → Bool
less sign x y = ltb (key sign x) (key sign y)

less-is : (sign : Bool) (x y : ℕ) → x < 2 ^ 32 → y < 2 ^ 32 → lt_z (integer_of sign 32 x) (integer_of sign 32 y) ≡ less sign x y
unfolding s_less
less-is true x y hx hy = sym (sless-is x y hx hy)
less-is false x y hx hy = refl

key-same : (sign : Bool) (x y : ℕ) → x < 2 ^ 32 → y < 2 ^ 32 → key sign x ≡ key sign y → x ≡ y
key-same true x y hx hy h = omega arith
key-same false x y hx hy h = h

-- what holds in each of the three cases holds of less, equal and greater
order : (sign : Bool) (x y : ℕ) → x < 2 ^ 32 → y < 2 ^ 32 → (P : Bool → Bool → Bool → Type 0)
    → P true false false → (x ≡ y → P false true false) → P false false true → P (less sign x y) (eqb x y) (less sign y x)
order sign x y hx hy P lesser same more = go (less sign x y) (less sign y x) refl refl
  where
    go : (a b : Bool) → less sign x y ≡ a → less sign y x ≡ b → P a (eqb x y) b
    go true true p q = absurd (omega (arith, ltb-true (key sign x) (key sign y) p, ltb-true (key sign y) (key sign x) q))
    go true false p q = rw (ne_eqb x y (λ e. omega (arith, ap (key sign) e, ltb-true (key sign x) (key sign y) p))) lesser
    go false true p q = rw (ne_eqb x y (λ e. omega (arith, ap (key sign) e, ltb-true (key sign y) (key sign x) q))) more
    go false false p q =
        let k : key sign x ≡ key sign y = omega (arith, ltb-false (key sign x) (key sign y) p, ltb-false (key sign y) (key sign x) q) in
        let e = key-same sign x y hx hy k in
        rw (eq-eqb x y e) (same e)

-- ---- the smaller and the greater: of equal words either is both

module _ (sign : Bool) (x y : ℕ) (hx : x < 2 ^ 32) (hy : y < 2 ^ 32) where
  pub smaller-is : cond (less sign x y) x y ≡ smaller sign x y
  unfolding smaller
  smaller-is =
      rw (not_lt_z (integer_of sign 32 x) (integer_of sign 32 y), less-is sign y x hy hx)
      (order sign x y hx hy (λ l e g. cond l x y ≡ cond (not g) x y) refl (λ e. sym e) refl)

  pub greater-is : cond (less sign x y) y x ≡ greater sign x y
  unfolding greater
  greater-is =
      rw (not_lt_z (integer_of sign 32 x) (integer_of sign 32 y), less-is sign y x hy hx)
      (order sign x y hx hy (λ l e g. cond l y x ≡ cond (not g) y x) refl (λ e. e) refl)

-- ---- the integer tests

-- what holds of each of the eight codes holds of a code
codes : (P : ℕ → Type 0) → P 0 → P 1 → P 2 → P 3 → P 4 → P 5 → P 6 → P 7 → (t : ℕ) → t < 8 → P t
codes P a b c d e f g h zero l = a
codes P a b c d e f g h (suc zero) l = b
codes P a b c d e f g h (suc (suc zero)) l = c
codes P a b c d e f g h (suc (suc (suc zero))) l = d
codes P a b c d e f g h (suc (suc (suc (suc zero)))) l = e
codes P a b c d e f g h (suc (suc (suc (suc (suc zero))))) l = f
codes P a b c d e f g h (suc (suc (suc (suc (suc (suc zero)))))) l = g
codes P a b c d e f g h (suc (suc (suc (suc (suc (suc (suc zero))))))) l = h
codes P a b c d e f g h (suc (suc (suc (suc (suc (suc (suc (suc t)))))))) l = absurd (omega arith)

-- the eight tests, of less, equal and greater: case by case, and as one rule
abbrev cases : ℕ → (l e g : Bool) → Bool
cases t l e g =
    cond (eqb t 0) false
    (cond (eqb t 1) l (cond (eqb t 2) e (cond (eqb t 3) (not g) (cond (eqb t 4) g (cond (eqb t 5) (not e) (cond (eqb t 6) (not l) true))))))

abbrev rule : ℕ → (l e g : Bool) → Bool
rule t l e g = (bit_at t 0 && l) || ((bit_at t 1 && e) || (bit_at t 2 && g))

cases-are : (t : ℕ) (sign : Bool) (x y : ℕ) → t < 8 → x < 2 ^ 32 → y < 2 ^ 32 → cases t (less sign x y) (eqb x y) (less sign y x) ≡ M.int_test t sign x y
unfolding M.int_test
cases-are t sign x y ht hx hy =
    rw (less-is sign x y hx hy, less-is sign y x hy hx)
    (order sign x y hx hy (λ l e g. cases t l e g ≡ rule t l e g)
    (codes (λ t. cases t true false false ≡ rule t true false false) refl refl refl refl refl refl refl refl t ht)
    (λ q. codes (λ t. cases t false true false ≡ rule t false true false) refl refl refl refl refl refl refl refl t ht)
    (codes (λ t. cases t false false true ≡ rule t false false true) refl refl refl refl refl refl refl refl t ht))

-- the last of the condition tests, which ask for single flags
abbrev flag_test : ℕ → (z n c o : Bool) → Bool
flag_test t z n c o =
    cond (eqb t 7) (not o)
    (cond (eqb t 8 || eqb t 23) o
    (cond (eqb t 17) (not c)
    (cond (eqb t 18) (not n) (cond (eqb t 19) (not c || z) (cond (eqb t 20) (c && not z) (cond (eqb t 21) n (cond (eqb t 22) c true)))))))

module _ (cs : List ℕ) (s : State) where
  -- ---- truths

  bool_op-sem : (o : ℕ) (p q : Bool) → sem cs (bool_op o) (Truth p ∷ Truth q ∷ []) s ≡ ran s (Truth (M.combined o p q))
  unfolding bool_op M.combined effect_of two logic logic_truth with_truth value_at
  bool_op-sem o p q = all.gives
    where
      all : Gives cs s (Truth p ∷ Truth q ∷ []) (bool_op o) (Truth (M.combined o p q))
      all = truths _ (code_gives refl) (truths _ (code_gives refl) (code_gives refl))

  -- the condition tests that ask for single flags
  cc_flags-sem : (t : ℕ) (z n c o : Bool) → Gives cs s (Truth z ∷ Truth n ∷ Truth c ∷ Truth o ∷ []) (cc_flags t) (Truth (flag_test t z n c o))
  unfolding cc_flags effect_of bare_effect cell_effect one_effect negated two logic logic_truth with_truth value_at
  cc_flags-sem t z n c o =
      truths _ (code_gives refl) (truths _ (code_gives refl) (truths _ (code_gives refl) (truths _ (code_gives refl)
      (truths _ (code_gives refl) (truths _ (code_gives refl) (truths _ (code_gives refl) (truths _ (code_gives refl) (code_gives refl))))))))

  cc_case-sem : (t : ℕ) (z n c o : Bool)
      → sem cs (cc_case t) (Truth z ∷ Truth n ∷ Truth c ∷ Truth o ∷ Truth (xor n o) ∷ []) s ≡ ran s (Truth (M.condition t z n c o))
  unfolding cc_case M.condition effect_of bare_effect one_effect negated two logic logic_truth with_truth value_at
  cc_case-sem t z n c o = all.gives
    where
      all : Gives cs s (Truth z ∷ Truth n ∷ Truth c ∷ Truth o ∷ Truth (xor n o) ∷ []) (cc_case t) (Truth (M.condition t z n c o))
      all =
          truths _ (code_gives refl) (truths _ (code_gives refl) (truths _ (code_gives refl) (truths _ (code_gives refl) (truths _ (code_gives refl)
          (truths _ (code_gives refl) (truths _ (code_gives refl) (code_gives (rw (cc_flags-sem t z n c o).gives refl))))))))

  cc_test-sem : (t : ℕ) → sem cs (cc_test t) [] s ≡ ran s (Truth (M.condition t (flag s 0) (flag s 1) (flag s 2) (flag s 3)))
  unfolding cc_test flag effect_of cell_effect loaded two logic logic_truth with_truth value_at
  cc_test-sem t = rw (cc_case-sem t) refl

  -- ---- integer tests

  less_than-sem : (sign : Bool) (x y : ℕ) → sem cs (less_than sign) (Word x ∷ Word y ∷ []) s ≡ ran s (Truth (less sign x y))
  unfolding less_than effect_of two compared compare_word with_word value_at s_less
  less_than-sem true x y = refl
  less_than-sem false x y = refl

  greater_than-sem : (sign : Bool) (x y : ℕ) → sem cs (greater_than sign) (Word x ∷ Word y ∷ []) s ≡ ran s (Truth (less sign y x))
  unfolding greater_than effect_of two compared compare_word with_word value_at s_less
  greater_than-sem true x y = refl
  greater_than-sem false x y = refl

  less_than_equal-sem : (sign : Bool) (x y : ℕ) → sem cs (less_than_equal sign) (Word x ∷ Word y ∷ []) s ≡ ran s (Truth (not (less sign y x)))
  unfolding less_than_equal effect_of two compared compare_word with_word value_at s_less
  less_than_equal-sem true x y = refl
  less_than_equal-sem false x y = rw (not-ltb y x) refl

  greater_than_equal-sem : (sign : Bool) (x y : ℕ) → sem cs (greater_than_equal sign) (Word x ∷ Word y ∷ []) s ≡ ran s (Truth (not (less sign x y)))
  unfolding greater_than_equal effect_of two compared compare_word with_word value_at s_less
  greater_than_equal-sem true x y = refl
  greater_than_equal-sem false x y = rw (not-ltb x y) refl

  int_cmp-cases : (t : ℕ) (sign : Bool) (x y : ℕ)
      → Gives cs s (Word x ∷ Word y ∷ []) (int_cmp t sign) (Truth (cases t (less sign x y) (eqb x y) (less sign y x)))
  unfolding int_cmp effect_of bare_effect two compared compare_word with_word value_at
  int_cmp-cases t sign x y =
      truths _ (code_gives refl)
      (truths _ (code_gives (less_than-sem sign x y))
      (truths _ (code_gives refl)
      (truths _ (code_gives (less_than_equal-sem sign x y))
      (truths _ (code_gives (greater_than-sem sign x y)) (truths _ (code_gives refl) (truths _ (code_gives (greater_than_equal-sem sign x y)) (code_gives refl)))))))

  int_cmp-sem : (t : ℕ) (sign : Bool) (x y : ℕ) → t < 8 → x < 2 ^ 32 → y < 2 ^ 32
      → sem cs (int_cmp t sign) (Word x ∷ Word y ∷ []) s ≡ ran s (Truth (M.int_test t sign x y))
  int_cmp-sem t sign x y ht hx hy = (int_cmp-cases t sign x y).gives ∙ ap (λ (b : Bool). ran s (Truth b)) (cases-are t sign x y ht hx hy)

  -- ---- the smaller and the greater

  pub minimum-sem : (sign : Bool) (x y : ℕ) → x < 2 ^ 32 → y < 2 ^ 32 → sem cs (minimum sign) (Word x ∷ Word y ∷ []) s ≡ ran s (Word (smaller sign x y))
  unfolding minimum effect_of two binary binary_word with_word value_at s_less
  minimum-sem true x y hx hy = rw (smaller-is true x y hx hy) refl
  minimum-sem false x y hx hy = rw (smaller-is false x y hx hy) refl

  pub maximum-sem : (sign : Bool) (x y : ℕ) → x < 2 ^ 32 → y < 2 ^ 32 → sem cs (maximum sign) (Word x ∷ Word y ∷ []) s ≡ ran s (Word (greater sign x y))
  unfolding maximum effect_of two binary binary_word with_word value_at s_less
  maximum-sem true x y hx hy = rw (greater-is true x y hx hy) refl
  maximum-sem false x y hx hy = rw (greater-is false x y hx hy) refl

-- ---- a test's truth stored

module _ (cs : List ℕ) (i : Record) (s : State) where
  -- to two predicates
  setp_both-sem : (t p : Bool) → sem cs (setp_both (insn i)) (Truth t ∷ Truth p ∷ []) s ≡ ran (M.set_pair i t p s) (Truth (M.combined (bits i 45 2) (not t) p))
  unfolding setp_both M.set_pair effect_of one_effect negated with_truth value_at T.bits T.bit
  setp_both-sem t p = rw (bool_op-sem cs s (bits i 45 2) t p, bool_op-sem cs s (bits i 45 2) (not t) p, setp-sem cs s (bits i 3 3)) (rw (setp-sem cs) refl)

  pair-sem : (t p : Bool) → sem cs (set_either true (insn i)) (Truth t ∷ Truth p ∷ []) s ≡ ran (M.set_pair i t p s) (Truth (M.combined (bits i 45 2) (not t) p))
  unfolding set_either T.bits T.bit
  pair-sem t p = setp_both-sem t p

  -- to a register
  truth-word : (t : Bool) → M.truth_word i t < 2 ^ 32
  unfolding M.truth_word
  truth-word t = chosen-word t _ 0 (chosen-word (bit i 44) 1065353216 (2 ^ 32 - 1) (omega arith) (omega arith)) (omega arith)

  set_truth-sem : (t p : Bool) → Proper cs s
      → sem cs (set_truth (insn i)) (Truth (M.combined (bits i 45 2) t p) ∷ []) s ≡ ran (M.set_truth i t p s) (Word (M.truth_word i (M.combined (bits i 45 2) t p)))
  unfolding set_truth M.set_truth truth_word M.truth_word value_at T.bits T.bit
  set_truth-sem t p w = rw (b2u-sem cs s) (rw (set_cc_if-sem cs s w (bit i 47) _ (truth-word (M.combined (bits i 45 2) t p))) (rw (set-sem cs) refl))

  word-sem : (t p : Bool) → Proper cs s
      → sem cs (set_either false (insn i)) (Truth t ∷ Truth p ∷ []) s ≡ ran (M.set_truth i t p s) (Word (M.truth_word i (M.combined (bits i 45 2) t p)))
  unfolding set_either set_word value_at T.bits T.bit
  word-sem t p w = rw (bool_op-sem cs s, set_truth-sem t p w) refl

  -- ---- the arms

  pub csetp-does : final (sem cs (csetp (insn i)) [] s) ≡ some (M.csetp i s)
  unfolding csetp value_at T.bits T.bit
  csetp-does = rw (cc_test-sem cs s (bits i 8 5), p-sem cs s i 39 42, setp_both-sem) refl

  pub psetp-does : final (sem cs (pcombine true (insn i)) [] s) ≡ some (M.psetp i s)
  unfolding pcombine value_at T.bits T.bit
  psetp-does = rw (p-sem cs s i 12 15, p-sem cs s i 29 32, p-sem cs s i 39 42, bool_op-sem cs s, pair-sem) refl

  pub pset-does : Proper cs s → final (sem cs (pcombine false (insn i)) [] s) ≡ some (M.pset i s)
  unfolding pcombine value_at T.bits T.bit
  pset-does w = rw (p-sem cs s i 12 15, p-sem cs s i 29 32, p-sem cs s i 39 42, bool_op-sem cs s, word-sem _ _ w) refl

  -- icmp tests c against 0
  icmp_words-sem : (a b c : ℕ) → c < 2 ^ 32
      → sem cs (icmp_words (insn i)) (Word a ∷ Word b ∷ Word c ∷ []) s
      ≡ ran (set_reg s (rd i) (cond (M.int_test (bits i 49 3) (bit i 48) c 0) a b)) (Word (cond (M.int_test (bits i 49 3) (bit i 48) c 0) a b))
  unfolding icmp_words effect_of value_at T.bits T.bit
  icmp_words-sem a b c h = rw (int_cmp-sem cs s (bits i 49 3) (bit i 48) c 0 (bits-lt i 49 3) h (omega arith), select-is, set-sem cs s) refl

  module _ (h : missing cs i ≡ false) (w : Proper cs s) where
    tested-sem : sem cs (int_cmp (bits i 49 3) (bit i 48)) (Word (reg s (ra i)) ∷ Word (operand_b cs i s) ∷ []) s ≡ ran s (Truth (M.int_tested cs i s))
    tested-sem = int_cmp-sem cs s (bits i 49 3) (bit i 48) (reg s (ra i)) (operand_b cs i s) (bits-lt i 49 3) (reg-word cs s (ra i) w) (operand-word cs s i w)

    pub isetp-does : final (sem cs (icompare true (insn i)) [] s) ≡ some (M.isetp cs i s)
    unfolding icompare value_at T.bits T.bit
    isetp-does = rw (ra-sem cs s i, src_b-sem cs s i h, p-sem cs s i 39 42, tested-sem, pair-sem) refl

    pub iset-does : final (sem cs (icompare false (insn i)) [] s) ≡ some (M.iset cs i s)
    unfolding icompare value_at T.bits T.bit
    iset-does = rw (ra-sem cs s i, src_b-sem cs s i h, p-sem cs s i 39 42, tested-sem, word-sem _ _ w) refl

    pub imnmx-does : final (sem cs (imnmx (insn i)) [] s) ≡ some (M.imnmx cs i s)
    unfolding imnmx value_at effect_of T.bits T.bit
    imnmx-does =
        rw (
          ra-sem cs s i,
          src_b-sem cs s i h,
          p-sem cs s i 39 42,
          minimum-sem cs s (bit i 48) _ _ (reg-word cs s (ra i) w) (operand-word cs s i w),
          maximum-sem cs s (bit i 48) _ _ (reg-word cs s (ra i) w) (operand-word cs s i w),
          select-is,
          set-sem cs s,
        ) refl

    pub icmp-does : final (sem cs (icmp (insn i)) [] s) ≡ some (M.icmp cs i s)
    unfolding icmp icmp_bc icmp_swaps value_at T.bits T.bit
    icmp-does =
        rw (ra-sem cs s i, src_bc-sem cs s i (M.opcode i 21312) (icmp_words (insn i)) (reg s (ra i)) h, icmp_words-sem _ _ _ (second_word cs s i (M.opcode i 21312) w)) refl

  module _ (h : missing cs i ≡ true) where
    compare-missing : (pair : Bool) → sem cs (icompare pair (insn i)) [] s ≡ halted (asked i) s
    unfolding icompare value_at T.bits T.bit
    compare-missing pair = rw (ra-sem cs s i, src_b-missing cs s i h) refl

    pub isetp-missing : sem cs (icompare true (insn i)) [] s ≡ halted (asked i) s
    isetp-missing = compare-missing true

    pub iset-missing : sem cs (icompare false (insn i)) [] s ≡ halted (asked i) s
    iset-missing = compare-missing false

    pub imnmx-missing : sem cs (imnmx (insn i)) [] s ≡ halted (asked i) s
    unfolding imnmx value_at T.bits T.bit
    imnmx-missing = rw (ra-sem cs s i, src_b-missing cs s i h) refl

    pub icmp-missing : sem cs (icmp (insn i)) [] s ≡ halted (asked i) s
    unfolding icmp icmp_bc icmp_swaps value_at T.bits T.bit
    icmp-missing = rw (ra-sem cs s i, src_bc-missing cs s i (M.opcode i 21312) (icmp_words (insn i)) (reg s (ra i)) h) refl
