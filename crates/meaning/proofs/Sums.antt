-- The arms of sums: iadd, iadd32i, iadd3, iscadd.
use mathlib.Core.Path.{◌≡◌, refl}
use mathlib.Core.Bool.{Bool, true, false, cond, not, ◌||◌, xor, beq}
use mathlib.Core.List.{List, [], ◌∷◌}
use mathlib.Core.Option.{some}
use Prim.Native.Nat.{ℕ, ◌+◌, ◌*◌, ◌/◌, ◌^◌, ◌<◌}
use native.Mathlib.Omega.{arith}
use lib.Dec.{eqb, leb}
use borrow.Author.Tests.{lt-ltb, eqb-true}
use Rattle.strip.proofs.Tests.{and_left}
use Rattle.evaluation.specs.declared.value.Value.{Value}
use Rattle.evaluation.specs.declared.value.Value.TheVariants.{Word, Truth}
use Rattle.evaluation.specs.declared.state.State.{State}
use Rattle.evaluation.specs.Word.{binary_word, compare_word, logic_truth}
use Rattle.evaluation.specs.Value.{with_word, with_truth, binary, compared, logic, two}
use Rattle.evaluation.specs.State.{loaded}
use Rattle.evaluation.specs.Machine.{cell_effect, value_at, effect_of}
use Rattle.translation.specs.Insn as T
use Rattle.meaning.specs.Record.{Record, bits, bit, rd, ra, rb, rc, imm32}
use Rattle.meaning.proofs.Reading.{insn}
use Rattle.translation.specs.Helpers.{carry_flag, signed_overflow, set_sum_cc, add_with_flags, carry_flag_sum, carry_one_sum, carry_sum, saturate_add, half_select}
use Rattle.translation.specs.Arms.{prepared, iadd_words, iadd, iadd32i, iadd3_count, iadd3_shift, iadd3_words, iadd3_fetch, iadd3, iscadd}
use Rattle.meaning.proofs.Reading.{bits-lt}
use Rattle.meaning.specs.Operand.{reg, flag, operand_b, half}
use Rattle.meaning.specs.Meaning as M
use Rattle.translation.proofs.Sem.{Ran, ran, halted, followed, sem}
use Rattle.translation.proofs.Stays.{Proper}
use Rattle.meaning.proofs.Helper.{asked, reg-word, operand-word, set-sem, src_b-sem, src_b-missing, missing, final, select-is, set_cc-sem, b2u-sem, inot-sem, ineg-sem, ra-sem, rb-sem, rc-sem, complement-word, negate_word, Gives, code_gives, words, chosen-word}
use Rattle.meaning.proofs.Field.{extracted-lt, half16-sem}
use Rattle.meaning.proofs.Carry.{wrap-word, add_none, add-wrapped, carry-is, carry-none, overflow-is, clamp-is}

-- ---- operands are words, carries below 2

prepared-word : (x na nb on : Bool) (a : ℕ) → a < 2 ^ 32 → M.prepared x na nb on a < 2 ^ 32
unfolding M.prepared
prepared-word x na nb on a h =
    chosen-word (x || xor na nb) (M.complement_if on a) (M.negate_if on a) (complement-word on a h) (negate_word on a h)

one-small : (t : Bool) → cond t 1 0 < 2
one-small true = omega arith
one-small false = omega arith

carry_in-small : (x na nb : Bool) (s : State) → M.carry_in x na nb s < 2
unfolding M.carry_in
carry_in-small true na nb s = one-small (flag s 2)
carry_in-small false na nb s = one-small (xor na nb)

-- ---- sums with their flags

module _ (cs : List ℕ) (s : State) where
  carry_flag-sem : sem cs carry_flag [] s ≡ ran s (Word (M.carry_bit s))
  unfolding carry_flag effect_of cell_effect loaded value_at flag
  carry_flag-sem = rw (b2u-sem cs s) refl

  prepared-sem : (x na nb on : Bool) (a : ℕ) → sem cs (prepared (x || not (beq na nb)) on) (Word a ∷ []) s ≡ ran s (Word (M.prepared x na nb on a))
  unfolding prepared M.prepared xor
  prepared-sem x na nb on a = go (x || not (beq na nb))
    where
      go : (t : Bool) → sem cs (prepared t on) (Word a ∷ []) s ≡ ran s (Word (cond t (M.complement_if on a) (M.negate_if on a)))
      go true = inot-sem cs s on a
      go false = ineg-sem cs s on a

module _ (cs : List ℕ) (s : State) (a b k : ℕ) (ha : a < 2 ^ 32) (hb : b < 2 ^ 32) (hk : k < 2) where
  abbrev wrapped : ℕ
  wrapped = M.wrap (M.total a b k)

  signed_overflow-sem : sem cs signed_overflow (Word a ∷ Word b ∷ Word wrapped ∷ []) s ≡ ran s (Truth (M.overflows a b k))
  unfolding signed_overflow effect_of two binary binary_word compared compare_word with_word value_at
  signed_overflow-sem = rw (overflow-is a b k wrapped ha hb hk refl) refl

  saturate_add-sem : (on : Bool) → sem cs (saturate_add on) (Word a ∷ Word b ∷ Word wrapped ∷ []) s ≡ ran s (Word (cond on (M.saturated a b k) wrapped))
  unfolding saturate_add effect_of two compared compare_word with_word value_at
  saturate_add-sem true = rw (signed_overflow-sem, b2u-sem cs s, select-is, clamp-is a b k wrapped ha hb hk refl) refl
  saturate_add-sem false = refl

  module _ (w : Proper cs s) where
    set_sum_cc-sem : (cc : Bool) → sem cs (set_sum_cc cc) (Word a ∷ Word b ∷ Word wrapped ∷ Truth (leb (2 ^ 32) (M.total a b k)) ∷ []) s
        ≡ ran (M.set_sum_flags cc a b k s) (Word wrapped)
    unfolding set_sum_cc M.set_sum_flags value_at
    set_sum_cc-sem true = rw (signed_overflow-sem, set_cc-sem cs s w wrapped (leb (2 ^ 32) (M.total a b k)) (M.overflows a b k) (wrap-word (M.total a b k))) refl
    set_sum_cc-sem false = refl

    add_with_carry-sem : (cc : Bool) → sem cs (add_with_flags true cc) (Word a ∷ Word b ∷ Word k ∷ []) s ≡ ran (M.set_sum_flags cc a b k s) (Word wrapped)
    unfolding add_with_flags effect_of two binary binary_word compared compare_word logic logic_truth with_word with_truth value_at
    add_with_carry-sem cc = rw (carry-is a b k ha hb hk, add-wrapped (a + b) k, set_sum_cc-sem cc) refl

module _ (cs : List ℕ) (s : State) (a b : ℕ) (ha : a < 2 ^ 32) (hb : b < 2 ^ 32) (w : Proper cs s) where
  -- the wrapped sum with a carry, and its flags where they are asked for
  abbrev summed : Bool → ℕ → Ran
  summed cc k = ran (M.set_sum_flags cc a b k s) (Word (M.wrap (M.total a b k)))

  add_with_flags-sem : (cc : Bool) → sem cs (add_with_flags false cc) (Word a ∷ Word b ∷ []) s ≡ summed cc 0
  unfolding add_with_flags M.set_sum_flags effect_of two binary binary_word compared compare_word with_word value_at
  add_with_flags-sem true =
      let h = rw (add_none a b) at (set_sum_cc-sem cs s a b 0 ha hb (omega arith) w true) in rw (add_none a b, carry-none a b ha hb, h) refl
  add_with_flags-sem false = rw (add_none a b) refl

  carry_flag_sum-sem : (cc : Bool) → sem cs (carry_flag_sum cc) (Word a ∷ Word b ∷ []) s ≡ summed cc (M.carry_bit s)
  unfolding carry_flag_sum value_at
  carry_flag_sum-sem cc = rw (carry_flag-sem cs s, add_with_carry-sem cs s a b (M.carry_bit s) ha hb (one-small (flag s 2)) w cc) refl

  carry_one_sum-sem : (cc : Bool) → sem cs (carry_one_sum cc) (Word a ∷ Word b ∷ []) s ≡ summed cc 1
  unfolding carry_one_sum effect_of value_at
  carry_one_sum-sem cc = rw (add_with_carry-sem cs s a b 1 ha hb (omega arith) w cc) refl

  carry_sum-sem : (x one cc : Bool) → sem cs (carry_sum x one cc) (Word a ∷ Word b ∷ []) s ≡ summed cc (cond x (M.carry_bit s) (cond one 1 0))
  unfolding carry_sum
  carry_sum-sem true one cc = carry_flag_sum-sem cc
  carry_sum-sem false true cc = carry_one_sum-sem cc
  carry_sum-sem false false cc = add_with_flags-sem cc

  iadd_sum-sem : (x na nb cc : Bool) → sem cs (carry_sum x (not (beq na nb)) cc) (Word a ∷ Word b ∷ []) s ≡ summed cc (M.carry_in x na nb s)
  unfolding M.carry_in xor
  iadd_sum-sem x na nb cc = carry_sum-sem x (not (beq na nb)) cc

-- ---- iadd, iadd32i

module _ (cs : List ℕ) (s : State) (w : Proper cs s) (a b : ℕ) (ha : a < 2 ^ 32) (hb : b < 2 ^ 32) (d : ℕ) (na nb x cc sat : Bool) where
  abbrev first : ℕ
  first = M.prepared x na nb na a

  abbrev second : ℕ
  second = M.prepared x na nb nb b

  abbrev carry : ℕ
  carry = M.carry_in x na nb s

  -- the flags are those of the sum before it is clamped
  iadd_words-sem : sem cs (iadd_words d na nb x cc sat) (Word a ∷ Word b ∷ []) s
      ≡ ran (M.sum d na nb x cc sat a b s) (Word (cond sat (M.saturated first second carry) (M.wrap (M.total first second carry))))
  unfolding iadd_words M.sum M.added value_at
  iadd_words-sem =
      let ka = prepared-word x na nb na a ha in
      let kb = prepared-word x na nb nb b hb in
      let kc = carry_in-small x na nb s in
      let t = M.set_sum_flags cc first second carry s in
      rw (prepared-sem cs s x na nb na a, prepared-sem cs s x na nb nb b, iadd_sum-sem cs s first second ka kb w x na nb cc)
      (rw (saturate_add-sem cs t first second carry ka kb kc sat, set-sem cs t d) refl)

module _ (cs : List ℕ) (i : Record) (s : State) where
  pub iadd-does : missing cs i ≡ false → Proper cs s → final (sem cs (iadd (insn i)) [] s) ≡ some (M.iadd cs i s)
  unfolding iadd value_at T.bits T.bit
  iadd-does h w =
      let e = iadd_words-sem cs s w (reg s (ra i)) (operand_b cs i s) (reg-word cs s (ra i) w) (operand-word cs s i w) in
      rw (ra-sem cs s i, src_b-sem cs s i h, e (rd i) (bit i 49) (bit i 48) (bit i 43) (bit i 47) (bit i 50)) refl

  pub iadd-missing : missing cs i ≡ true → sem cs (iadd (insn i)) [] s ≡ halted (asked i) s
  unfolding iadd value_at T.bits T.bit
  iadd-missing h = rw (ra-sem cs s i, src_b-missing cs s i h) refl

  pub iadd32i-does : Proper cs s → final (sem cs (iadd32i (insn i)) [] s) ≡ some (M.iadd32i i s)
  unfolding iadd32i effect_of value_at T.bits T.bit
  iadd32i-does w =
      let e = iadd_words-sem cs s w (reg s (ra i)) (imm32 i) (reg-word cs s (ra i) w) (bits-lt i 20 32) in
      rw (ra-sem cs s i, e (rd i) (bit i 56) false (bit i 53) (bit i 52) (bit i 54)) refl

-- ---- iadd3: halves of the operands, and the first sum shifted, in the register form alone

abbrev half_of : ℕ → ℕ → ℕ
half_of code x = cond (eqb code 1) (half false false x) (cond (eqb code 2) (half true false x) x)

half-word : (code x : ℕ) → x < 2 ^ 32 → half_of code x < 2 ^ 32
half-word code x h = chosen-word (eqb code 1) _ _ (extracted-lt false x 0 16) (chosen-word (eqb code 2) _ _ (extracted-lt false x 16 16) h)

part-word : (i : Record) (code x : ℕ) → x < 2 ^ 32 → M.part i code x < 2 ^ 32
unfolding M.part
part-word i code x h = chosen-word (eqb i.form 0) (half_of code x) x (half-word code x h) h

-- which shift, and what it leaves
abbrev shifted_by : ℕ → ℕ → ℕ
shifted_by n x = cond (eqb n 1) (x / 2 ^ 16) (cond (eqb n 2) (M.wrap (x * 2 ^ 16)) x)

shifted-is : (i : Record) (x : ℕ) → shifted_by (iadd3_count (insn i)) x ≡ M.part_sum i x
unfolding iadd3_count M.part_sum T.bits T.bit
shifted-is i x = go (eqb i.form 0)
  where
    go : (t : Bool) → shifted_by (cond t (bits i 37 2) 0) x ≡ cond t (shifted_by (bits i 37 2) x) x
    go true = refl
    go false = refl

part_sum-word : (i : Record) (x : ℕ) → x < 2 ^ 32 → M.part_sum i x < 2 ^ 32
part_sum-word i x h =
    rw (← shifted-is i x)
    (chosen-word (eqb (iadd3_count (insn i)) 1) (x / 2 ^ 16) _ (omega arith) (chosen-word (eqb (iadd3_count (insn i)) 2) (M.wrap (x * 2 ^ 16)) x (wrap-word (x * 2 ^ 16)) h))

module _ (cs : List ℕ) (s : State) where
  half_select-sem : (code x : ℕ) → sem cs (half_select code) (Word x ∷ []) s ≡ ran s (Word (half_of code x))
  unfolding half_select value_at
  half_select-sem code x = all.gives
    where
      all : Gives cs s (Word x ∷ []) (half_select code) (Word (half_of code x))
      all = words _ (code_gives (half16-sem cs s false false x)) (words _ (code_gives (half16-sem cs s true false x)) (code_gives refl))

  iadd3_shift-sem : (n x : ℕ) → sem cs (iadd3_shift n) (Word x ∷ Word 16 ∷ []) s ≡ ran s (Word (shifted_by n x))
  unfolding iadd3_shift effect_of two binary binary_word with_word value_at
  iadd3_shift-sem n x = all.gives
    where
      all : Gives cs s (Word x ∷ Word 16 ∷ []) (iadd3_shift n) (Word (shifted_by n x))
      all = words _ (code_gives refl) (words _ (code_gives refl) (code_gives refl))

-- b in the register form
operand-reg : (cs : List ℕ) (i : Record) (s : State) → eqb i.form 0 ≡ true → operand_b cs i s ≡ reg s (rb i)
unfolding operand_b
operand-reg cs i s e = rw e refl

not-reg : (form : ℕ) → eqb form 1 ≡ true → eqb form 0 ≡ false
not-reg form e = rw (eqb-true form 1 e) refl

module _ (cs : List ℕ) (i : Record) (s : State) where
  module _ (w : Proper cs s) (a b c : ℕ) (hc : c < 2 ^ 32) where
    abbrev first_two : ℕ
    first_two = M.wrap (M.negate_if (bit i 51) a + M.negate_if (bit i 50) b)

    abbrev first_sum : ℕ
    first_sum = M.part_sum i first_two

    abbrev third : ℕ
    third = M.negate_if (bit i 49) c

    abbrev carry3 : ℕ
    carry3 = cond (bit i 48) (M.carry_bit s) 0

    iadd3_words-sem : sem cs (iadd3_words (insn i)) (Word a ∷ Word b ∷ Word c ∷ []) s
        ≡ ran (M.added (rd i) (bit i 47) false first_sum third carry3 s) (Word (M.wrap (M.total first_sum third carry3)))
    unfolding iadd3_words M.added effect_of two binary binary_word with_word value_at T.bits T.bit
    iadd3_words-sem =
        let ka = part_sum-word i first_two (wrap-word (M.negate_if (bit i 51) a + M.negate_if (bit i 50) b)) in
        rw (ineg-sem cs s (bit i 51) a, ineg-sem cs s (bit i 50) b, ineg-sem cs s (bit i 49) c, iadd3_shift-sem cs s (iadd3_count (insn i)), shifted-is i)
        (rw (carry_sum-sem cs s first_sum third ka (negate_word (bit i 49) c hc) w (bit i 48) false (bit i 47), set-sem cs) refl)

  -- b and c are read, and in the register form halves taken
  module _ (a : ℕ) where
    abbrev parts : List Value
    parts = Word (M.part i (bits i 35 2) a) ∷ Word (M.part i (bits i 33 2) (operand_b cs i s)) ∷ Word (M.part i (bits i 31 2) (reg s (rc i))) ∷ []

    iadd3_fetch-sem : missing cs i ≡ false → sem cs (iadd3_fetch (insn i)) (Word a ∷ []) s ≡ followed (sem cs (iadd3_words (insn i)) parts s) (λ t v. ran t v)
    unfolding iadd3_fetch M.part value_at T.bits T.bit
    iadd3_fetch-sem h = go (eqb i.form 0) refl
      where
        go : (t : Bool) → eqb i.form 0 ≡ t → sem cs (iadd3_fetch (insn i)) (Word a ∷ []) s ≡ followed (sem cs (iadd3_words (insn i)) parts s) (λ t v. ran t v)
        go true e =
            rw (e, rb-sem cs s i, rc-sem cs s i, operand-reg cs i s e)
            (rw (half_select-sem cs s (bits i 35 2), half_select-sem cs s (bits i 33 2), half_select-sem cs s (bits i 31 2)) refl)
        go false e = rw (e, src_b-sem cs s i h, rc-sem cs s i) refl

    iadd3_fetch-missing : missing cs i ≡ true → sem cs (iadd3_fetch (insn i)) (Word a ∷ []) s ≡ halted (asked i) s
    unfolding iadd3_fetch value_at T.bits T.bit
    iadd3_fetch-missing h = rw (not-reg i.form (and_left (eqb i.form 1) _ h), src_b-missing cs s i h) refl

  pub iadd3-does : missing cs i ≡ false → Proper cs s → final (sem cs (iadd3 (insn i)) [] s) ≡ some (M.iadd3 cs i s)
  unfolding iadd3 value_at T.bits T.bit
  iadd3-does h w =
      let hc = part-word i (bits i 31 2) (reg s (rc i)) (reg-word cs s (rc i) w) in
      rw (ra-sem cs s i, iadd3_fetch-sem (reg s (ra i)) h, iadd3_words-sem w _ _ _ hc) refl

  pub iadd3-missing : missing cs i ≡ true → sem cs (iadd3 (insn i)) [] s ≡ halted (asked i) s
  unfolding iadd3 value_at T.bits T.bit
  iadd3-missing h = rw (ra-sem cs s i, iadd3_fetch-missing (reg s (ra i)) h) refl

-- ---- iscadd

module _ (cs : List ℕ) (i : Record) (s : State) where
  pub iscadd-does : missing cs i ≡ false → final (sem cs (iscadd (insn i)) [] s) ≡ some (M.iscadd cs i s)
  unfolding iscadd effect_of two binary binary_word with_word value_at T.bits T.bit
  iscadd-does h =
      rw (ra-sem cs s i, ineg-sem cs s, src_b-sem cs s i h, ineg-sem cs s, lt-ltb (bits i 39 5) 32 (bits-lt i 39 5))
      (rw (add-wrapped (M.negate_if (bit i 49) (reg s (ra i)) * 2 ^ bits i 39 5), set-sem cs s) refl)

  pub iscadd-missing : missing cs i ≡ true → sem cs (iscadd (insn i)) [] s ≡ halted (asked i) s
  unfolding iscadd value_at T.bits T.bit
  iscadd-missing h = rw (ra-sem cs s i, ineg-sem cs s, src_b-missing cs s i h) refl
