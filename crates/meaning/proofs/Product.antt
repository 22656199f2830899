-- The arm xmad: the word of a product or sum of integers is the product or sum of their words, modulo 2 ^ 32.
use mathlib.Core.Path.{◌≡◌, refl, sym, ap, ap₂, ◌∙◌}
use mathlib.Core.Bool.{Bool, true, false, cond, not, ◌&&◌}
use mathlib.Core.List.{List, [], ◌∷◌}
use mathlib.Core.Option.{some}
use Prim.Native.Nat.{ℕ, zero, suc, ◌+◌, ◌-◌, ◌*◌, ◌/◌, ◌%◌, ◌^◌, ◌<◌}
use native.Mathlib.Omega.{arith}
use native.Mathlib.Nat.{add-mul-mod_self_right, mul_comm}
use lib.Dec.{eqb, ltb}
use lib.IntN.{ℤ, pos, negsuc, neg_ℤ, one, ◌+ℤ◌, ◌*ℤ◌, *ℤ_comm, *ℤ-one}
use lib.Bits.{bit_and, bit_or, and_mask, or_shifted_r}
use borrow.Author.Tests.{ltb-true, ltb-false, eqb-true}
use Rattle.strip.proofs.Tests.{and_left}
use Rattle.evaluation.specs.declared.value.Value.TheVariants.{Word}
use Rattle.evaluation.specs.declared.state.State.{State}
use Rattle.evaluation.specs.Word.{binary_word}
use Rattle.evaluation.specs.Value.{with_word, binary, two}
use Rattle.evaluation.specs.Machine.{cell_effect, value_at, effect_of}
use Rattle.translation.specs.Insn as T
use Rattle.meaning.specs.Record.{Record, bit, rd, ra, rc}
use Rattle.meaning.proofs.Reading.{insn}
use Rattle.translation.specs.Arms.{xmad_in_c, xmad_high, xmad_signed, xmad_psl, xmad_mrg, xmad_mode, xmad_shift, xmad_alter, xmad_merge, xmad_product, xmad_words, xmad_swaps, xmad_bc, xmad_fetch, xmad}
use Rattle.meaning.specs.Number.{word_of, extracted}
use Rattle.meaning.specs.Operand.{reg, set_reg, constant, word_c}
use Rattle.meaning.specs.Meaning as M
use Rattle.translation.proofs.Sem.{ran, halted, sem}
use Rattle.meaning.proofs.Helper.{asked, set-sem, src_bc-sem, src_bc-missing, missing, final, ra-sem, rc-sem}
use Rattle.meaning.proofs.Field.{half16-sem}

-- ---- words of integers

-- multiples of 2 ^ 32 count nothing
times_mod : (x y z q : ℕ) → y ≡ z + q * 2 ^ 32 → x * y % 2 ^ 32 ≡ x * z % 2 ^ 32
times_mod x y z q e =
    let d : x * y ≡ x * z + x * q * 2 ^ 32 = rw e (omega arith) in
    ap (λ (n : ℕ). n % 2 ^ 32) d ∙ add-mul-mod_self_right (x * z) (x * q) (2 ^ 32)

-- a word that makes a multiple of 2 ^ 32 with m is that of -m
opposite : (m w q : ℕ) → w + m ≡ q * 2 ^ 32 → w % 2 ^ 32 ≡ word_of (neg_ℤ (pos m))
unfolding word_of
opposite zero w q e = omega arith
opposite (suc m) w q e = omega arith

-- the word of -(n + 1), with n + 1, is a multiple
negative-word : (n : ℕ) → word_of (negsuc n) + suc n ≡ suc (n / 2 ^ 32) * 2 ^ 32
unfolding word_of
negative-word n = omega arith

positive-word : (n : ℕ) → n ≡ word_of (pos n) + n / 2 ^ 32 * 2 ^ 32
unfolding word_of
positive-word n = omega arith

-- the product of two opposites is that of the numbers
opposites : (m n v w p q : ℕ) → v + m ≡ p * 2 ^ 32 → w + n ≡ q * 2 ^ 32 → v * w % 2 ^ 32 ≡ m * n % 2 ^ 32
opposites m n v w p q e f =
    let g = ap (λ (k : ℕ). k * n) e in
    let h = ap (λ (k : ℕ). v * k) f in
    let d : v * w + p * n * 2 ^ 32 ≡ m * n + v * q * 2 ^ 32 = omega arith in
    sym (add-mul-mod_self_right (v * w) (p * n) (2 ^ 32)) ∙ ap (λ (k : ℕ). k % 2 ^ 32) d ∙ add-mul-mod_self_right (m * n) (v * q) (2 ^ 32)

abbrev Times : ℤ → ℤ → Type 0
Times x y = word_of x * word_of y % 2 ^ 32 ≡ word_of (x *ℤ y)

mixed-product : (a b : ℕ) → Times (pos a) (negsuc b)
mixed-product a b =
    let x = word_of (pos a) in
    let y = word_of (negsuc b) in
    let m : y * a + a * suc b ≡ suc (b / 2 ^ 32) * a * 2 ^ 32 = let d = ap (λ (n : ℕ). n * a) (negative-word b) in omega arith in
    ap (λ (n : ℕ). n % 2 ^ 32) (mul_comm x y) ∙ sym (times_mod y a x (a / 2 ^ 32) (positive-word a)) ∙ opposite (a * suc b) (y * a) (suc (b / 2 ^ 32) * a) m

word-product : (x y : ℤ) → Times x y
unfolding word_of
word-product (pos a) (pos b) =
    let x = word_of (pos a) in
    let y = word_of (pos b) in
    sym (times_mod x b y (b / 2 ^ 32) (positive-word b)) ∙ ap (λ (n : ℕ). n % 2 ^ 32) (mul_comm x b) ∙ sym (times_mod b a x (a / 2 ^ 32) (positive-word a))
    ∙ ap (λ (n : ℕ). n % 2 ^ 32) (mul_comm b a)
word-product (pos a) (negsuc b) = mixed-product a b
word-product (negsuc a) (pos b) =
    ap (λ (n : ℕ). n % 2 ^ 32) (mul_comm (word_of (negsuc a)) (word_of (pos b))) ∙ mixed-product b a ∙ ap word_of (*ℤ_comm (pos b) (negsuc a))
word-product (negsuc a) (negsuc b) = opposites (suc a) (suc b) (word_of (negsuc a)) (word_of (negsuc b)) _ _ (negative-word a) (negative-word b)

word_sum : (z : ℤ) (w : ℕ) → (word_of z + w) % 2 ^ 32 ≡ word_of (z +ℤ pos w)
unfolding word_of
word_sum (pos n) w = omega arith
word_sum (negsuc n) w = go (ltb w (suc n)) refl
  where
    go : (b : Bool) → ltb w (suc n) ≡ b → (2 ^ 32 - 1 - n % 2 ^ 32 + w) % 2 ^ 32 ≡ word_of (cond b (negsuc (suc n - suc w)) (pos (w - suc n)))
    go true e = let l = ltb-true w (suc n) e in omega arith
    go false e = let l = ltb-false w (suc n) e in omega arith

-- ---- the parts of xmad

module _ (cs : List ℕ) (s : State) where
  xmad_shift-sem : (on : Bool) (z : ℤ) → sem cs (xmad_shift on) (Word (word_of z) ∷ []) s ≡ ran s (Word (word_of (z *ℤ pos (cond on (2 ^ 16) 1))))
  unfolding xmad_shift effect_of two binary binary_word with_word value_at one
  xmad_shift-sem true z = ap (λ (w : ℕ). ran s (Word w)) (unfold word_of in word-product z (pos (2 ^ 16)))
  xmad_shift-sem false z = ap (λ x. ran s (Word (word_of x))) (sym (*ℤ-one z))

  xmad_alter-sem : (mode c b : ℕ) → sem cs (xmad_alter mode) (Word c ∷ Word b ∷ Word 16 ∷ []) s ≡ ran s (Word (M.altered mode c b))
  unfolding xmad_alter M.altered effect_of cell_effect two binary binary_word with_word value_at
  xmad_alter-sem mode c b = go (eqb mode 1) (eqb mode 2) (eqb mode 4) (eqb mode 3) refl refl refl refl
    where
      added : (c + b * 2 ^ 16 % 2 ^ 32) % 2 ^ 32 ≡ (c + b * 2 ^ 16) % 2 ^ 32
      added = omega arith

      go : (m1 m2 m4 m3 : Bool) → eqb mode 1 ≡ m1 → eqb mode 2 ≡ m2 → eqb mode 4 ≡ m4 → eqb mode 3 ≡ m3
          → sem cs (xmad_alter mode) (Word c ∷ Word b ∷ Word 16 ∷ []) s ≡ ran s (Word (M.altered mode c b))
      go true m2 m4 m3 e f g h = rw (e, and_mask c 16) refl
      go false true m4 m3 e f g h = rw (e, f) refl
      go false false true m3 e f g h = rw (e, f, g, added) refl
      go false false false true e f g h = rw (e, f, g, h) refl
      go false false false false e f g h = rw (e, f, g, h) refl

  xmad_merge-sem : (on : Bool) (v b : ℕ) → sem cs (xmad_merge on) (Word v ∷ Word b ∷ Word 16 ∷ []) s ≡ ran s (Word (M.merged on v b))
  unfolding xmad_merge M.merged effect_of two binary binary_word with_word value_at
  xmad_merge-sem true v b = rw joined refl
    where
      joined : bit_or (bit_and v 65535) (b * 2 ^ 16 % 2 ^ 32) ≡ v % 2 ^ 16 + b % 2 ^ 16 * 2 ^ 16
      joined =
          let e : b * 2 ^ 16 % 2 ^ 32 ≡ b % 2 ^ 16 * 2 ^ 16 = omega arith in
          let h : v % 2 ^ 16 < 2 ^ 16 = omega arith in
          ap₂ bit_or (and_mask v 16) e ∙ or_shifted_r (b % 2 ^ 16) 16 (v % 2 ^ 16) h ∙ omega arith
  xmad_merge-sem false v b = refl

  module _ (i : Record) where
    -- in the constant form the opcode's value alone tells where the constant stands
    told : (m n : Bool) → cond (eqb i.form 1) (not (eqb i.form 1 && M.xmad_swaps i) && m) n ≡ cond (eqb i.form 1) (not (M.xmad_swaps i) && m) n
    told m n = go (eqb i.form 1)
      where
        go : (f : Bool) → cond f (not (f && M.xmad_swaps i) && m) n ≡ cond f (not (M.xmad_swaps i) && m) n
        go true = refl
        go false = refl

    shifts-is : xmad_psl (insn i) ≡ M.xmad_shifts i
    unfolding xmad_psl xmad_in_c xmad_swaps M.xmad_shifts T.bits T.bit
    shifts-is = told (bit i 55) (bit i 36)

    merges-is : xmad_mrg (insn i) ≡ M.xmad_merges i
    unfolding xmad_mrg xmad_in_c xmad_swaps M.xmad_merges T.bits T.bit
    merges-is = told (bit i 56) (bit i 37)

    abbrev product : ℕ → ℕ → ℤ
    product a b =
        M.half_number (bit i 53) (bit i 48) a *ℤ M.half_number (xmad_high (insn i)) (xmad_signed (insn i)) b *ℤ pos (cond (xmad_psl (insn i)) (2 ^ 16) 1)

    xmad_product-sem : (a b : ℕ) → sem cs (xmad_product (insn i)) (Word a ∷ Word b ∷ []) s ≡ ran s (Word (word_of (product a b)))
    unfolding xmad_product extracted effect_of two binary binary_word with_word value_at T.bits T.bit
    xmad_product-sem a b = rw (half16-sem cs s, half16-sem cs s, word-product, xmad_shift-sem) refl

    sum_is : (a b c : ℕ) → (word_of (product a b) + M.altered (xmad_mode (insn i)) c b) % 2 ^ 32 ≡ M.xmad_sum i a b c
    unfolding M.xmad_sum M.xmad_high_b M.xmad_mode xmad_high xmad_signed xmad_mode T.bits T.bit
    sum_is a b c = rw (word_sum, shifts-is) refl

    xmad_words-sem : (a b c : ℕ)
        → sem cs (xmad_words (insn i)) (Word a ∷ Word b ∷ Word c ∷ []) s
        ≡ ran (set_reg s (rd i) (M.merged (M.xmad_merges i) (M.xmad_sum i a b c) b)) (Word (M.merged (M.xmad_merges i) (M.xmad_sum i a b c) b))
    unfolding xmad_words effect_of two binary binary_word with_word value_at T.bits T.bit
    xmad_words-sem a b c = rw (xmad_product-sem, xmad_alter-sem, sum_is, xmad_merge-sem, merges-is, set-sem cs s) refl

    -- in the immediate form b is sixteen bits, and c a register
    third-is : eqb i.form 2 ≡ true → M.xmad_c cs i s ≡ reg s (rc i)
    unfolding word_c
    third-is e = go i.form (eqb-true i.form 2 e)
      where
        go : (f : ℕ) → f ≡ 2 → cond (eqb f 1 && M.xmad_swaps i) (constant cs i) (reg s (rc i)) ≡ reg s (rc i)
        go f q = rw q refl

    module _ (a : ℕ) where
      abbrev word : ℕ
      word = M.merged (M.xmad_merges i) (M.xmad_sum i a (M.xmad_b cs i s) (M.xmad_c cs i s)) (M.xmad_b cs i s)

      xmad_fetch-sem : missing cs i ≡ false → sem cs (xmad_fetch (insn i)) (Word a ∷ []) s ≡ ran (set_reg s (rd i) word) (Word word)
      unfolding xmad_fetch xmad_bc xmad_swaps effect_of value_at T.bits T.bit
      xmad_fetch-sem h = go (eqb i.form 2) refl
        where
          go : (f : Bool) → eqb i.form 2 ≡ f → sem cs (xmad_fetch (insn i)) (Word a ∷ []) s ≡ ran (set_reg s (rd i) word) (Word word)
          go true e = rw (e, third-is e, rc-sem cs s i, xmad_words-sem) refl
          go false e = rw (e, src_bc-sem cs s i (M.xmad_swaps i) (xmad_words (insn i)) a h, xmad_words-sem) refl

      xmad_fetch-missing : missing cs i ≡ true → sem cs (xmad_fetch (insn i)) (Word a ∷ []) s ≡ halted (asked i) s
      unfolding xmad_fetch xmad_bc T.bits T.bit
      xmad_fetch-missing h =
          let e = eqb-true i.form 1 (and_left (eqb i.form 1) _ h) in
          rw (constant-form i.form e) (src_bc-missing cs s i (xmad_swaps (insn i)) (xmad_words (insn i)) a h)
        where
          constant-form : (f : ℕ) → f ≡ 1 → eqb f 2 ≡ false
          constant-form f q = rw q refl

module _ (cs : List ℕ) (i : Record) (s : State) where
  pub xmad-does : missing cs i ≡ false → final (sem cs (xmad (insn i)) [] s) ≡ some (M.xmad cs i s)
  unfolding xmad value_at T.bits T.bit
  xmad-does h = rw (ra-sem cs s i, xmad_fetch-sem cs s i (reg s (ra i)) h) refl

  pub xmad-missing : missing cs i ≡ true → sem cs (xmad (insn i)) [] s ≡ halted (asked i) s
  unfolding xmad value_at T.bits T.bit
  xmad-missing h = rw (ra-sem cs s i, xmad_fetch-missing cs s i (reg s (ra i)) h) refl
