-- The arms that pick parts of words, convert and clamp: vmnmx, i2i.
use mathlib.Core.Path.{◌≡◌, refl, sym, ◌∙◌}
use mathlib.Core.Bool.{Bool, true, false, cond, not, ◌&&◌, beq, and-false}
use mathlib.Core.List.{List, [], ◌∷◌}
use mathlib.Core.Option.{some}
use Prim.Native.Nat.{ℕ, suc, ◌+◌, ◌-◌, ◌*◌, ◌/◌, ◌%◌, ◌^◌, ◌≤◌, ◌<◌}
use native.Mathlib.Omega.{arith}
use lib.Dec.{eqb, ltb, leb}
use lib.IntN.{pos, negsuc, nat_abs}
use lib.Signed.{le_z}
use borrow.Author.Tests.{ltb-true, ltb-false, lt-ltb, le-ltb, eqb-true, eqb-false}
use Rattle.evaluation.specs.declared.value.Value.TheVariants.{Word}
use Rattle.evaluation.specs.declared.state.State.{State}
use Rattle.evaluation.specs.Word.{s_less, s_min, u_max, s_abs, unary_word, binary_word, compare_word}
use Rattle.evaluation.specs.Value.{with_word, unary, binary, compared, two, inserted_value}
use Rattle.evaluation.specs.Machine.{one_effect, four_effect, value_at, effect_of}
use Rattle.translation.specs.Insn as T
use Rattle.meaning.specs.Record.{Record, bits, bit, rd, ra, rb, rc}
use Rattle.meaning.proofs.Reading.{insn}
use Rattle.translation.specs.Code.{ret, ite}
use Rattle.translation.specs.Helpers.{field, video_operand, int_source, highest, lowest, clamp_high, saturate_by, saturate_int}
use Rattle.translation.specs.Arms.{vmnmx_imm, vmnmx_b, vmnmx_mixed, vmnmx_first, min_or_max, vmnmx_word, vmnmx_signed, vmnmx_saturate, vmnmx_insert, vmnmx_merge, vmnmx_words, vmnmx, absolute, saturate_if, i2i}
use Rattle.translation.specs.Strip.{byte_three}
use Rattle.meaning.proofs.Reading.{bits-lt}
use Rattle.meaning.specs.Number.{signed_of, integer_of, word_of, clamp, least, greatest, smaller, greater, extracted, inserted}
use Rattle.meaning.specs.Operand.{reg, set_reg, operand_b}
use Rattle.meaning.specs.Meaning as M
use Rattle.translation.proofs.Sem.{ran, halted, sem}
use Rattle.meaning.proofs.Order.{leb-iff, not-leb, negative-is}
use Rattle.translation.proofs.Stays.{Proper}
use Rattle.meaning.proofs.Helper.{asked, reg-word, operand-word, set-sem, src_b-sem, src_b-missing, ineg-sem, missing, final, select-is, ra-sem, rb-sem, rc-sem, chosen-word, negate_word, Gives, code_gives, words}
use Rattle.meaning.proofs.Field.{word_lt, extracted-lt, whole_word, field-sem}
use Rattle.meaning.proofs.Clamp.{clamp-signed, clamp-unsigned, clamp-positive, clamp-same}
use Rattle.meaning.proofs.Compare.{smaller-is, greater-is, minimum-sem, maximum-sem}
use Rattle.meaning.proofs.Fields.{insert-is}

-- ---- vmnmx: of words a and b, signed or not

video-word : (code : ℕ) (sign : Bool) (x : ℕ) → M.video code sign x < 2 ^ 32
unfolding M.video
video-word code sign x =
    chosen-word (ltb code 4) _ _ (extracted-lt sign x (code * 8) 8) (chosen-word (ltb code 6) _ _ (extracted-lt sign x ((code - 4) * 16) 16) (extracted-lt sign x 0 32))

-- a word is negative from 2 ^ 31 on
sign-is : (x : ℕ) → ltb (x * 2) (2 ^ 32) ≡ not (leb (2 ^ 31) x)
sign-is x = leb-iff (suc (x * 2)) (2 ^ 32) (suc x) (2 ^ 31) (omega arith) ∙ sym (not-leb (2 ^ 31) x)

-- the sixteen bits of the instruction have their sign in bit 35
imm-is : (sign : Bool) (w : ℕ)
    → cond (sign && eqb (w / 2 ^ 35 % 2) 1) (w / 2 ^ 20 % 2 ^ 16 + 4294901760) (w / 2 ^ 20 % 2 ^ 16) ≡ extracted sign (w / 2 ^ 20 % 2 ^ 16) 0 16
unfolding extracted signed_of word_of
imm-is true w =
    let f = w / 2 ^ 20 % 2 ^ 16 in
    let d : f / 2 ^ 0 % 2 ^ 16 ≡ f = omega arith in
    let t : w / 2 ^ 35 % 2 ≡ f / 2 ^ 15 = omega arith in
    rw (d, t) (go f (omega arith) (eqb (f / 2 ^ 15) 1) (ltb (f * 2) (2 ^ 16)) refl refl)
  where
    go : (f : ℕ) → f < 2 ^ 16 → (a b : Bool) → eqb (f / 2 ^ 15) 1 ≡ a → ltb (f * 2) (2 ^ 16) ≡ b
        → cond a (f + 4294901760) f ≡ word_of (cond b (pos f) (negsuc (2 ^ 16 - 1 - f)))
    go f h true true p q = absurd (omega (arith, eqb-true (f / 2 ^ 15) 1 p, ltb-true (f * 2) (2 ^ 16) q))
    go f h true false p q = omega arith
    go f h false true p q = omega arith
    go f h false false p q = let n = eqb-false (f / 2 ^ 15) 1 p in absurd (omega (arith, ltb-false (f * 2) (2 ^ 16) q))
imm-is false w = omega arith

vmnmx_imm-is : (i : Record) → vmnmx_imm (insn i) ≡ extracted (bit i 49) (bits i 20 16) 0 16
unfolding vmnmx_imm T.bits T.bit
vmnmx_imm-is i = imm-is (bit i 49) i.word

video_b-word : (i : Record) (s : State) → M.video_b i s < 2 ^ 32
video_b-word i s =
    chosen-word (bit i 50) (M.video (bits i 28 3) (bit i 49) (reg s (rb i))) (extracted (bit i 49) (bits i 20 16) 0 16)
    (video-word (bits i 28 3) (bit i 49) (reg s (rb i))) (extracted-lt (bit i 49) (bits i 20 16) 0 16)

module _ (a b : ℕ) (ha : a < 2 ^ 32) (hb : b < 2 ^ 32) where
  -- of equal words either is the greater and the smaller
  max-is : u_max a b ≡ cond (leb a b) b a
  unfolding greater
  max-is = greater-is false a b ha hb

  min-is : s_min a b ≡ smaller true a b
  unfolding s_less
  min-is = smaller-is true a b ha hb

  -- mixed signs: a negative operand is less than an unsigned one
  mixed-max-first : cond (s_less a 0) b (u_max a b) ≡ M.exact_max true false a b
  unfolding M.exact_max signed_of
  mixed-max-first = rw (negative-is a ha, sign-is a, max-is) (go (leb (2 ^ 31) a))
    where
      go : (n : Bool) → cond n b (cond (leb a b) b a) ≡ cond (le_z (cond (not n) (pos a) (negsuc (2 ^ 32 - 1 - a))) (pos b)) b a
      go true = refl
      go false = refl

  mixed-max-second : cond (s_less b 0) a (u_max a b) ≡ M.exact_max false true a b
  unfolding M.exact_max signed_of
  mixed-max-second = rw (negative-is b hb, sign-is b, max-is) (go (leb (2 ^ 31) b))
    where
      go : (n : Bool) → cond n a (cond (leb a b) b a) ≡ cond (le_z (pos a) (cond (not n) (pos b) (negsuc (2 ^ 32 - 1 - b)))) b a
      go true = refl
      go false = refl

  exact_word : (sa sb : Bool) → M.exact_max sa sb a b < 2 ^ 32
  unfolding M.exact_max
  exact_word sa sb = chosen-word (le_z (integer_of sa 32 a) (integer_of sb 32 b)) b a hb ha

  smaller-word : (sign : Bool) → smaller sign a b < 2 ^ 32
  unfolding smaller
  smaller-word sign = chosen-word (le_z (integer_of sign 32 a) (integer_of sign 32 b)) a b ha hb

  mixed-word : (sa : Bool) → M.mixed_min sa a b < 2 ^ 32
  unfolding M.mixed_min
  mixed-word sa = chosen-word (leb (2 ^ 31) (cond sa a b)) (cond sa a b) (smaller true a b) (chosen-word sa a b ha hb) (smaller-word true)

  extremum-word : (sa sb max : Bool) → M.extremum sa sb max a b < 2 ^ 32
  unfolding M.extremum
  extremum-word sa sb true = exact_word sa sb
  extremum-word sa sb false = chosen-word (beq sa sb) (smaller sa a b) (M.mixed_min sa a b) (smaller-word sa) (mixed-word sa)

clamp-word : (on from to : Bool) (n v : ℕ) → v < 2 ^ 32 → M.clamp_if on from to n v < 2 ^ 32
unfolding M.clamp_if
clamp-word on from to n v h = chosen-word on _ v (word_lt _) h

module _ (cs : List ℕ) (s : State) where
  video_operand-sem : (code : ℕ) (sign : Bool) (x : ℕ) → x < 2 ^ 32 → sem cs (video_operand code sign) (Word x ∷ []) s ≡ ran s (Word (M.video code sign x))
  unfolding video_operand M.video value_at
  video_operand-sem code sign x h = go (ltb code 4) (ltb code 6) refl refl
    where
      go : (a b : Bool) → ltb code 4 ≡ a → ltb code 6 ≡ b
          → sem cs (ite a (field (code * 8) 8 sign) (ite b (field ((code - 4) * 16) 16 sign) (ret 0))) (Word x ∷ []) s
          ≡ ran s (Word (cond a (extracted sign x (code * 8) 8) (cond b (extracted sign x ((code - 4) * 16) 16) (extracted sign x 0 32))))
      go true b e f = field-sem cs s (code * 8) 8 sign x (omega (arith, ltb-true code 4 e))
      go false true e f = field-sem cs s ((code - 4) * 16) 16 sign x (omega (arith, ltb-true code 6 f))
      go false false e f = rw (whole_word sign x h) refl

  vmnmx_b-sem : (i : Record) → Proper cs s → sem cs (vmnmx_b (insn i)) [] s ≡ ran s (Word (M.video_b i s))
  unfolding vmnmx_b effect_of value_at T.bits T.bit
  vmnmx_b-sem i w = all.gives
    where
      all : Gives cs s [] (vmnmx_b (insn i)) (Word (M.video_b i s))
      all = words _ (code_gives (rw (rb-sem cs s i, video_operand-sem _ _ _ (reg-word cs s (rb i) w)) refl)) (code_gives (rw (vmnmx_imm-is i) refl))

  module _ (a b : ℕ) (ha : a < 2 ^ 32) (hb : b < 2 ^ 32) where
    min_or_max-sem : (max sign : Bool) → sem cs (min_or_max max sign) (Word a ∷ Word b ∷ []) s ≡ ran s (Word (M.extremum sign sign max a b))
    unfolding min_or_max M.extremum M.exact_max greater
    min_or_max-sem true sign = maximum-sem cs s sign a b ha hb
    min_or_max-sem false true = minimum-sem cs s true a b ha hb
    min_or_max-sem false false = minimum-sem cs s false a b ha hb

    vmnmx_word-sem : (sa sb max : Bool) → sem cs (vmnmx_word sa sb max) (Word a ∷ Word b ∷ Word 0 ∷ []) s ≡ ran s (Word (M.extremum sa sb max a b))
    unfolding vmnmx_word vmnmx_first vmnmx_mixed M.extremum M.mixed_min effect_of two binary binary_word compared compare_word with_word value_at
    vmnmx_word-sem true true max = rw (min_or_max-sem max true) refl
    vmnmx_word-sem false false max = rw (min_or_max-sem max false) refl
    vmnmx_word-sem true false true = rw (select-is, mixed-max-first a b ha hb) refl
    vmnmx_word-sem false true true = rw (select-is, mixed-max-second a b ha hb) refl
    vmnmx_word-sem true false false = rw (select-is, negative-is a ha, min-is a b ha hb) refl
    vmnmx_word-sem false true false = rw (select-is, negative-is b hb, min-is a b ha hb) refl

  vmnmx_saturate-sem : (on to from : Bool) (v : ℕ) → v < 2 ^ 32 → sem cs (vmnmx_saturate on to from) (Word v ∷ Word 0 ∷ []) s ≡ ran s (Word (M.clamp_if on from to 32 v))
  unfolding vmnmx_saturate M.clamp_if effect_of two binary binary_word with_word value_at
  vmnmx_saturate-sem true true true v h = rw (clamp-same v h true) refl
  vmnmx_saturate-sem true true false v h = rw (clamp-unsigned 32 (omega arith) (omega arith) v h true) refl
  vmnmx_saturate-sem true false true v h = rw (clamp-positive v h) refl
  vmnmx_saturate-sem true false false v h = rw (clamp-same v h false) refl
  vmnmx_saturate-sem false to from v h = refl

  module _ (v c : ℕ) (hv : v < 2 ^ 32) (hc : c < 2 ^ 32) where
    vmnmx_insert-sem : (p n : ℕ) → p + n ≤ 32 → sem cs (vmnmx_insert p n) (Word v ∷ Word c ∷ []) s ≡ ran s (Word (inserted c v p n))
    unfolding vmnmx_insert effect_of four_effect inserted_value with_word value_at
    vmnmx_insert-sem p n l = rw (insert-is c v p n hc l) refl

    vmnmx_merge-sem : (mode : ℕ) (sign : Bool) → sem cs (vmnmx_merge mode sign) (Word v ∷ Word c ∷ []) s ≡ ran s (Word (M.joined mode sign v c))
    unfolding vmnmx_merge M.joined effect_of two binary binary_word with_word value_at
    vmnmx_merge-sem mode sign = all.gives
      where
        all : Gives cs s (Word v ∷ Word c ∷ []) (vmnmx_merge mode sign) (Word (M.joined mode sign v c))
        all =
            words _ (code_gives (vmnmx_insert-sem 16 16 (omega arith)))
            (words _ (code_gives (vmnmx_insert-sem 0 16 (omega arith)))
            (words _ (code_gives (vmnmx_insert-sem 0 8 (omega arith)))
            (words _ (code_gives (vmnmx_insert-sem 16 8 (omega arith)))
            (words _ (code_gives refl) (words _ (code_gives (minimum-sem cs s sign v c hv hc)) (words _ (code_gives (maximum-sem cs s sign v c hv hc)) (code_gives refl)))))))

module _ (cs : List ℕ) (i : Record) (s : State) where
  -- the result of words a, b and c
  abbrev vmnmx_words-is : ℕ → ℕ → ℕ → ℕ
  vmnmx_words-is a b c =
      M.joined (bits i 51 3) (bit i 54)
      (M.clamp_if (bit i 55) (M.extremum_signed (bit i 48) (bit i 49) (bit i 56)) (bit i 54) 32 (M.extremum (bit i 48) (bit i 49) (bit i 56) a b)) c

  vmnmx_words-sem : (a b c : ℕ) → a < 2 ^ 32 → b < 2 ^ 32 → c < 2 ^ 32
      → sem cs (vmnmx_words (insn i)) (Word a ∷ Word b ∷ Word c ∷ []) s ≡ ran (set_reg s (rd i) (vmnmx_words-is a b c)) (Word (vmnmx_words-is a b c))
  unfolding vmnmx_words vmnmx_signed effect_of value_at T.bits T.bit
  vmnmx_words-sem a b c ha hb hc =
      let sign = M.extremum_signed (bit i 48) (bit i 49) (bit i 56) in
      let v = M.extremum (bit i 48) (bit i 49) (bit i 56) a b in
      let hv = extremum-word a b ha hb (bit i 48) (bit i 49) (bit i 56) in
      let hf = clamp-word (bit i 55) sign (bit i 54) 32 v hv in
      rw (vmnmx_word-sem cs s a b ha hb (bit i 48) (bit i 49) (bit i 56), vmnmx_saturate-sem cs s (bit i 55) (bit i 54) sign v hv)
      (rw (vmnmx_merge-sem cs s (M.clamp_if (bit i 55) sign (bit i 54) 32 v) c hf hc (bits i 51 3) (bit i 54), set-sem cs s) refl)

  pub vmnmx-does : Proper cs s → final (sem cs (vmnmx (insn i)) [] s) ≡ some (M.vmnmx i s)
  unfolding vmnmx value_at T.bits T.bit
  vmnmx-does w =
      let a = M.video (bits i 36 3) (bit i 48) (reg s (ra i)) in
      let ha = video-word (bits i 36 3) (bit i 48) (reg s (ra i)) in
      let hb = video_b-word i s in
      rw (ra-sem cs s i, video_operand-sem cs s _ _ _ (reg-word cs s (ra i) w), vmnmx_b-sem cs s i w, rc-sem cs s i)
      (rw (vmnmx_words-sem a (M.video_b i s) (reg s (rc i)) ha hb (reg-word cs s (rc i) w)) refl)

-- ---- sizes

size-least : (code : ℕ) → 0 < M.bits_of_size code
size-least code = go (eqb code 0) (eqb code 1)
  where
    go : (a b : Bool) → 0 < cond a 8 (cond b 16 32)
    go true b = omega arith
    go false true = omega arith
    go false false = omega arith

size-most : (code : ℕ) → M.bits_of_size code ≤ 32
size-most code = go (eqb code 0) (eqb code 1)
  where
    go : (a b : Bool) → cond a 8 (cond b 16 32) ≤ 32
    go true b = omega arith
    go false true = omega arith
    go false false = omega arith

-- a byte and a half are narrower than a word, nothing else is
narrow-is : (code : ℕ) → ltb code 2 ≡ ltb (M.bits_of_size code) 32
narrow-is code = go (eqb code 0) (eqb code 1) refl refl
  where
    go : (a b : Bool) → eqb code 0 ≡ a → eqb code 1 ≡ b → ltb code 2 ≡ ltb (cond a 8 (cond b 16 32)) 32
    go true b e f = lt-ltb code 2 (omega (arith, eqb-true code 0 e))
    go false true e f = lt-ltb code 2 (omega (arith, eqb-true code 1 f))
    go false false e f = let n = eqb-false code 0 e in let m = eqb-false code 1 f in le-ltb code 2 (omega arith)

size_word : (code : ℕ) → ltb code 2 ≡ false → M.bits_of_size code ≡ 32
size_word code e = let m = size-most code in omega (arith, ltb-false (M.bits_of_size code) 32 (sym (narrow-is code) ∙ e))

-- ---- words

source-word : (code : ℕ) (sign : Bool) (byte x : ℕ) → M.source code sign byte x < 2 ^ 32
unfolding M.source
source-word code sign byte x = extracted-lt sign x (cond (ltb code 2) (byte * 8) 0) (M.bits_of_size code)

absolute-word : (on : Bool) (x : ℕ) → x < 2 ^ 32 → M.absolute_if on x < 2 ^ 32
unfolding M.absolute_if
absolute-word true x h = word_lt _
absolute-word false x h = h

-- the absolute value; that of -2 ^ 31 wraps to itself
abs_is : (x : ℕ) → x < 2 ^ 32 → s_abs x ≡ word_of (pos (nat_abs (signed_of 32 x)))
unfolding s_abs signed_of word_of
abs_is x h = go (ltb x (2 ^ 31)) (ltb (x * 2) (2 ^ 32)) refl refl
  where
    go : (a b : Bool) → ltb x (2 ^ 31) ≡ a → ltb (x * 2) (2 ^ 32) ≡ b → cond a x (2 ^ 32 - x) ≡ word_of (pos (nat_abs (cond b (pos x) (negsuc (2 ^ 32 - 1 - x)))))
    go true true e f = omega arith
    go true false e f = absurd (omega (arith, ltb-true x (2 ^ 31) e, ltb-false (x * 2) (2 ^ 32) f))
    go false true e f = absurd (omega (arith, ltb-false x (2 ^ 31) e, ltb-true (x * 2) (2 ^ 32) f))
    go false false e f = omega (arith, ltb-false x (2 ^ 31) e)

module _ (cs : List ℕ) (s : State) where
  -- a half from byte 3 on would pass bit 31
  int_source-sem : (code : ℕ) (sign : Bool) (byte x : ℕ) → x < 2 ^ 32 → byte < 4 → eqb code 1 && eqb byte 3 ≡ false
      → sem cs (int_source code sign byte) (Word x ∷ []) s ≡ ran s (Word (M.source code sign byte x))
  unfolding int_source M.source value_at
  int_source-sem code sign byte x hx h k = go (eqb code 0) (eqb code 1) refl refl k
    where
      go : (a b : Bool) → eqb code 0 ≡ a → eqb code 1 ≡ b → b && eqb byte 3 ≡ false
          → sem cs (ite a (field (byte * 8) 8 sign) (ite b (field (byte * 8) 16 sign) (ret 0))) (Word x ∷ []) s
          ≡ ran s (Word (extracted sign x (cond (ltb code 2) (byte * 8) 0) (cond a 8 (cond b 16 32))))
      go true b e f k = rw (lt-ltb code 2 (omega (arith, eqb-true code 0 e))) (field-sem cs s (byte * 8) 8 sign x (omega arith))
      go false true e f k =
          let n = eqb-false byte 3 k in
          rw (lt-ltb code 2 (omega (arith, eqb-true code 1 f))) (field-sem cs s (byte * 8) 16 sign x (omega arith))
      go false false e f k = let n = eqb-false code 0 e in let m = eqb-false code 1 f in rw (le-ltb code 2 (omega arith), whole_word sign x hx) refl

  absolute-sem : (on : Bool) (x : ℕ) → x < 2 ^ 32 → sem cs (absolute on) (Word x ∷ []) s ≡ ran s (Word (M.absolute_if on x))
  unfolding absolute M.absolute_if effect_of one_effect unary unary_word with_word value_at
  absolute-sem true x h = rw (abs_is x h) refl
  absolute-sem false x h = refl

  -- what was a signed word is clamped from below, and from above where that bound is a signed word too
  saturate_int-sem : (from to : Bool) (code v : ℕ) → v < 2 ^ 32
      → sem cs (saturate_int from to code) (Word v ∷ []) s ≡ ran s (Word (word_of (clamp (least to (M.bits_of_size code)) (greatest to (M.bits_of_size code)) (integer_of from 32 v))))
  unfolding saturate_int saturate_by clamp_high highest lowest effect_of one_effect unary unary_word two binary binary_word with_word value_at
  saturate_int-sem true true code v h = rw (clamp-signed (M.bits_of_size code) (size-least code) (size-most code) v h true refl) refl
  saturate_int-sem true false code v h = go (ltb code 2) refl
    where
      go : (b : Bool) → ltb code 2 ≡ b
          → sem cs (saturate_int true false code) (Word v ∷ []) s ≡ ran s (Word (word_of (clamp (least false (M.bits_of_size code)) (greatest false (M.bits_of_size code)) (signed_of 32 v))))
      go true e = rw e (rw (clamp-signed (M.bits_of_size code) (size-least code) (size-most code) v h false (sym (narrow-is code) ∙ e)) refl)
      go false e = rw (e, size_word code e) (rw (clamp-positive v h) refl)
  saturate_int-sem false to code v h = rw (clamp-unsigned (M.bits_of_size code) (size-least code) (size-most code) v h to) refl

  saturate_if-sem : (on from to : Bool) (code v : ℕ) → v < 2 ^ 32 → sem cs (saturate_if on from to code) (Word v ∷ []) s ≡ ran s (Word (M.clamp_if on from to (M.bits_of_size code) v))
  unfolding saturate_if M.clamp_if value_at
  saturate_if-sem true from to code v h = saturate_int-sem from to code v h
  saturate_if-sem false from to code v h = refl

-- ---- the arm

module _ (cs : List ℕ) (i : Record) (s : State) where
  pub i2i-does : missing cs i ≡ false → byte_three 24 (insn i) ≡ false → Proper cs s → final (sem cs (i2i (insn i)) [] s) ≡ some (M.i2i cs i s)
  unfolding i2i byte_three value_at T.bits T.bit
  i2i-does h k w =
      let b = operand_b cs i s in
      let x = M.source (bits i 10 2) (bit i 13) (bits i 41 2) b in
      let a = M.absolute_if (bit i 49 && bit i 13) x in
      let hx = source-word (bits i 10 2) (bit i 13) (bits i 41 2) b in
      let ha = absolute-word (bit i 49 && bit i 13) x hx in
      let hn = negate_word (bit i 45) a ha in
      rw (src_b-sem cs s i h, int_source-sem cs s (bits i 10 2) (bit i 13) (bits i 41 2) b (operand-word cs s i w) (bits-lt i 41 2) k, absolute-sem cs s (bit i 49 && bit i 13) x hx)
      (rw (ineg-sem cs s, saturate_if-sem cs s (bit i 50) (bit i 13) (bit i 12) (bits i 8 2) (M.negate_if (bit i 45) a) hn)
      (rw (int_source-sem cs s (bits i 8 2) (bit i 12) 0 _ (clamp-word (bit i 50) (bit i 13) (bit i 12) (M.bits_of_size (bits i 8 2)) (M.negate_if (bit i 45) a) hn) (omega arith) (and-false (eqb (bits i 8 2) 1)), set-sem cs s) refl))

  pub i2i-missing : missing cs i ≡ true → sem cs (i2i (insn i)) [] s ≡ halted (asked i) s
  unfolding i2i value_at T.bits T.bit
  i2i-missing h = rw (src_b-missing cs s i h) refl
