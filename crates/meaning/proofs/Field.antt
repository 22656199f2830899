-- Fields of a word, once for every offset and length: the entry that extracts, and the helpers that end in it.
use mathlib.Core.Path.{◌≡◌, refl, sym, ap, ◌∙◌}
use mathlib.Core.Bool.{Bool, true, false, cond}
use mathlib.Core.List.{List, [], ◌∷◌}
use Prim.Native.Nat.{ℕ, ◌+◌, ◌-◌, ◌*◌, ◌/◌, ◌%◌, ◌^◌, ◌≤◌, ◌<◌}
use native.Mathlib.Omega.{arith}
use lib.Dec.{ltb}
use lib.IntN.{ℤ, pos, negsuc}
use borrow.Author.Tests.{le-leb}
use Rattle.evaluation.specs.declared.value.Value.{Value}
use Rattle.evaluation.specs.declared.value.Value.TheVariants.{Word}
use Rattle.evaluation.specs.declared.state.State.{State}
use Rattle.evaluation.specs.Word.{unary_word, sign_extended, extract_word}
use Rattle.evaluation.specs.Value.{with_word, unary, extracted as extracted_value, three}
use Rattle.evaluation.specs.Machine.{one_effect, value_at, effect_of}
use Rattle.evaluation.proofs.Fields.{low_bits}
use Rattle.translation.specs.Helpers.{extract, field, half16}
use Rattle.meaning.specs.Number.{signed_of, word_of, field as field_of, extracted}
use Rattle.meaning.specs.Operand.{half}
use Rattle.translation.proofs.Sem.{ran, sem}

-- an integer wraps to a word
pub word_lt : (z : ℤ) → word_of z < 2 ^ 32
unfolding word_of
word_lt (pos n) = omega arith
word_lt (negsuc n) = omega arith

pub extracted-lt : (sign : Bool) (x p n : ℕ) → extracted sign x p n < 2 ^ 32
unfolding extracted
extracted-lt sign x p n = word_lt _

-- the kind of the entry that extracts
abbrev extract_kind : Bool → ℕ
extract_kind sign = cond sign 92 91

-- a number of n bits, its sign extended, is the word of its signed number
sign_extended_lem : (n v : ℕ) → v < 2 ^ n → 2 ^ n ≤ 2 ^ 32 → sign_extended n v ≡ word_of (signed_of n v)
unfolding signed_of word_of
sign_extended_lem n v h m = go (ltb (v * 2) (2 ^ n)) refl
  where
    go : (b : Bool) → ltb (v * 2) (2 ^ n) ≡ b → cond b v (2 ^ 32 - 2 ^ n + v) ≡ word_of (cond b (pos v) (negsuc (2 ^ n - 1 - v)))
    go true e = omega arith
    go false e = omega arith

extract-is : (sign : Bool) (x p n : ℕ) → p + n ≤ 32 → extract_word (extract_kind sign) x p n ≡ Word (extracted sign x p n)
unfolding extract_word extracted word_of
extract-is true x p n h =
    let l = low_bits (x / 2 ^ p) n (omega arith) in
    rw (le-leb (p + n) 32 h, sign_extended_lem n (field_of x p n) l.small l.most) refl
extract-is false x p n h =
    let l = low_bits (x / 2 ^ p) n (omega arith) in
    let e : field_of x p n % 2 ^ 32 ≡ field_of x p n = omega (arith, l.small, l.most) in
    rw (le-leb (p + n) 32 h, e) refl

-- the field of offset 0 and length 32 is the word
whole-extract : (sign : Bool) (x : ℕ) → x < 2 ^ 32 → extract_word (extract_kind sign) x 0 32 ≡ Word x
unfolding extract_word
whole-extract true x h = let e : x / 2 ^ 0 % 2 ^ 32 ≡ x = omega arith in rw e (go (ltb (x * 2) (2 ^ 32)))
  where
    go : (b : Bool) → Word (cond b x (2 ^ 32 - 2 ^ 32 + x)) ≡ Word x
    go true = refl
    go false = let e : 2 ^ 32 - 2 ^ 32 + x ≡ x = omega arith in rw e refl
whole-extract false x h = let e : x / 2 ^ 0 % 2 ^ 32 ≡ x = omega arith in rw e refl

pub whole_word : (sign : Bool) (x : ℕ) → x < 2 ^ 32 → extracted sign x 0 32 ≡ x
unfolding with_word
whole_word sign x h = ap (λ (v : Value). with_word 0 v (λ y. y)) (sym (extract-is sign x 0 32 (omega arith)) ∙ whole-extract sign x h)

module _ (cs : List ℕ) (s : State) where
  pub extract-sem : (sign : Bool) (x p n : ℕ) → p + n ≤ 32 → sem cs (extract sign) (Word x ∷ Word p ∷ Word n ∷ []) s ≡ ran s (Word (extracted sign x p n))
  unfolding extract effect_of one_effect unary unary_word three extracted_value with_word value_at
  extract-sem true x p n h = rw (extract-is true x p n h) refl
  extract-sem false x p n h = rw (extract-is false x p n h) refl

  pub field-sem : (p n : ℕ) (sign : Bool) (x : ℕ) → p + n ≤ 32 → sem cs (field p n sign) (Word x ∷ []) s ≡ ran s (Word (extracted sign x p n))
  unfolding field effect_of value_at
  field-sem p n sign x h = rw (extract-sem sign x p n h) refl

  pub half16-sem : (high sign : Bool) (x : ℕ) → sem cs (half16 high sign) (Word x ∷ []) s ≡ ran s (Word (half high sign x))
  unfolding half16
  half16-sem true sign x = field-sem 16 16 sign x (omega arith)
  half16-sem false sign x = field-sem 0 16 sign x (omega arith)
