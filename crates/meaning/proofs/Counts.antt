-- The arms that count bits: flo and popc.
use mathlib.Core.Path.{◌≡◌, refl, sym, ap, ap₂, ◌∙◌}
use mathlib.Core.Logic.{◌≢◌}
use mathlib.Core.Bool.{Bool, true, false, cond, not, ◌&&◌}
use mathlib.Core.List.{List, [], ◌∷◌}
use mathlib.Core.Option.{some}
use Prim.Native.Nat.{ℕ, zero, suc, ◌+◌, ◌-◌, ◌/◌, ◌%◌, ◌^◌, ◌≤◌, ◌<◌}
use native.Mathlib.Omega.{arith}
use lib.Dec.{eqb, leb}
use borrow.Author.Tests.{leb-false, eqb-true, eqb-false}
use Rattle.evaluation.specs.declared.value.Value.TheVariants.{Word}
use Rattle.evaluation.specs.declared.state.State.{State}
use Rattle.evaluation.specs.Word as E
use Rattle.evaluation.specs.Value.{with_word, unary, binary, compared, two}
use Rattle.evaluation.specs.Machine.{one_effect, value_at, effect_of}
use Rattle.translation.specs.Insn as T
use Rattle.meaning.specs.Record.{Record, bit}
use Rattle.meaning.proofs.Reading.{insn}
use Rattle.translation.specs.Arms as A
use Rattle.meaning.specs.Number.{bit_at, ones, highest_one, complement}
use Rattle.meaning.specs.Operand.{operand_b}
use Rattle.meaning.specs.Meaning as M
use Rattle.translation.proofs.Sem.{ran, halted, sem}
use Rattle.meaning.proofs.Order.{not-leb}
use Rattle.translation.proofs.Stays.{Proper}
use Rattle.meaning.proofs.Helper.{asked, operand-word, set-sem, src_b-sem, src_b-missing, missing, final, select-is, inot-sem, complement-word}
use Rattle.meaning.proofs.Digits.{bit-zero, bit-suc, digit-is, top_bit}

-- ---- the highest place

highest-is : (n x : ℕ) → x < 2 ^ n → E.highest n x ≡ highest_one n x
unfolding E.highest highest_one
highest-is zero x h = refl
highest-is (suc n) x h = rw (top_bit n x h) (go (leb (2 ^ n) x) refl (λ l. highest-is n x l))
  where
    go : (b : Bool) → leb (2 ^ n) x ≡ b → (x < 2 ^ n → E.highest n x ≡ highest_one n x) → cond b n (E.highest n x) ≡ cond b n (highest_one n x)
    go true e below = refl
    go false e below = below (leb-false (2 ^ n) x e)

-- it is a place, or there is none
place-or-none : (n x : ℕ) → n ≤ 32 → highest_one n x ≢ 2 ^ 32 - 1 → highest_one n x < 32
unfolding highest_one
place-or-none zero x h k = absurd (k refl)
place-or-none (suc n) x h k = go (bit_at x n) refl (λ q. place-or-none n x (omega arith) q)
  where
    go : (b : Bool) → bit_at x n ≡ b → (highest_one n x ≢ 2 ^ 32 - 1 → highest_one n x < 32) → cond b n (highest_one n x) < 32
    go true e below = omega arith
    go false e below = below (λ q. k (rw e q))

module _ (cs : List ℕ) (s : State) where
  find_msb-sem : (sign : Bool) (x : ℕ) → x < 2 ^ 32 → sem cs (A.find_msb sign) (Word x ∷ []) s ≡ ran s (Word (M.highest_place sign x))
  unfolding A.find_msb M.highest_place effect_of one_effect unary E.unary_word with_word value_at complement
  find_msb-sem true x h = rw (← not-leb (2 ^ 31) x, turned (leb (2 ^ 31) x)) refl
    where
      turned : (b : Bool) → cond (not b) (E.highest 32 x) (E.highest 32 (2 ^ 32 - 1 - x)) ≡ highest_one 32 (cond b (2 ^ 32 - 1 - x) x)
      turned true = highest-is 32 (2 ^ 32 - 1 - x) (omega arith)
      turned false = highest-is 32 x h
  find_msb-sem false x h = rw (highest-is 32 x h) refl

  flo_shift-sem : (on : Bool) (v : ℕ) → (v ≢ 2 ^ 32 - 1 → v < 32) → sem cs (A.flo_shift on) (Word v ∷ []) s ≡ ran s (Word (M.from_top on v))
  unfolding A.flo_shift M.from_top effect_of two binary E.binary_word compared E.compare_word with_word value_at
  flo_shift-sem true v h = rw (select-is (eqb v (2 ^ 32 - 1))) (ap (λ (z : ℕ). ran s (Word z)) (go (eqb v (2 ^ 32 - 1)) refl))
    where
      go : (b : Bool) → eqb v (2 ^ 32 - 1) ≡ b → cond b (2 ^ 32 - 1) ((31 + (2 ^ 32 - v)) % 2 ^ 32) ≡ cond (not b) (31 - v) v
      go true e = sym (eqb-true v (2 ^ 32 - 1) e)
      go false e = let l = h (eqb-false v (2 ^ 32 - 1) e) in omega arith
  flo_shift-sem false v h = refl

highest-range : (sign : Bool) (x : ℕ) → M.highest_place sign x ≢ 2 ^ 32 - 1 → M.highest_place sign x < 32
unfolding M.highest_place
highest-range sign x h = place-or-none 32 (cond (sign && leb (2 ^ 31) x) (complement x) x) (omega arith) h

-- ---- the count of ones

ones_step : (n x : ℕ) → ones (suc n) x ≡ x % 2 + ones n (x / 2)
unfolding ones
ones_step zero x = let d : cond (bit_at x 0) 1 0 ≡ x % 2 = ap (λ (t : Bool). cond {A = ℕ} t 1 0) (bit-zero x) ∙ sym (digit-is x) in omega arith
ones_step (suc n) x = ap₂ (λ (m : ℕ) (t : Bool). m + cond {A = ℕ} t 1 0) (ones_step n x) (bit-suc x n) ∙ omega arith

counted_is : (n x : ℕ) → E.counted n x ≡ ones n x
unfolding E.counted ones
counted_is zero x = refl
counted_is (suc n) x = ap (λ (m : ℕ). x % 2 + m) (counted_is n (x / 2)) ∙ sym (ones_step n x)

-- ---- the arms flo and popc

module _ (cs : List ℕ) (i : Record) (s : State) where
  pub flo-does : missing cs i ≡ false → Proper cs s → final (sem cs (A.flo (insn i)) [] s) ≡ some (M.flo cs i s)
  unfolding A.flo value_at T.bits T.bit
  flo-does h w =
      let b = M.complement_if (bit i 40) (operand_b cs i s) in
      let hb = complement-word (bit i 40) (operand_b cs i s) (operand-word cs s i w) in
      let range = highest-range (bit i 48) b in
      rw (src_b-sem cs s i h, inot-sem cs s (bit i 40), find_msb-sem cs s (bit i 48) b hb, flo_shift-sem cs s (bit i 41) (M.highest_place (bit i 48) b) range, set-sem cs) refl

  pub flo-missing : missing cs i ≡ true → sem cs (A.flo (insn i)) [] s ≡ halted (asked i) s
  unfolding A.flo T.bits T.bit
  flo-missing h = rw (src_b-missing cs s i h) refl

  pub popc-does : missing cs i ≡ false → final (sem cs (A.popc (insn i)) [] s) ≡ some (M.popc cs i s)
  unfolding A.popc effect_of one_effect unary E.unary_word with_word value_at T.bits T.bit
  popc-does h = rw (src_b-sem cs s i h, inot-sem cs s (bit i 40), counted_is 32, set-sem cs) refl

  pub popc-missing : missing cs i ≡ true → sem cs (A.popc (insn i)) [] s ≡ halted (asked i) s
  unfolding A.popc T.bits T.bit
  popc-missing h = rw (src_b-missing cs s i h) refl
