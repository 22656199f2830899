-- The arms of fields: bfe, bfi.
use mathlib.Core.Path.{◌≡◌, refl}
use mathlib.Core.Bool.{Bool, true, false, cond}
use mathlib.Core.List.{List, [], ◌∷◌}
use mathlib.Core.Option.{some}
use Prim.Native.Nat.{ℕ, ◌+◌, ◌-◌, ◌/◌, ◌%◌, ◌^◌, ◌≤◌, ◌<◌}
use native.Mathlib.Omega.{arith}
use lib.Bits.{and_mask}
use borrow.Author.Tests.{le-leb}
use Rattle.evaluation.specs.declared.value.Value.TheVariants.{Word}
use Rattle.evaluation.specs.declared.state.State.{State}
use Rattle.evaluation.specs.Word.{i_sub, binary_word, insert_word}
use Rattle.evaluation.specs.Value.{with_word, binary, two, inserted_value}
use Rattle.evaluation.specs.Machine.{four_effect, value_at, effect_of}
use Rattle.translation.specs.Insn as T
use Rattle.meaning.specs.Record.{Record, bit, rd, ra}
use Rattle.meaning.proofs.Reading.{insn}
use Rattle.translation.specs.Arms.{use_field, field_at_b, bfe, bfi_words, bfi_swaps, bfi_bc, bfi}
use Rattle.meaning.specs.Number.{extracted, inserted}
use Rattle.meaning.specs.Operand.{reg, set_reg, operand_b, word_b, word_c}
use Rattle.meaning.specs.Meaning as M
use Rattle.translation.proofs.Sem.{ran, halted, sem}
use Rattle.translation.proofs.Stays.{Proper}
use Rattle.meaning.proofs.Helper.{asked, reg-word, set-sem, src_b-sem, src_b-missing, src_bc-sem, src_bc-missing, missing, final, ra-sem, second_word}
use Rattle.meaning.proofs.Field.{extract-sem}
use Rattle.meaning.proofs.Digits.{inserted-is}
use Rattle.meaning.proofs.Reverse.{reverse_if-sem, reverse_if-word}
use Rattle.meaning.proofs.Order.{umin-is}

-- ---- the entry that inserts

pub insert-is : (c v p n : ℕ) → c < 2 ^ 32 → p + n ≤ 32 → insert_word c v p n ≡ Word (inserted c v p n)
unfolding insert_word
insert-is c v p n h l = rw (le-leb (p + n) 32 l, inserted-is c v p n h l) refl

-- ---- position and length, cut at bit 31

room-is : (b : ℕ) → i_sub 32 (M.position b) ≡ 32 - M.position b
room-is b = omega arith

fits : (b : ℕ) → M.position b + M.width b ≤ 32
fits b = omega arith

module _ (cs : List ℕ) (s : State) where
  -- bfi inserts into c, bfe extracts from a
  use_field-sem : (insert sign : Bool) (c a p n : ℕ) → c < 2 ^ 32 → p + n ≤ 32
      → sem cs (use_field insert sign) (Word c ∷ Word a ∷ Word p ∷ Word n ∷ []) s ≡ ran s (Word (cond insert (inserted c a p n) (extracted sign a p n)))
  unfolding use_field effect_of four_effect inserted_value with_word value_at
  use_field-sem true sign c a p n h l = rw (insert-is c a p n h l) refl
  use_field-sem false sign c a p n h l = rw (extract-sem cs s sign a p n l) refl

  field_at_b-sem : (insert sign : Bool) (c a b : ℕ) → c < 2 ^ 32
      → sem cs (field_at_b insert sign) (Word c ∷ Word a ∷ Word b ∷ []) s
      ≡ ran s (Word (cond insert (inserted c a (M.position b) (M.width b)) (extracted sign a (M.position b) (M.width b))))
  unfolding field_at_b effect_of two binary binary_word with_word value_at
  field_at_b-sem insert sign c a b h =
      rw (and_mask b 8, and_mask (b / 256) 8, umin-is (b % 256) 32, room-is b, umin-is (b / 256 % 256) (32 - M.position b))
      (rw (use_field-sem insert sign c a (M.position b) (M.width b) h (fits b)) refl)

-- ---- the arms

module _ (cs : List ℕ) (i : Record) (s : State) where
  pub bfe-does : missing cs i ≡ false → Proper cs s → final (sem cs (bfe (insn i)) [] s) ≡ some (M.bfe cs i s)
  unfolding bfe value_at T.bits T.bit
  bfe-does h w =
      let ha = reg-word cs s (ra i) w in
      let a = M.reverse_if (bit i 40) (reg s (ra i)) in
      rw (ra-sem cs s i, src_b-sem cs s i h, reverse_if-sem cs s (bit i 40) (reg s (ra i)) ha)
      (rw (field_at_b-sem cs s false (bit i 48) a a (operand_b cs i s) (reverse_if-word (bit i 40) (reg s (ra i)) ha), set-sem cs s) refl)

  pub bfe-missing : missing cs i ≡ true → sem cs (bfe (insn i)) [] s ≡ halted (asked i) s
  unfolding bfe value_at T.bits T.bit
  bfe-missing h = rw (ra-sem cs s i, src_b-missing cs s i h) refl

  bfi_words-sem : (a b c : ℕ) → c < 2 ^ 32
      → sem cs (bfi_words (insn i)) (Word a ∷ Word b ∷ Word c ∷ []) s ≡ ran (set_reg s (rd i) (inserted c a (M.position b) (M.width b))) (Word (inserted c a (M.position b) (M.width b)))
  unfolding bfi_words value_at T.bits T.bit
  bfi_words-sem a b c h = rw (field_at_b-sem cs s true false c a b h, set-sem cs s) refl

  pub bfi-does : missing cs i ≡ false → Proper cs s → final (sem cs (bfi (insn i)) [] s) ≡ some (M.bfi cs i s)
  unfolding bfi bfi_bc bfi_swaps value_at T.bits T.bit
  bfi-does h w =
      let swap = M.opcode i 21488 in
      rw (ra-sem cs s i, src_bc-sem cs s i swap (bfi_words (insn i)) (reg s (ra i)) h)
      (rw (bfi_words-sem (reg s (ra i)) (word_b cs i swap s) (word_c cs i swap s) (second_word cs s i swap w)) refl)

  pub bfi-missing : missing cs i ≡ true → sem cs (bfi (insn i)) [] s ≡ halted (asked i) s
  unfolding bfi bfi_bc bfi_swaps value_at T.bits T.bit
  bfi-missing h = rw (ra-sem cs s i, src_bc-missing cs s i (M.opcode i 21488) (bfi_words (insn i)) (reg s (ra i)) h) refl
