-- Words in bytes: what the loops over the marks keep, and what `mehkura_translate` answers case by case.
use Rattle.std.specs.Prelude.{Ok, Err}
use mathlib.Core.Path.{◌≡◌, refl, sym, ap, ◌∙◌}
use mathlib.Core.List.{List, [], ◌∷◌, ◌++◌, append_assoc, append-nil}
use Prim.Native.Nat.{ℕ, zero, suc, ◌+◌, ◌*◌, ◌≤◌, ◌<◌}
use native.Mathlib.Omega.{arith}
use native.Mathlib.Numerals.{towards_suc, add-one}
use Rattle.std.proofs.lemmas.Slice.{take-put_mid}
use borrow.Rule.Slice.PartMut.{put_mid}
use lib.ListN.{length, take, get_or, set}
use lib.Seq.{take_all, take-suc, take-suc-set}
use borrow.Author.Tests.{eq-eqb, ne_eqb}
use Rattle.strip.specs.Entry.{wide, word_at, word_bytes, read_entry, read_as, encode, kind_of, immediate_of, refs_of, short}
use Rattle.strip.specs.declared.reader.Entry.TheVariants as Entry
use Rattle.strip.specs.Format.{format_of}
use Rattle.strip.proofs.Encode.{Bytes, read_is}
use Rattle.translation.specs.declared.answer.Refusal.{Refusal}
use Rattle.translation.specs.declared.answer.Translated.{Translated}
use Rattle.translation.specs.Strip as T
use Rattle.translation.specs.Whole.{decision_of}
use Rattle.host.specs.Marks.{words_in, mark_bytes, returns, by_outcome, handed_back, translate_answer}

-- ---- the marks, word by word

-- no word is read yet, one more
pub words-start : (bytes : List ℕ) → [] ≡ words_in 0 bytes
unfolding words_in
words-start bytes = refl

pub words-next : (bytes marks : List ℕ) (i : ℕ) → i < length marks → take i marks ≡ words_in i bytes
    → take (suc i) (set marks i (word_at bytes (i * 4))) ≡ words_in (suc i) bytes
unfolding words_in
words-next bytes marks i h e = rw (take-suc-set marks i (word_at bytes (i * 4)) h, e)

-- the same for writing
pub bytes-start : [] ≡ mark_bytes []
unfolding mark_bytes
bytes-start = refl

bytes-snoc : (ws : List ℕ) (w : ℕ) → mark_bytes (ws ++ (w ∷ [])) ≡ mark_bytes ws ++ word_bytes w
unfolding mark_bytes
bytes-snoc [] w = append-nil (word_bytes w)
bytes-snoc (x ∷ ws) w = ap (λ (l : List ℕ). word_bytes x ++ l) (bytes-snoc ws w) ∙ sym (append_assoc (word_bytes x) (mark_bytes ws) (word_bytes w))

pub bytes_next : (marks bytes four : List ℕ) (i k : ℕ) → i < length marks → i * 4 + 4 ≤ length bytes → four ≡ word_bytes (get_or marks i 0) → take (i * 4) bytes ≡ mark_bytes (take i marks)
    → take ((i + 1) * 4) (put_mid (i * 4) k bytes four) ≡ mark_bytes (take (i + 1) marks)
bytes_next marks bytes four i k h l p e =
    take-put_mid (i * 4) k bytes four ((i + 1) * 4) (rw p (omega arith)) (omega arith) ∙ rw (p, e, add-one, take-suc marks i 0 h, bytes-snoc)

-- ---- the answer
module _ (bytes marks out : List ℕ) (written : ℕ) where
  pub wrong-marks : (length marks ≡ 128 → ⊥) → returns 1 written marks out ≡ translate_answer bytes written marks out
  unfolding translate_answer
  wrong-marks h = rw (ne_eqb (length marks) 128 h)

  pub tried : {used : List ℕ} (a : T.Decision) → length marks ≡ 128 → used ≡ words_in 32 marks
      → a ≡ T.decision bytes used out → handed_back a written marks ≡ translate_answer bytes written marks out
  unfolding translate_answer
  tried a e p q = rw (eq-eqb (length marks) 128 e, ← p, ← q)

module _ (r : Translated) (out : List ℕ) (written : ℕ) (marks : List ℕ) where
  pub translated : {n : ℕ} {marks' : List ℕ} → r.outcome ≡ Ok n → marks' ≡ mark_bytes r.cbuf_used
      → returns 0 n marks' out ≡ handed_back (decision_of r out) written marks
  unfolding by_outcome
  translated o p = rw (o, p)

  pub refused : {n : ℕ} {f : Refusal} → r.outcome ≡ Err f → n ≡ T.refusal_number f → returns n written marks out ≡ handed_back (decision_of r out) written marks
  unfolding by_outcome
  refused o p = rw (o, p)

-- ---- what is read and written back is what stood there

-- four bytes and their word
four : (x y z w : ℕ) → x < 256 → y < 256 → z < 256 → w < 256 → word_bytes (word_at (1 ∷ x ∷ y ∷ z ∷ w ∷ []) 1) ≡ x ∷ y ∷ z ∷ w ∷ []
unfolding read_entry read_as encode kind_of immediate_of refs_of short format_of
four x y z w hx hy hz hw = ap tail (read_is wide s small (Entry.Word (word_at s 1)) 5 refl).bytes
  where
    s : List ℕ
    s = 1 ∷ x ∷ y ∷ z ∷ w ∷ []

    small : Bytes s
    small zero = omega arith
    small (suc zero) = hx
    small (suc (suc zero)) = hy
    small (suc (suc (suc zero))) = hz
    small (suc (suc (suc (suc zero)))) = hw
    small (suc (suc (suc (suc (suc i))))) = omega arith

    tail : List ℕ → List ℕ
    tail [] = []
    tail (a ∷ l) = l

four-at : (l : List ℕ) → Bytes l → (k : ℕ) → k + 4 ≤ length l → take k l ++ word_bytes (word_at l k) ≡ take (suc (suc (suc (suc k)))) l
four-at l h k b =
    rw (
      four (get_or l k 0) (get_or l (k + 1) 0) (get_or l (k + 2) 0) (get_or l (k + 2 + 1) 0) (h k) (h (k + 1)) (h (k + 2)) (h (k + 2 + 1)),
      take-suc l (suc (suc (suc k))) 0 (omega arith),
      take-suc l (suc (suc k)) 0 (omega arith),
      take-suc l (suc k) 0 (omega arith),
      take-suc l k 0 (omega arith),
    )
    (simp (append_assoc, towards_suc))

pub marks-back : (n : ℕ) (l : List ℕ) → Bytes l → n * 4 ≤ length l → mark_bytes (words_in n l) ≡ take (n * 4) l
unfolding words_in
marks-back zero l h k = sym bytes-start
marks-back (suc n) l h k =
    let e : suc n * 4 ≡ suc (suc (suc (suc (n * 4)))) = omega arith in
    rw (bytes-snoc, marks-back n l h (omega arith), e) (four-at l h (n * 4) (omega arith))

-- marks that nothing raises come back byte for byte
pub marks-kept : (l : List ℕ) → Bytes l → length l ≡ 128 → mark_bytes (words_in 32 l) ≡ l
marks-kept l h e = marks-back 32 l h (omega arith) ∙ take_all 128 l (omega arith)
