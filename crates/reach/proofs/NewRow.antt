-- A row that is replaced by five words.
use Rattle.std.proofs.Common.{◌≡◌, refl, sym, ap, ◌∙◌, ℕ, zero, suc, ◌+◌, ◌*◌, ◌<◌, ◌≤◌, Bool, true, false, cond, List, [], ◌∷◌, ◌++◌, append_assoc, length, length-set, take, get_or, set, get_or-set_same, get_or-set_other, eqb, ltb, bit_or, add-zero, arith}
use Rattle.std.proofs.lemmas.List.{drop-drop}
use lib.ListN.{drop}
use lib.Seq.{sets-eq}
use borrow.Author.Tests.{eqb-true, eqb-false, lt-ltb, le-ltb, ltb-true, ltb-false}
use borrow.Rule.Slice.PartMut.{put_mid}
use Rattle.reach.specs.Rows.{set_row, put_row, row_words, join_row}

-- written over as a part of the table's words
pub put-row-is : (t row : List ℕ) (r k : ℕ) → length row ≡ 5 → k ≡ 5 → r * 5 + 5 ≤ length t → put_mid (r * 5) k t row ≡ put_row t r row
unfolding set_row
put-row-is t (a ∷ b ∷ c ∷ d ∷ e ∷ []) r k n f h =
    let row : List ℕ = a ∷ b ∷ c ∷ d ∷ e ∷ [] in
    let i : r * 5 + 1 ≡ suc (r * 5) = omega arith in
    let j : r * 5 + 2 ≡ suc (suc (r * 5)) = omega arith in
    let l : r * 5 + 3 ≡ suc (suc (suc (r * 5))) = omega arith in
    let m : r * 5 + 4 ≡ suc (suc (suc (suc (r * 5)))) = omega arith in
    rw (i, j, l, m, f) (ap (λ (z : List ℕ). take (r * 5) t ++ (row ++ z)) (drop-drop 5 (r * 5) t) ∙ sym (append_assoc (take (r * 5) t) row (drop (r * 5 + 5) t)) ∙ sym (sets-eq row t (r * 5) h))
put-row-is t [] r k n f h = absurd (omega (arith, n))
put-row-is t (a ∷ []) r k n f h = absurd (omega (arith, n))
put-row-is t (a ∷ b ∷ []) r k n f h = absurd (omega (arith, n))
put-row-is t (a ∷ b ∷ c ∷ []) r k n f h = absurd (omega (arith, n))
put-row-is t (a ∷ b ∷ c ∷ d ∷ []) r k n f h = absurd (omega (arith, n))
put-row-is t (a ∷ b ∷ c ∷ d ∷ e ∷ x ∷ xs) r k n f h = absurd (omega (arith, n))

-- a word of a row
pub row-words-at : (t : List ℕ) (r k : ℕ) → k < 5 → get_or (row_words t r) k 0 ≡ get_or t (r * 5 + k) 0
row-words-at t r zero h = rw add-zero refl
row-words-at t r (suc zero) h = refl
row-words-at t r (suc (suc zero)) h = refl
row-words-at t r (suc (suc (suc zero))) h = refl
row-words-at t r (suc (suc (suc (suc zero)))) h = refl
row-words-at t r (suc (suc (suc (suc (suc k))))) h = absurd (omega arith)

-- the first i words of a row, f, are joined with those of another, g
pub record Joined (f g : ℕ → ℕ) (row : List ℕ) (i : ℕ) : Type 0 where
  pub size : length row ≡ 5
  pub at : (k : ℕ) → k < 5 → get_or row k 0 ≡ cond (ltb k i) (bit_or (f k) (g k)) (f k)

module _ {f g : ℕ → ℕ} {row : List ℕ} {i : ℕ} (j : Joined f g row i) where
  pub joined_more : (w : ℕ) → w ≡ g i → i < 5 → Joined f g (set row i (bit_or (get_or row i 0) w)) (i + 1)
  joined_more w is l = record { size = simp length-set j.size; at = λ k m. go k m (eqb k i) refl }
    where
      h : i < length row
      h = rw j.size l

      value : bit_or (get_or row i 0) w ≡ bit_or (f i) (g i)
      value = rw (is, j.at i l, le-ltb i i (omega arith)) refl

      go : (k : ℕ) → k < 5 → (b : Bool) → eqb k i ≡ b → get_or (set row i (bit_or (get_or row i 0) w)) k 0 ≡ cond (ltb k (i + 1)) (bit_or (f k) (g k)) (f k)
      go k m true p = let e : k ≡ i = eqb-true k i p in rw (e, lt-ltb i (i + 1) (omega arith)) (get_or-set_same row i _ 0 h ∙ value)
      go k m false p = get_or-set_other row i k _ 0 (eqb-false k i p) ∙ j.at k m ∙ ap (λ (b : Bool). cond b (bit_or (f k) (g k)) (f k)) (side (ltb k i) refl)
        where
          side : (b : Bool) → ltb k i ≡ b → b ≡ ltb k (i + 1)
          side true q = sym (lt-ltb k (i + 1) (omega (arith, ltb-true k i q)))
          side false q = sym (le-ltb k (i + 1) (omega (arith, ltb-false k i q, eqb-false k i p)))

  joined-word : 5 ≤ i → (k : ℕ) → k < 5 → get_or row k 0 ≡ bit_or (f k) (g k)
  joined-word h k m = j.at k m ∙ rw (lt-ltb k i (omega arith)) refl

abbrev pub word_at : List ℕ → ℕ → ℕ → ℕ
word_at t r k = get_or t (r * 5 + k) 0

pub joined-none : {row : List ℕ} (t : List ℕ) (r : ℕ) (g : ℕ → ℕ) → row ≡ row_words t r → Joined (word_at t r) g row 0
joined-none t r g e = record { size = ap length e; at = λ k m. rw (e, le-ltb k 0 (omega arith)) (row-words-at t r k m) }

pub joined-all : {row : List ℕ} {i : ℕ} (t : List ℕ) (r s : ℕ) → Joined (word_at t r) (word_at t s) row i → 5 ≤ i → put_row t r row ≡ join_row t r s
unfolding join_row
joined-all {row} {i} t r s j h =
    let w = joined-word j h in
    rw (w 0 (omega arith), w 1 (omega arith), w 2 (omega arith), w 3 (omega arith), w 4 (omega arith), add-zero (r * 5), add-zero (s * 5)) refl
