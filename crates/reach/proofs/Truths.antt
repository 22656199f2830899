-- Truths: tests on numbers below a bound, and lists of truths.
use mathlib.Core.Path.{◌≡◌, refl, ap, ◌∙◌, sym}
use mathlib.Core.List.{List, [], ◌∷◌, ◌++◌}
use mathlib.Core.Bool.{Bool, true, false, ◌&&◌, ◌||◌, false≢true, or-true, or-false, or_assoc}
use Prim.Native.Nat.{ℕ, zero, suc, ◌+◌, ◌<◌}
use native.Mathlib.Omega.{arith}
use native.Mathlib.Nat.{not-suc-le-zero}
use native.Mathlib.Numerals.{add-one}
use lib.Dec.{eqb}
use lib.ListN.{length, get_or, length-append, get_or-append}
use lib.Seq.{ext_get_or, get_or-append_seam}
use borrow.Author.Tests.{eqb-true, eqb-false, eq-eqb}
use Rattle.reach.specs.Reach.{table}
use Rattle.reach.specs.Rows.{any_below}

pub same_truth : (a b : Bool) → (a ≡ true → b ≡ true) → (b ≡ true → a ≡ true) → a ≡ b
same_truth true b f g = sym (f refl)
same_truth false true f g = absurd (false≢true (g refl))
same_truth false false f g = refl

pub or_elim : {C : Type 0} (a b : Bool) → a || b ≡ true → (a ≡ true → C) → (b ≡ true → C) → C
or_elim true b h f g = f refl
or_elim false b h f g = g h

-- ---- one of the first n numbers passes

pub any-intro : (n : ℕ) (f : ℕ → Bool) (i : ℕ) → i < n → f i ≡ true → any_below n f ≡ true
unfolding any_below
any-intro zero f i h p = absurd (not-suc-le-zero h)
any-intro (suc n) f i h p = go (eqb i n) refl (any-intro n f i)
  where
    go : (b : Bool) → eqb i n ≡ b → (i < n → f i ≡ true → any_below n f ≡ true) → any_below n f || f n ≡ true
    go true q ih = rw (sym (ap f (eqb-true i n q)) ∙ p) (or-true (any_below n f))
    go false q ih = rw (ih (omega (arith, eqb-false i n q)) p)

pub any-elim : {C : Type 0} (n : ℕ) (f : ℕ → Bool) → any_below n f ≡ true → ((i : ℕ) → i < n → f i ≡ true → C) → C
unfolding any_below
any-elim zero f h k = absurd (false≢true h)
any-elim (suc n) f h k = or_elim (any_below n f) (f n) h (λ p. any-elim n f p (λ i l. k i (omega arith))) (k n (omega arith))

pub any-cong : (n : ℕ) (f g : ℕ → Bool) → ((i : ℕ) → i < n → f i ≡ g i) → any_below n f ≡ any_below n g
unfolding any_below
any-cong zero f g h = refl
any-cong (suc n) f g h = rw (any-cong n f g (λ i l. h i (omega arith)), h n (omega arith))

pub any_none : (n : ℕ) (f : ℕ → Bool) → ((i : ℕ) → i < n → f i ≡ false) → any_below n f ≡ false
unfolding any_below
any_none zero f h = refl
any_none (suc n) f h = rw (any_none n f (λ i l. h i (omega arith)), h n (omega arith))

or_swap : (a b c d : Bool) → (a || b) || (c || d) ≡ (a || c) || (b || d)
or_swap true b c d = refl
or_swap false b true d = or-true b
or_swap false b false d = refl

pub any-or : (n : ℕ) (f g : ℕ → Bool) → any_below n (λ i. f i || g i) ≡ any_below n f || any_below n g
unfolding any_below
any-or zero f g = refl
any-or (suc n) f g = rw (any-or n f g) (or_swap (any_below n f) (any_below n g) (f n) (g n))

-- the test that only x passes
pub any-one : (n x : ℕ) (f : ℕ → Bool) → x < n → any_below n (λ i. eqb i x && f i) ≡ f x
any-one n x f h = same_truth _ _ (λ p. any-elim n _ p (λ i l q. one i (eqb i x) refl q)) (λ p. any-intro n _ x h (rw (eq-eqb x x refl) p))
  where
    one : (i : ℕ) (b : Bool) → eqb i x ≡ b → b && f i ≡ true → f x ≡ true
    one i true e q = ap f (sym (eqb-true i x e)) ∙ q
    one i false e q = absurd (false≢true q)

-- the first m + n numbers
pub any-add : (m n : ℕ) (f : ℕ → Bool) → any_below (m + n) f ≡ any_below m f || any_below n (λ i. f (m + i))
unfolding any_below
any-add m zero f = let e : m + 0 ≡ m = omega arith in rw e (sym (or-false (any_below m f)))
any-add m (suc n) f =
    let e : m + suc n ≡ suc (m + n) = omega arith in
    rw (e, any-add m n f) (or_assoc (any_below m f) (any_below n (λ i. f (m + i))) (f (m + n)))

-- ---- the first n truths of a test

pub table-length : (n : ℕ) (f : ℕ → Bool) → length (table n f) ≡ n
unfolding table
table-length zero f = refl
table-length (suc n) f = length-append (table n f) (f n ∷ []) ∙ rw (table-length n f) (add-one n)

pub table-in : (n : ℕ) (f : ℕ → Bool) (i : ℕ) → i < n → get_or (table n f) i false ≡ f i
unfolding table
table-in zero f i h = absurd (not-suc-le-zero h)
table-in (suc n) f i h = go (eqb i n) refl (table-in n f i)
  where
    go : (b : Bool) → eqb i n ≡ b → (i < n → get_or (table n f) i false ≡ f i) → get_or (table n f ++ (f n ∷ [])) i false ≡ f i
    go true q ih =
        let e : i ≡ length (table n f) = eqb-true i n q ∙ sym (table-length n f) in
        ap (λ (j : ℕ). get_or (table n f ++ (f n ∷ [])) j false) e ∙ get_or-append_seam (table n f) (f n) [] false ∙ ap f (sym (eqb-true i n q))
    go false q ih =
        let l : i < n = omega (arith, eqb-false i n q) in
        get_or-append (table n f) (f n ∷ []) false i (rw (table-length n f) l) ∙ ih l

-- a list is the table of its elements
pub table_is : (l : List Bool) (n : ℕ) (f : ℕ → Bool) → length l ≡ n → ((i : ℕ) → i < n → f i ≡ get_or l i false) → table n f ≡ l
table_is l n f e h =
    ext_get_or false (table n f) l (table-length n f ∙ sym e)
    (λ i k. let j : i < n = rw table-length at k in table-in n f i j ∙ h i j)

-- an element that is true lies in the list
pub true-within : (l : List Bool) (i : ℕ) → get_or l i false ≡ true → i < length l
true-within [] i h = absurd (false≢true h)
true-within (x ∷ l) zero h = omega arith
true-within (x ∷ l) (suc i) h = let k : i < length l = true-within l i h in omega arith
