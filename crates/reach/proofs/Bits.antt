-- The bits of a table of rows.
use mathlib.Core.Path.{◌≡◌, refl, ap, ◌∙◌, sym}
use mathlib.Core.List.{List}
use mathlib.Core.Bool.{Bool, true, false, cond, ◌&&◌, ◌||◌, or-false}
use Prim.Native.Nat.{ℕ, zero, suc, ◌+◌, ◌*◌, ◌/◌, ◌%◌, ◌^◌, ◌<◌, max}
use native.Mathlib.Omega.{arith}
use native.Mathlib.Nat.{add-zero}
use lib.Dec.{eqb}
use lib.Bits.{bit_or}
use lib.ListN.{get_or, set, replicate, length-set}
use lib.Seq.{get_or-set_same, get_or-set_other}
use borrow.Author.Tests.{eqb-true, eqb-false, eq-eqb, ne_eqb}
use Rattle.strip.proofs.Digits.{digit, digit_or, digit-0, digit-pow, digit_lt}
use Rattle.reach.specs.Rows.{Sized, in_row, set_row, join_row, copy_row, wipe_row, add_cell}

-- ---- the words of a table with a new row

pick : (a b c d e : ℕ) → ℕ → ℕ
pick a b c d e zero = a
pick a b c d e (suc zero) = b
pick a b c d e (suc (suc zero)) = c
pick a b c d e (suc (suc (suc zero))) = d
pick a b c d e (suc (suc (suc (suc w)))) = e

module _ (t : List ℕ) (r : ℕ) (a b c d e : ℕ) where
  one : List ℕ
  one = set t (r * 5) a

  two : List ℕ
  two = set one (r * 5 + 1) b

  three : List ℕ
  three = set two (r * 5 + 2) c

  four : List ℕ
  four = set three (r * 5 + 3) d

  row_sized : Sized t → Sized (set_row t r a b c d e)
  unfolding set_row
  row_sized h = simp length-set h

  row_other : (x w : ℕ) → w < 5 → (x ≡ r → ⊥) → get_or (set_row t r a b c d e) (x * 5 + w) 0 ≡ get_or t (x * 5 + w) 0
  unfolding set_row one two three four
  row_other x w l ne =
      get_or-set_other four (r * 5 + 4) (x * 5 + w) e 0 (λ p. ne (omega arith))
      ∙ get_or-set_other three (r * 5 + 3) (x * 5 + w) d 0 (λ p. ne (omega arith))
      ∙ get_or-set_other two (r * 5 + 2) (x * 5 + w) c 0 (λ p. ne (omega arith))
      ∙ get_or-set_other one (r * 5 + 1) (x * 5 + w) b 0 (λ p. ne (omega arith))
      ∙ get_or-set_other t (r * 5) (x * 5 + w) a 0 (λ p. ne (omega arith))

  module _ (sized : Sized t) (h : r < 300) where
    at-0 : get_or one (r * 5) 0 ≡ a
    unfolding one
    at-0 = get_or-set_same t (r * 5) a 0 (omega arith)

    at_1 : get_or two (r * 5 + 1) 0 ≡ b
    unfolding one two
    at_1 = get_or-set_same one (r * 5 + 1) b 0 (simp length-set (omega arith))

    at-2 : get_or three (r * 5 + 2) 0 ≡ c
    unfolding one two three
    at-2 = get_or-set_same two (r * 5 + 2) c 0 (simp length-set (omega arith))

    at-3 : get_or four (r * 5 + 3) 0 ≡ d
    unfolding one two three four
    at-3 = get_or-set_same three (r * 5 + 3) d 0 (simp length-set (omega arith))

    up-1 : (i : ℕ) → i < r * 5 + 1 → get_or two i 0 ≡ get_or one i 0
    unfolding two
    up-1 i l = get_or-set_other one (r * 5 + 1) i b 0 (λ p. omega arith)

    up-2 : (i : ℕ) → i < r * 5 + 2 → get_or three i 0 ≡ get_or two i 0
    unfolding three
    up-2 i l = get_or-set_other two (r * 5 + 2) i c 0 (λ p. omega arith)

    up-3 : (i : ℕ) → i < r * 5 + 3 → get_or four i 0 ≡ get_or three i 0
    unfolding four
    up-3 i l = get_or-set_other three (r * 5 + 3) i d 0 (λ p. omega arith)

    up-4 : (i : ℕ) → i < r * 5 + 4 → get_or (set_row t r a b c d e) i 0 ≡ get_or four i 0
    unfolding set_row one two three four
    up-4 i l = get_or-set_other four (r * 5 + 4) i e 0 (λ p. omega arith)

    row_same : (w : ℕ) → w < 5 → get_or (set_row t r a b c d e) (r * 5 + w) 0 ≡ pick a b c d e w
    unfolding pick set_row one two three four
    row_same zero l = rw add-zero (up-4 _ (omega arith) ∙ up-3 _ (omega arith) ∙ up-2 _ (omega arith) ∙ up-1 _ (omega arith) ∙ at-0)
    row_same (suc zero) l = up-4 _ (omega arith) ∙ up-3 _ (omega arith) ∙ up-2 _ (omega arith) ∙ at_1
    row_same (suc (suc zero)) l = up-4 _ (omega arith) ∙ up-3 _ (omega arith) ∙ at-2
    row_same (suc (suc (suc zero))) l = up-4 _ (omega arith) ∙ at-3
    row_same (suc (suc (suc (suc zero)))) l = get_or-set_same four (r * 5 + 4) e 0 (simp length-set (omega arith))
    row_same (suc (suc (suc (suc (suc w))))) l = absurd (omega arith)

-- bit i of a word
abbrev truth : ℕ → ℕ → Bool
truth m i = eqb (digit m i) 1

truth-or : (m n i : ℕ) → truth (bit_or m n) i ≡ truth m i || truth n i
truth-or m n i = rw (digit_or m n i) (go (digit m i) (digit n i) (digit_lt m i) (digit_lt n i))
  where
    go : (a b : ℕ) → a < 2 → b < 2 → eqb (max a b) 1 ≡ eqb a 1 || eqb b 1
    go zero zero k l = refl
    go zero (suc zero) k l = refl
    go (suc zero) zero k l = refl
    go (suc zero) (suc zero) k l = refl
    go (suc (suc a)) b k l = absurd (omega arith)
    go zero (suc (suc b)) k l = absurd (omega arith)
    go (suc zero) (suc (suc b)) k l = absurd (omega arith)

truth-0 : (i : ℕ) → truth 0 i ≡ false
truth-0 i = rw (digit-0 i)

truth-pow : (k i : ℕ) → truth (2 ^ k) i ≡ eqb i k
truth-pow k i = rw (digit-pow k i) (go (eqb i k))
  where
    go : (b : Bool) → eqb (cond b 1 0) 1 ≡ b
    go true = refl
    go false = refl

-- ---- rows
pick_is : (n : ℕ → ℕ) (a : ℕ) → a ≡ n 0 → (w : ℕ) → w < 5 → pick a (n 1) (n 2) (n 3) (n 4) w ≡ n w
unfolding pick
pick_is n a p zero l = p
pick_is n a p (suc zero) l = refl
pick_is n a p (suc (suc zero)) l = refl
pick_is n a p (suc (suc (suc zero))) l = refl
pick_is n a p (suc (suc (suc (suc zero)))) l = refl
pick_is n a p (suc (suc (suc (suc (suc w))))) l = absurd (omega arith)

module _ (t : List ℕ) (r s : ℕ) (sized : Sized t) (h : r < 300) (x d : ℕ) (m : d < 298) where
  -- a row whose words are n
  new-bit : (n : ℕ → ℕ) (a : ℕ) → a ≡ n 0 → in_row (set_row t r a (n 1) (n 2) (n 3) (n 4)) x d ≡ cond (eqb x r) (truth (n (d / 64)) (d % 64)) (in_row t x d)
  unfolding in_row digit
  new-bit n a is = go (eqb x r) refl
    where
      low : d / 64 < 5
      low = omega arith

      go : (q : Bool) → eqb x r ≡ q → in_row (set_row t r a (n 1) (n 2) (n 3) (n 4)) x d ≡ cond q (truth (n (d / 64)) (d % 64)) (in_row t x d)
      go true p =
          ap (λ (y : ℕ). truth y (d % 64))
          (ap (λ (y : ℕ). get_or (set_row t r a (n 1) (n 2) (n 3) (n 4)) (y * 5 + d / 64) 0) (eqb-true x r p) ∙ row_same t r _ _ _ _ _ sized h (d / 64) low ∙ pick_is n a is (d / 64) low)
      go false p = ap (λ (y : ℕ). truth y (d % 64)) (row_other t r _ _ _ _ _ x (d / 64) low (eqb-false x r p))

  pub join-bit : in_row (join_row t r s) x d ≡ cond (eqb x r) (in_row t r d || in_row t s d) (in_row t x d)
  unfolding join_row in_row digit
  join-bit =
      new-bit (λ w. bit_or (get_or t (r * 5 + w) 0) (get_or t (s * 5 + w) 0)) (bit_or (get_or t (r * 5) 0) (get_or t (s * 5) 0)) (rw (add-zero (r * 5), add-zero (s * 5)))
      ∙ ap (λ (q : Bool). cond (eqb x r) q (in_row t x d)) (truth-or _ _ (d % 64))

  pub copy-bit : in_row (copy_row t r s) x d ≡ cond (eqb x r) (in_row t s d) (in_row t x d)
  unfolding copy_row in_row digit
  copy-bit = new-bit (λ w. get_or t (s * 5 + w) 0) (get_or t (s * 5) 0) (rw (add-zero (s * 5)))

  pub wipe-bit : in_row (wipe_row t r) x d ≡ cond (eqb x r) false (in_row t x d)
  unfolding wipe_row
  wipe-bit = new-bit (λ w. 0) 0 refl ∙ ap (λ (q : Bool). cond (eqb x r) q (in_row t x d)) (truth-0 (d % 64))

pub join-sized : (t : List ℕ) (r s : ℕ) → Sized t → Sized (join_row t r s)
unfolding join_row
join-sized t r s h = row_sized t r _ _ _ _ _ h

pub copy-sized : (t : List ℕ) (r s : ℕ) → Sized t → Sized (copy_row t r s)
unfolding copy_row
copy-sized t r s h = row_sized t r _ _ _ _ _ h

pub wipe-sized : (t : List ℕ) (r : ℕ) → Sized t → Sized (wipe_row t r)
unfolding wipe_row
wipe-sized t r h = row_sized t r _ _ _ _ _ h

pub add-sized : (t : List ℕ) (r c : ℕ) → Sized t → Sized (add_cell t r c)
unfolding add_cell
add-sized t r c h = simp length-set h

-- a cell comes into a row
pub add-bit : (t : List ℕ) (r c : ℕ) → Sized t → r < 300 → c < 298 → (x d : ℕ) → d < 298 → in_row (add_cell t r c) x d ≡ in_row t x d || (eqb x r && eqb c d)
unfolding add_cell in_row digit
add-bit t r c sized h k x d l = go (eqb x r) refl (eqb (d / 64) (c / 64)) refl
  where
    i : ℕ
    i = r * 5 + c / 64

    with : List ℕ
    with = set t i (bit_or (get_or t i 0) (2 ^ (c % 64)))

    away : (x * 5 + d / 64 ≡ i → ⊥) → in_row with x d ≡ in_row t x d
    away ne = ap (λ (y : ℕ). truth y (d % 64)) (get_or-set_other t i (x * 5 + d / 64) _ 0 ne)

    same : (b : Bool) → eqb c d ≡ b → d / 64 ≡ c / 64 → eqb (d % 64) (c % 64) ≡ b
    same true e f = let u = eqb-true c d e in eq-eqb (d % 64) (c % 64) (omega arith)
    same false e f = let u = eqb-false c d e in ne_eqb (d % 64) (c % 64) (λ v. u (omega arith))

    go : (p : Bool) → eqb x r ≡ p → (q : Bool) → eqb (d / 64) (c / 64) ≡ q → in_row with x d ≡ in_row t x d || (p && eqb c d)
    go true p true q =
        let e = eqb-true x r p in
        let f = eqb-true (d / 64) (c / 64) q in
        let j : x * 5 + d / 64 ≡ i = omega arith in
        ap (λ (y : ℕ). truth y (d % 64)) (ap (λ (y : ℕ). get_or with y 0) j ∙ get_or-set_same t i _ 0 (omega arith))
        ∙ truth-or (get_or t i 0) (2 ^ (c % 64)) (d % 64)
        ∙ ap (λ (y : ℕ). truth (get_or t y 0) (d % 64) || truth (2 ^ (c % 64)) (d % 64)) (sym j)
        ∙ ap (λ (b : Bool). in_row t x d || b) (truth-pow (c % 64) (d % 64) ∙ same (eqb c d) refl f)
    go true p false q =
        let f = eqb-false (d / 64) (c / 64) q in
        let e = eqb-true x r p in
        away (λ j. f (omega arith)) ∙ sym (ap (λ (b : Bool). in_row t x d || b) (ne_eqb c d (λ g. f (omega arith))) ∙ or-false (in_row t x d))
    go false p q g = let e = eqb-false x r p in away (λ j. e (omega arith)) ∙ sym (or-false (in_row t x d))

-- ---- a table of zeros
pub zeros : (n i : ℕ) → ◌≡◌ {A = ℕ} (get_or (replicate n 0) i 0) 0
zeros zero i = refl
zeros (suc n) zero = refl
zeros (suc n) (suc i) = zeros n i

pub zero_bit : (t : List ℕ) → ((i : ℕ) → get_or t i 0 ≡ 0) → (x d : ℕ) → in_row t x d ≡ false
unfolding in_row digit
zero_bit t h x d = ap (λ (y : ℕ). truth y (d % 64)) (h (x * 5 + d / 64)) ∙ truth-0 (d % 64)
