-- The answer is read from the cells of row 299 alone, one after another.
use mathlib.Core.Path.{◌≡◌, refl, ap, ◌∙◌, sym}
use mathlib.Core.List.{List}
use mathlib.Core.Bool.{Bool, true, false, cond, ◌&&◌, ◌||◌, and-false, or-false, or_assoc}
use Prim.Native.Nat.{ℕ, zero, suc, ◌+◌, ◌-◌, ◌/◌, ◌%◌, ◌^◌, ◌≤◌, ◌<◌}
use native.Mathlib.Omega.{arith}
use native.Mathlib.Nat.{not-suc-le-zero, le_of_suc-le-suc, div-one, pow-succ', div-div-eq-div-mul}
use lib.Dec.{eqb, ltb}
use lib.Count.{count_trailing_zeros, under}
use lib.Pow.{pow-add}
use lib.ListN.{length, get_or, set, length-set, get_or-eq_default}
use lib.Seq.{get_or-set_same, get_or-set_other}
use borrow.Author.Tests.{eqb-true, eqb-false, ne_eqb, ltb-true, ltb-false}
use Rattle.reach.specs.Reach.{table}
use Rattle.reach.specs.Rows.{Sized, in_row, join_row, gathered, listed_at, any_below}
use Rattle.reach.proofs.Truths.{table_is}
use Rattle.reach.proofs.Bits.{join-bit, join-sized}

-- ---- the rows of listed cells, collected
pub gathered-sized : (t : List ℕ) (cs : List Bool) (first n : ℕ) → Sized t → Sized (gathered t cs first n)
unfolding gathered
gathered-sized t cs first zero h = h
gathered-sized t cs first (suc n) h = go (get_or cs n false && in_row (gathered t cs first n) 299 (first + n)) (gathered-sized t cs first n h)
  where
    go : (b : Bool) → Sized (gathered t cs first n) → Sized (cond b (join_row (gathered t cs first n) 298 (first + n)) (gathered t cs first n))
    go true k = join-sized (gathered t cs first n) 298 (first + n) k
    go false k = k

module _ (t : List ℕ) (cs : List Bool) (first : ℕ) where
  -- no cell of these has a row, or none is listed
  pub gathered-skip : (n k : ℕ) → ((j : ℕ) → n ≤ j → j < n + k → get_or cs j false && in_row (gathered t cs first n) 299 (first + j) ≡ false) → gathered t cs first (n + k) ≡ gathered t cs first n
  unfolding gathered
  gathered-skip n zero h = let e : n + 0 ≡ n = omega arith in ap (gathered t cs first) e
  gathered-skip n (suc k) h = let e : n + suc k ≡ suc (n + k) = omega arith in ap (gathered t cs first) e ∙ last (gathered-skip n k (λ j a b. h j a (omega arith))) (h (n + k) (omega arith) (omega arith))
    where
      last : gathered t cs first (n + k) ≡ gathered t cs first n → get_or cs (n + k) false && in_row (gathered t cs first n) 299 (first + (n + k)) ≡ false → gathered t cs first (suc (n + k)) ≡ gathered t cs first n
      last p q = rw (p, q)

  -- up to where row 299 has no cell
  pub gathered-to : (n r : ℕ) (t' : List ℕ) → t' ≡ gathered t cs first n → first + n ≤ r → ((j : ℕ) → first + n ≤ j → j < r → in_row t' 299 j ≡ false) → t' ≡ gathered t cs first (r - first)
  gathered-to n r t' is h none =
      let e : n + (r - first - n) ≡ r - first = omega arith in
      is
      ∙ sym (gathered-skip n (r - first - n) (λ j a b. ap (λ (z : Bool). get_or cs j false && z) (ap (λ (z : List ℕ). in_row z 299 (first + j)) (sym is) ∙ none (first + j) (omega arith) (omega arith)) ∙ and-false (get_or cs j false)))
      ∙ ap (gathered t cs first) e

  -- past the end
  pub gathered-past : (n : ℕ) → length cs ≤ n → gathered t cs first n ≡ gathered t cs first (length cs)
  gathered-past n h =
      let e : length cs + (n - length cs) ≡ n = omega arith in
      ap (gathered t cs first) (sym e) ∙ gathered-skip (length cs) (n - length cs) (λ j a b. ap (λ (z : Bool). z && in_row (gathered t cs first (length cs)) 299 (first + j)) (get_or-eq_default cs false a))

module _ (t : List ℕ) (cs : List Bool) (first : ℕ) (sized : Sized t) (d : ℕ) (l : d < 298) where
  pub gathered-row : (n x : ℕ) → (x ≡ 298 → ⊥) → in_row (gathered t cs first n) x d ≡ in_row t x d
  unfolding gathered
  gathered-row zero x k = refl
  gathered-row (suc n) x k = go (get_or cs n false && in_row (gathered t cs first n) 299 (first + n)) ∙ gathered-row n x k
    where
      go : (b : Bool) → in_row (cond b (join_row (gathered t cs first n) 298 (first + n)) (gathered t cs first n)) x d ≡ in_row (gathered t cs first n) x d
      go true = join-bit (gathered t cs first n) 298 (first + n) (gathered-sized t cs first n sized) (omega arith) x d l ∙ rw (ne_eqb x 298 k)
      go false = refl

-- of cell x, the row where it has one
abbrev pub own_row : List ℕ → ℕ → ℕ → Bool
own_row t d x = in_row t 299 x && in_row t x d

module _ (t : List ℕ) (cs : List Bool) (first : ℕ) (sized : Sized t) (d : ℕ) (l : d < 298) where
  pub gathered-union : (n : ℕ) → first + n ≤ 298 → in_row (gathered t cs first n) 298 d ≡ in_row t 298 d || any_below n (λ i. get_or cs i false && own_row t d (first + i))
  unfolding gathered any_below
  gathered-union zero h = sym (or-false (in_row t 298 d))
  gathered-union (suc n) h =
      ap (λ (b : Bool). in_row (cond (get_or cs n false && b) (join_row (gathered t cs first n) 298 (first + n)) (gathered t cs first n)) 298 d) (gathered-row t cs first sized (first + n) (omega arith) n 299 (λ e. omega arith))
      ∙ go (get_or cs n false) (in_row t 299 (first + n)) (gathered-union n (omega arith))
    where
      rest : Bool
      rest = any_below n (λ i. get_or cs i false && own_row t d (first + i))

      go : (a b : Bool) → in_row (gathered t cs first n) 298 d ≡ in_row t 298 d || rest
          → in_row (cond (a && b) (join_row (gathered t cs first n) 298 (first + n)) (gathered t cs first n)) 298 d ≡ in_row t 298 d || (rest || (a && (b && in_row t (first + n) d)))
      go true true ih =
          join-bit (gathered t cs first n) 298 (first + n) (gathered-sized t cs first n sized) (omega arith) 298 d l
          ∙ ap (λ (b : Bool). b || in_row (gathered t cs first n) (first + n) d) ih
          ∙ ap (λ (b : Bool). (in_row t 298 d || rest) || b) (gathered-row t cs first sized d l n (first + n) (λ e. omega arith))
          ∙ or_assoc (in_row t 298 d) rest (in_row t (first + n) d)
      go true false ih = ih ∙ ap (λ (b : Bool). in_row t 298 d || b) (sym (or-false rest))
      go false b ih = ih ∙ ap (λ (b : Bool). in_row t 298 d || b) (sym (or-false rest))

-- ---- the cells of row 299, one after another

pub low_zeros : (m w j : ℕ) → j < count_trailing_zeros m w → w / 2 ^ j % 2 ≡ 0
unfolding count_trailing_zeros
low_zeros zero w j h = absurd (not-suc-le-zero h)
low_zeros (suc m) w j h = go (w % 2) refl j h (low_zeros m (w / 2))
  where
    go : (r : ℕ) → w % 2 ≡ r → (j : ℕ) → j < under r (count_trailing_zeros m (w / 2)) → ((j : ℕ) → j < count_trailing_zeros m (w / 2) → w / 2 / 2 ^ j % 2 ≡ 0) → w / 2 ^ j % 2 ≡ 0
    go zero e zero h ih = ap (λ (x : ℕ). x % 2) (div-one w) ∙ e
    go zero e (suc j) h ih = ap (λ (x : ℕ). x % 2) (ap (λ (x : ℕ). w / x) (pow-succ' 2 j) ∙ sym (div-div-eq-div-mul w 2 (2 ^ j))) ∙ ih j (le_of_suc-le-suc h)
    go (suc r) e j h ih = absurd (not-suc-le-zero h)

-- the lowest bits of a word from bit d on are zero
pub no-cell-to : (t : List ℕ) (d n : ℕ) → n ≤ 64 - d % 64 → ((j : ℕ) → j < n → get_or t (1495 + d / 64) 0 / 2 ^ (d % 64) / 2 ^ j % 2 ≡ 0) → (j : ℕ) → d ≤ j → j < d + n → in_row t 299 j ≡ false
unfolding in_row
no-cell-to t d n h zeros j a b =
    let e : j / 64 ≡ d / 64 = omega arith in
    let f : j % 64 ≡ d % 64 + (j - d) = omega arith in
    let z : get_or t (1495 + d / 64) 0 / 2 ^ (d % 64 + (j - d)) % 2 ≡ 0 =
    ap (λ (x : ℕ). x % 2) (ap (λ (x : ℕ). get_or t (1495 + d / 64) 0 / x) (pow-add 2 (d % 64) (j - d)) ∙ sym (div-div-eq-div-mul (get_or t (1495 + d / 64) 0) (2 ^ (d % 64)) (2 ^ (j - d)))) ∙ zeros (j - d) (omega arith)
    in
    rw (e, f, z)

-- what a turn of the loop makes of the cells so far: i of them are as they are listed in the end
module _ (t : List ℕ) (first : ℕ) (cs₀ : List Bool) where
  pub record Spreads (cs : List Bool) (i : ℕ) : Type 0 where
    pub size : length cs ≡ length cs₀
    pub done : (j : ℕ) → j < i → j < length cs₀ → get_or cs j false ≡ listed_at t first cs₀ j
    pub left : (j : ℕ) → i ≤ j → get_or cs j false ≡ get_or cs₀ j false

  no_row : (j : ℕ) → in_row t 299 (first + j) ≡ false → get_or cs₀ j false ≡ listed_at t first cs₀ j
  unfolding listed_at
  no_row j p = rw p

  pub spreads-first : (n : ℕ) → ((j : ℕ) → j < n → in_row t 299 (first + j) ≡ false) → Spreads cs₀ n
  spreads-first n h = record { size = refl; done = λ j k m. no_row j (h j k); left = λ j k. refl }

  module _ (cs : List Bool) (i : ℕ) (s : Spreads cs i) (h : i < length cs) where
    pub spreads-next : (v : Bool) → v ≡ listed_at t first cs₀ i → (n : ℕ) → i < n → ((j : ℕ) → i < j → j < n → in_row t 299 (first + j) ≡ false) → Spreads (set cs i v) n
    spreads-next v is n up none = record {
      size = length-set cs i v ∙ s.size;
      done = λ j k m. go j k m (ltb j i) refl (eqb j i) refl;
      left = λ j k. get_or-set_other cs i j v false (λ e. omega arith) ∙ s.left j (omega arith);
    }
      where
        go : (j : ℕ) → j < n → j < length cs₀ → (a : Bool) → ltb j i ≡ a → (b : Bool) → eqb j i ≡ b → get_or (set cs i v) j false ≡ listed_at t first cs₀ j
        go j k m true p b q = let o = ltb-true j i p in get_or-set_other cs i j v false (λ e. omega arith) ∙ s.done j o m
        go j k m false p true q = let e = eqb-true j i q in rw e (get_or-set_same cs i v false h ∙ is)
        go j k m false p false q =
            let o = ltb-false j i p in
            let ne = eqb-false j i q in
            get_or-set_other cs i j v false ne ∙ s.left j o ∙ no_row j (none j (omega arith) k)

    pub spreads-value : listed_at t first cs i ≡ listed_at t first cs₀ i
    unfolding listed_at
    spreads-value = rw (s.left i (omega arith))

  pub spreads-done : (cs : List Bool) (i : ℕ) → Spreads cs i → length cs ≤ i → cs ≡ table (length cs₀) (listed_at t first cs₀)
  spreads-done cs i s h = let e = s.size in sym (table_is cs (length cs₀) (listed_at t first cs₀) e (λ j k. sym (s.done j (omega arith) k)))
