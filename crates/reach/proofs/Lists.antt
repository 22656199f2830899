-- What a cell lists, by the table: its row, or itself where it has none. What a load and a store make of that.
use mathlib.Core.Path.{◌≡◌, refl, ap, ap₂, ◌∙◌, sym}
use mathlib.Core.List.{List, [], ◌∷◌, ◌++◌}
use mathlib.Core.Bool.{Bool, true, false, cond, ◌&&◌, ◌||◌, and-false, or-true, or-false, or_assoc}
use Prim.Native.Nat.{ℕ, zero, suc, ◌≤◌, ◌<◌}
use native.Mathlib.Omega.{arith}
use lib.Dec.{eqb, ltb}
use lib.ListN.{length, get_or, take}
use lib.Seq.{take-suc, length-take-le, get_or-take}
use borrow.Author.Tests.{eqb-true, eqb-false, eq-eqb, ne_eqb, lt-ltb, le-ltb, ltb-true, ltb-false}
use Rattle.reach.specs.Reach.{any}
use Rattle.reach.specs.Rows.{Sized, in_row, join_row, copy_row, wipe_row, add_cell, lists, owned, rows_loaded, rows_stored, rows_stored_all}
use Rattle.reach.proofs.Bits.{join-bit, copy-bit, wipe-bit, join-sized, copy-sized, wipe-sized, add-sized, add-bit, zero_bit}

pub same_lists : (t t' : List ℕ) (x d : ℕ) → in_row t' 299 x ≡ in_row t 299 x → in_row t' x d ≡ in_row t x d → lists t' x d ≡ lists t x d
unfolding lists
same_lists t t' x d p q = rw (p, q)

-- a table of zeros: each cell lists itself
pub lists-first : (t : List ℕ) → ((i : ℕ) → get_or t i 0 ≡ 0) → (x d : ℕ) → lists t x d ≡ eqb x d
unfolding lists
lists-first t h x d = rw (zero_bit t h 299 x)

pub owned-sized : (t : List ℕ) (c : ℕ) → Sized t → Sized (owned t c)
unfolding owned
owned-sized t c h = go (in_row t 299 c)
  where
    go : (b : Bool) → Sized (cond b t (add_cell (add_cell (wipe_row t c) c c) 299 c))
    go true = h
    go false = add-sized _ 299 c (add-sized _ c c (wipe-sized t c h))

module _ (t : List ℕ) (c : ℕ) (sized : Sized t) (h : c < 298) where
  new_row : (x d : ℕ) → d < 298 → in_row (add_cell (add_cell (wipe_row t c) c c) 299 c) x d ≡ (cond (eqb x c) false (in_row t x d) || (eqb x c && eqb c d)) || (eqb x 299 && eqb c d)
  new_row x d l =
      add-bit _ 299 c (add-sized _ c c (wipe-sized t c sized)) (omega arith) h x d l
      ∙ ap (λ (b : Bool). b || (eqb x 299 && eqb c d)) (add-bit (wipe_row t c) c c (wipe-sized t c sized) (omega arith) h x d l ∙ ap (λ (b : Bool). b || (eqb x c && eqb c d)) (wipe-bit t c 0 sized (omega arith) x d l))

  pub owned-marks : (d : ℕ) → d < 298 → in_row (owned t c) 299 d ≡ in_row t 299 d || eqb c d
  unfolding owned
  owned-marks d l = go (in_row t 299 c) refl
    where
      has : (b : Bool) → eqb c d ≡ b → in_row t 299 c ≡ true → in_row t 299 d ≡ in_row t 299 d || b
      has true e p = ap (in_row t 299) (sym (eqb-true c d e)) ∙ p ∙ sym (or-true (in_row t 299 d))
      has false e p = sym (or-false (in_row t 299 d))

      go : (b : Bool) → in_row t 299 c ≡ b → in_row (cond b t (add_cell (add_cell (wipe_row t c) c c) 299 c)) 299 d ≡ in_row t 299 d || eqb c d
      go true p = has (eqb c d) refl p
      go false p = new_row 299 d l ∙ rw (ne_eqb 299 c (λ e. omega arith), or-false (in_row t 299 d))

  pub owned-row : (x d : ℕ) → x < 299 → d < 298 → in_row (owned t c) x d ≡ cond (eqb x c) (lists t c d) (in_row t x d)
  unfolding owned lists
  owned-row x d k l = go (in_row t 299 c) (eqb x c) refl
    where
      go : (b e : Bool) → eqb x c ≡ e → in_row (cond b t (add_cell (add_cell (wipe_row t c) c c) 299 c)) x d ≡ cond e (cond b (in_row t c d) (eqb c d)) (in_row t x d)
      go true true q = ap (λ (y : ℕ). in_row t y d) (eqb-true x c q)
      go true false q = refl
      go false true q = new_row x d l ∙ rw (q, ne_eqb x 299 (λ e. omega arith), or-false (eqb c d))
      go false false q = new_row x d l ∙ rw (q, ne_eqb x 299 (λ e. omega arith), or-false (in_row t x d), or-false (in_row t x d))

-- ---- a load
module _ (t : List ℕ) (c : ℕ) (sized : Sized t) where
  pub loaded-sized : Sized (rows_loaded t c)
  unfolding rows_loaded
  loaded-sized = go (ltb c 298) (in_row t 299 c)
    where
      go : (a b : Bool) → Sized (cond a (cond b (join_row t 298 c) (add_cell t 298 c)) t)
      go true true = join-sized t 298 c sized
      go true false = add-sized t 298 c sized
      go false b = sized

  module _ (d : ℕ) (l : d < 298) where
    loaded-bit : (x : ℕ) → in_row (rows_loaded t c) x d ≡ cond (eqb x 298) (in_row t 298 d || (ltb c 298 && lists t c d)) (in_row t x d)
    unfolding rows_loaded lists
    loaded-bit x = go (ltb c 298) refl (in_row t 299 c)
      where
        at-298 : (e : Bool) → eqb x 298 ≡ e → (b : Bool) → in_row t x d || (e && b) ≡ cond e (in_row t 298 d || b) (in_row t x d)
        at-298 true p b = ap (λ (y : ℕ). in_row t y d || b) (eqb-true x 298 p)
        at-298 false p b = or-false (in_row t x d)

        go : (a : Bool) → ltb c 298 ≡ a → (b : Bool) → in_row (cond a (cond b (join_row t 298 c) (add_cell t 298 c)) t) x d ≡ cond (eqb x 298) (in_row t 298 d || (a && cond b (in_row t c d) (eqb c d))) (in_row t x d)
        go true p true = join-bit t 298 c sized (omega arith) x d l
        go true p false = add-bit t 298 c sized (omega arith) (ltb-true c 298 p) x d l ∙ at-298 (eqb x 298) refl (eqb c d)
        go false p b = sym (or-false (in_row t x d)) ∙ ap (λ (e : Bool). in_row t x d || e) (sym (and-false (eqb x 298))) ∙ at-298 (eqb x 298) refl false

    pub loaded-union : in_row (rows_loaded t c) 298 d ≡ in_row t 298 d || (ltb c 298 && lists t c d)
    loaded-union = loaded-bit 298

  pub loaded-lists : (x d : ℕ) → x < 298 → d < 298 → lists (rows_loaded t c) x d ≡ lists t x d
  loaded-lists x d k l = same_lists t (rows_loaded t c) x d (loaded-bit x k 299) (loaded-bit d l x ∙ rw (ne_eqb x 298 (λ e. omega arith)))

-- ---- a store
pub stored-sized : (o : Bool) (t : List ℕ) (c : ℕ) → Sized t → Sized (rows_stored o t c)
unfolding rows_stored
stored-sized o t c h = go (ltb c 298) o
  where
    go : (a o : Bool) → Sized (cond a (cond o (join_row (owned t c) c 298) (copy_row (owned t c) c 298)) t)
    go true true = join-sized _ c 298 (owned-sized t c h)
    go true false = copy-sized _ c 298 (owned-sized t c h)
    go false o = h

pub stored-all-sized : (o : Bool) (t cs : List ℕ) (m : ℕ) → Sized t → Sized (rows_stored_all o t cs m)
unfolding rows_stored_all
stored-all-sized o t cs zero h = h
stored-all-sized o t cs (suc m) h = stored-sized o (rows_stored_all o t cs m) (get_or cs m 0) (stored-all-sized o t cs m h)

-- of the first n cells alone
pub stored-all-front : (o : Bool) (t cs : List ℕ) (n : ℕ) → n ≤ length cs → rows_stored_all o t (take n cs) (length (take n cs)) ≡ rows_stored_all o t cs n
unfolding rows_stored_all
stored-all-front o t cs n h = ap (rows_stored_all o t (take n cs)) (length-take-le n cs h) ∙ go n (omega arith)
  where
    go : (m : ℕ) → m ≤ n → rows_stored_all o t (take n cs) m ≡ rows_stored_all o t cs m
    go zero k = refl
    go (suc m) k = ap₂ (rows_stored o) (go m (omega arith)) (get_or-take n cs m 0 k)

pub any_snoc : {A : Type 0} (f : A → Bool) (l : List A) (a : A) → any f (l ++ (a ∷ [])) ≡ any f l || f a
any_snoc f [] a = or-false (f a)
any_snoc f (x ∷ l) a = ap (λ (b : Bool). f x || b) (any_snoc f l a) ∙ sym (or_assoc (f x) (any f l) (f a))

-- one more of the first elements
pub any-take : (x m : ℕ) (cs : List ℕ) → m < length cs → any (eqb x) (take (suc m) cs) ≡ any (eqb x) (take m cs) || eqb x (get_or cs m 0)
any-take x m cs h = ap (any (eqb x)) (take-suc cs m 0 h) ∙ any_snoc (eqb x) (take m cs) (get_or cs m 0)

twice : (s o r u : Bool) → (o && cond s ((o && r) || u) r) || u ≡ (o && r) || u
twice true true true u = refl
twice true true false true = refl
twice true true false false = refl
twice true false r u = refl
twice false o r u = refl

module _ (o : Bool) (t : List ℕ) (c : ℕ) (sized : Sized t) where
  kept-bit : c < 298 → (x d : ℕ) → d < 298 → in_row (rows_stored o t c) x d ≡ cond (eqb x c) ((o && in_row (owned t c) c d) || in_row (owned t c) 298 d) (in_row (owned t c) x d)
  unfolding rows_stored
  kept-bit h x d l = rw (lt-ltb c 298 h) (go o)
    where
      go : (o : Bool) → in_row (cond o (join_row (owned t c) c 298) (copy_row (owned t c) c 298)) x d ≡ cond (eqb x c) ((o && in_row (owned t c) c d) || in_row (owned t c) 298 d) (in_row (owned t c) x d)
      go true = join-bit (owned t c) c 298 (owned-sized t c sized) (omega arith) x d l
      go false = copy-bit (owned t c) c 298 (owned-sized t c sized) (omega arith) x d l

  no_cell : 298 ≤ c → rows_stored o t c ≡ t
  unfolding rows_stored
  no_cell h = rw (le-ltb c 298 h)

  module _ (d : ℕ) (l : d < 298) where
    stored-union : in_row (rows_stored o t c) 298 d ≡ in_row t 298 d
    stored-union = go (ltb c 298) refl
      where
        go : (a : Bool) → ltb c 298 ≡ a → in_row (rows_stored o t c) 298 d ≡ in_row t 298 d
        go true p =
            let h = ltb-true c 298 p in
            kept-bit h 298 d l ∙ rw (ne_eqb 298 c (λ e. omega arith)) (owned-row t c sized h 298 d (omega arith) l ∙ rw (ne_eqb 298 c (λ e. omega arith)))
        go false p = ap (λ (z : List ℕ). in_row z 298 d) (no_cell (ltb-false c 298 p))

    module _ (h : c < 298) where
      marks : (y : ℕ) → y < 298 → in_row (rows_stored o t c) 299 y ≡ in_row t 299 y || eqb c y
      marks y m = kept-bit h 299 y m ∙ rw (ne_eqb 299 c (λ e. omega arith)) (owned-marks t c sized h y m)

      at-cell : lists (rows_stored o t c) c d ≡ (o && lists t c d) || in_row t 298 d
      unfolding lists
      at-cell =
          let m : in_row (rows_stored o t c) 299 c ≡ true = marks c h ∙ ap (λ (b : Bool). in_row t 299 c || b) (eq-eqb c c refl) ∙ or-true (in_row t 299 c) in
          let r : in_row (owned t c) c d ≡ lists t c d = owned-row t c sized h c d (omega arith) l ∙ ap (λ (b : Bool). cond b (lists t c d) (in_row t c d)) (eq-eqb c c refl) in
          let u : in_row (owned t c) 298 d ≡ in_row t 298 d = owned-row t c sized h 298 d (omega arith) l ∙ ap (λ (b : Bool). cond b (lists t c d) (in_row t 298 d)) (ne_eqb 298 c (λ e. omega arith)) in
          rw m (kept-bit h c d l ∙ rw (eq-eqb c c refl, r, u))

      elsewhere : (x : ℕ) → x < 298 → eqb x c ≡ false → lists (rows_stored o t c) x d ≡ lists t x d
      elsewhere x k q =
          let ne = eqb-false x c q in
          same_lists t (rows_stored o t c) x d
          (marks x k ∙ ap (λ (b : Bool). in_row t 299 x || b) (ne_eqb c x (λ e. ne (sym e))) ∙ or-false (in_row t 299 x))
          (kept-bit h x d l ∙ rw q (owned-row t c sized h x d (omega arith) l ∙ rw q))

    stored-lists : (x : ℕ) → x < 298 → lists (rows_stored o t c) x d ≡ cond (eqb x c) ((o && lists t c d) || in_row t 298 d) (lists t x d)
    stored-lists x k = go (ltb c 298) refl (eqb x c) refl
      where
        go : (a : Bool) → ltb c 298 ≡ a → (b : Bool) → eqb x c ≡ b → lists (rows_stored o t c) x d ≡ cond b ((o && lists t c d) || in_row t 298 d) (lists t x d)
        go true p true q = ap (λ (y : ℕ). lists (rows_stored o t c) y d) (eqb-true x c q) ∙ at-cell (ltb-true c 298 p)
        go true p false q = elsewhere (ltb-true c 298 p) x k q
        go false p true q = absurd (omega (arith, eqb-true x c q, ltb-false c 298 p))
        go false p false q = ap (λ (z : List ℕ). lists z x d) (no_cell (ltb-false c 298 p))

-- the rows of the stored cells get what row 298 holds, which stays
module _ (o : Bool) (t cs : List ℕ) (sized : Sized t) (d : ℕ) (l : d < 298) where
  pub stored-all-union : (m : ℕ) → in_row (rows_stored_all o t cs m) 298 d ≡ in_row t 298 d
  unfolding rows_stored_all
  stored-all-union zero = refl
  stored-all-union (suc m) = stored-union o (rows_stored_all o t cs m) (get_or cs m 0) (stored-all-sized o t cs m sized) d l ∙ stored-all-union m

  pub stored-all-lists : (m x : ℕ) → x < 298 → m ≤ length cs → lists (rows_stored_all o t cs m) x d ≡ cond (any (eqb x) (take m cs)) ((o && lists t x d) || in_row t 298 d) (lists t x d)
  unfolding rows_stored_all
  stored-all-lists zero x k h = refl
  stored-all-lists (suc m) x k h =
      stored-lists o (rows_stored_all o t cs m) (get_or cs m 0) (stored-all-sized o t cs m sized) d l x k
      ∙ rw (stored-all-union m, any-take x m cs (omega arith)) (go (eqb x (get_or cs m 0)) refl (stored-all-lists m x k (omega arith)))
    where
      go : (b : Bool) → eqb x (get_or cs m 0) ≡ b → lists (rows_stored_all o t cs m) x d ≡ cond (any (eqb x) (take m cs)) ((o && lists t x d) || in_row t 298 d) (lists t x d)
          → cond b ((o && lists (rows_stored_all o t cs m) (get_or cs m 0) d) || in_row t 298 d) (lists (rows_stored_all o t cs m) x d) ≡ cond (any (eqb x) (take m cs) || b) ((o && lists t x d) || in_row t 298 d) (lists t x d)
      go true p ih =
          ap (λ (c : ℕ). (o && lists (rows_stored_all o t cs m) c d) || in_row t 298 d) (sym (eqb-true x (get_or cs m 0) p))
          ∙ rw (or-true (any (eqb x) (take m cs)), ih) (twice (any (eqb x) (take m cs)) o (lists t x d) (in_row t 298 d))
      go false p ih = rw (or-false (any (eqb x) (take m cs))) ih
