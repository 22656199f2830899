-- That the table is the reach. Everything is said of one cell d at the start of the run: a column of the table is the test r, true of the cells
-- whose row holds d. Passing a strip keeps what the asked cells reach.
use mathlib.Core.Path.{◌≡◌, refl, ap, ◌∙◌, sym}
use mathlib.Core.List.{List, [], ◌∷◌}
use mathlib.Core.Bool.{Bool, true, false, cond, not, ◌&&◌, ◌||◌, false≢true, or-true, or-false, or_assoc, and_comm, and-or_distrib_right}
use Prim.Native.Nat.{ℕ, ◌+◌, ◌-◌, ◌≤◌, ◌<◌}
use native.Mathlib.Omega.{arith}
use lib.Dec.{eqb, ltb}
use mathlib.Core.Logic.{◌⊎◌, inl, inr}
use borrow.Author.Tests.{eqb-true, eq-eqb, ne_eqb, lt-ltb, ltb-true, ltb-false}
use Rattle.strip.specs.declared.reader.Entry.{Entry}
use Rattle.strip.specs.Entry.{kind_of}
use Rattle.strip.specs.Shape.{is_open}
use Rattle.strip.proofs.Tests.{and_left, and_right}
use Rattle.evaluation.specs.Cells.{store_kind, stores, loads}
use Rattle.reach.specs.declared.cells.Cells.{Cells}
use Rattle.reach.specs.Reach.{listed, cells_where, any, stores_listed, before, rule, reach_strips}
use Rattle.reach.specs.Rows.{kind_no, number_no, listed_no, cell_number, load_place, store_place, any_below, Whole}
use Rattle.reach.proofs.Truths.{same_truth, or_elim, any-intro, any-elim, any-cong, any_none, any-or, any-one, table-length, table-in, true-within}

-- ---- cells by number

abbrev pub loads_no : ℕ → Entry → Bool
loads_no x e = loads (kind_no x) (number_no x) e

abbrev pub stores_no : ℕ → Entry → Bool
stores_no x e = stores (kind_no x) (number_no x) e

-- x is a cell of kind k: those from first on
record At (x k limit first : ℕ) : Type 0 where
  kind : kind_no x ≡ k
  number : number_no x ≡ x - first
  least : first ≤ x
  less : x < first + limit

Region : ℕ → Type 0
Region x = At x 4 255 0 ⊎ (At x 5 7 255 ⊎ (At x 6 4 262 ⊎ At x 10 32 266))

region : (x : ℕ) → x < 298 → Region x
unfolding Region
region x h = go (ltb x 255) refl (ltb x 262) refl (ltb x 266) refl
  where
    go : (a : Bool) → ltb x 255 ≡ a → (b : Bool) → ltb x 262 ≡ b → (c : Bool) → ltb x 266 ≡ c → At x 4 255 0 ⊎ (At x 5 7 255 ⊎ (At x 6 4 262 ⊎ At x 10 32 266))
    go true p b q c r = inl (record { kind = rw p; number = rw p (omega arith); least = omega arith; less = omega (arith, ltb-true x 255 p) })
    go false p true q c r = inr (inl (record { kind = rw (p, q); number = rw (p, q); least = omega (arith, ltb-false x 255 p); less = omega (arith, ltb-true x 262 q) }))
    go false p false q true r =
        inr (inr (inl (record { kind = rw (p, q, r); number = rw (p, q, r); least = omega (arith, ltb-false x 262 q); less = omega (arith, ltb-true x 266 r) })))
    go false p false q false r = inr (inr (inr (record { kind = rw (p, q, r); number = rw (p, q, r); least = omega (arith, ltb-false x 266 r); less = omega arith })))

-- cell i of kind k is x exactly where x is its place
module _ (x : ℕ) (low : x < 298) (k limit first i : ℕ) (fits : first + limit ≤ 298) where
  same_place : At x k limit first → eqb k (kind_no x) && eqb i (number_no x) ≡ eqb x (cell_number i limit first)
  unfolding cell_number
  same_place a = rw (a.kind, a.number, eq-eqb k k refl) (go (ltb i limit) refl)
    where
      go : (b : Bool) → ltb i limit ≡ b → eqb i (x - first) ≡ eqb x (cond b (first + i) 298)
      go true p =
          let l = a.least in
          same_truth _ _ (λ q. let e = eqb-true i (x - first) q in eq-eqb x (first + i) (omega arith)) (λ q. let e = eqb-true x (first + i) q in eq-eqb i (x - first) (omega arith))
      go false p = let l = a.less in let m = ltb-false i limit p in rw (ne_eqb i (x - first) (λ e. omega arith), ne_eqb x 298 (λ e. omega arith))

  other_place : eqb k (kind_no x) ≡ false → (x < first) ⊎ (first + limit ≤ x) → eqb k (kind_no x) && eqb i (number_no x) ≡ eqb x (cell_number i limit first)
  unfolding cell_number
  other_place e o = rw e (go o (ltb i limit) refl)
    where
      go : (x < first) ⊎ (first + limit ≤ x) → (b : Bool) → ltb i limit ≡ b → false ≡ eqb x (cond b (first + i) 298)
      go (inl h) true p = sym (ne_eqb x (first + i) (λ q. omega arith))
      go (inr h) true p = let m = ltb-true i limit p in sym (ne_eqb x (first + i) (λ q. omega arith))
      go o false p = sym (ne_eqb x 298 (λ q. omega arith))

module _ (x : ℕ) (low : x < 298) (i : ℕ) where
  register-is : eqb 4 (kind_no x) && eqb i (number_no x) ≡ eqb x (cell_number i 255 0)
  unfolding Region
  register-is = go (region x low)
    where
      go : Region x → eqb 4 (kind_no x) && eqb i (number_no x) ≡ eqb x (cell_number i 255 0)
      go (inl a) = same_place x low 4 255 0 i (omega arith) a
      go (inr (inl a)) = let l = a.least in other_place x low 4 255 0 i (omega arith) (ap (eqb 4) a.kind) (inr (omega arith))
      go (inr (inr (inl a))) = let l = a.least in other_place x low 4 255 0 i (omega arith) (ap (eqb 4) a.kind) (inr (omega arith))
      go (inr (inr (inr a))) = let l = a.least in other_place x low 4 255 0 i (omega arith) (ap (eqb 4) a.kind) (inr (omega arith))

  predicate-is : eqb 5 (kind_no x) && eqb i (number_no x) ≡ eqb x (cell_number i 7 255)
  unfolding Region
  predicate-is = go (region x low)
    where
      go : Region x → eqb 5 (kind_no x) && eqb i (number_no x) ≡ eqb x (cell_number i 7 255)
      go (inl a) = let l = a.less in other_place x low 5 7 255 i (omega arith) (ap (eqb 5) a.kind) (inl (omega arith))
      go (inr (inl a)) = same_place x low 5 7 255 i (omega arith) a
      go (inr (inr (inl a))) = let l = a.least in other_place x low 5 7 255 i (omega arith) (ap (eqb 5) a.kind) (inr (omega arith))
      go (inr (inr (inr a))) = let l = a.least in other_place x low 5 7 255 i (omega arith) (ap (eqb 5) a.kind) (inr (omega arith))

  flag_is : eqb 6 (kind_no x) && eqb i (number_no x) ≡ eqb x (cell_number i 4 262)
  unfolding Region
  flag_is = go (region x low)
    where
      go : Region x → eqb 6 (kind_no x) && eqb i (number_no x) ≡ eqb x (cell_number i 4 262)
      go (inl a) = let l = a.less in other_place x low 6 4 262 i (omega arith) (ap (eqb 6) a.kind) (inl (omega arith))
      go (inr (inl a)) = let l = a.less in other_place x low 6 4 262 i (omega arith) (ap (eqb 6) a.kind) (inl (omega arith))
      go (inr (inr (inl a))) = same_place x low 6 4 262 i (omega arith) a
      go (inr (inr (inr a))) = let l = a.least in other_place x low 6 4 262 i (omega arith) (ap (eqb 6) a.kind) (inr (omega arith))

  slot_is : eqb 10 (kind_no x) && eqb i (number_no x) ≡ eqb x (cell_number i 32 266)
  unfolding Region
  slot_is = go (region x low)
    where
      go : Region x → eqb 10 (kind_no x) && eqb i (number_no x) ≡ eqb x (cell_number i 32 266)
      go (inl a) = let l = a.less in other_place x low 10 32 266 i (omega arith) (ap (eqb 10) a.kind) (inl (omega arith))
      go (inr (inl a)) = let l = a.less in other_place x low 10 32 266 i (omega arith) (ap (eqb 10) a.kind) (inl (omega arith))
      go (inr (inr (inl a))) = let l = a.less in other_place x low 10 32 266 i (omega arith) (ap (eqb 10) a.kind) (inl (omega arith))
      go (inr (inr (inr a))) = same_place x low 10 32 266 i (omega arith) a

  -- what an entry loads and stores, by number
  pub load_is : (j : ℕ) → loads_no x (Entry.Cell j i) ≡ eqb x (load_place j i)
  unfolding loads load_place
  load_is j = go (eqb j 4) refl (eqb j 5) refl (eqb j 10) refl (eqb j 110) refl
    where
      go : (a : Bool) → eqb j 4 ≡ a → (b : Bool) → eqb j 5 ≡ b → (c : Bool) → eqb j 10 ≡ c → (d : Bool) → eqb j 110 ≡ d → loads_no x (Entry.Cell j i) ≡ eqb x (load_place j i)
      go true p b q c r d s = rw (eqb-true j 4 p) register-is
      go false p true q c r d s = rw (eqb-true j 5 q) predicate-is
      go false p false q true r d s = rw (eqb-true j 10 r) slot_is
      go false p false q false r true s = rw (eqb-true j 110 s) (sym (ne_eqb x 298 (λ e. omega arith)))
      go false p false q false r false s = rw (p, q, r, s) flag_is

  pub store_is : (j r : ℕ) → stores_no x (Entry.Store j i r) ≡ eqb x (store_place j i)
  unfolding stores store_place
  store_is j r = go (eqb j 7) refl (eqb j 8) refl
    where
      go : (a : Bool) → eqb j 7 ≡ a → (b : Bool) → eqb j 8 ≡ b → stores_no x (Entry.Store j i r) ≡ eqb x (store_place j i)
      go true p b q = rw (eqb-true j 7 p) register-is
      go false p true q = rw (eqb-true j 8 q) predicate-is
      go false p false q = rw (p, q) flag_is

-- ---- the rule, by number

cells-no : (f : ℕ → ℕ → Bool) (x : ℕ) → x < 298 → listed_no (cells_where f) x ≡ f (kind_no x) (number_no x)
unfolding listed_no listed cells_where Region
cells-no f x h = go (region x h)
  where
    go : Region x → listed_no (cells_where f) x ≡ f (kind_no x) (number_no x)
    go (inl a) = let l = a.less in rw (a.kind, a.number) (table-in 255 (f 4) (x - 0) (omega arith))
    go (inr (inl a)) = let l = a.less in let m = a.least in rw (a.kind, a.number) (table-in 7 (f 5) (x - 255) (omega arith))
    go (inr (inr (inl a))) = let l = a.less in let m = a.least in rw (a.kind, a.number) (table-in 4 (f 6) (x - 262) (omega arith))
    go (inr (inr (inr a))) = let l = a.less in let m = a.least in rw (a.kind, a.number) (table-in 32 (f 10) (x - 266) (omega arith))

before-no : (es : List Entry) (c : Cells) (x : ℕ) → before es c (kind_no x) (number_no x) ≡ (listed_no c x && (any is_open es || not (any (stores_no x) es))) || any (loads_no x) es
unfolding before listed_no
before-no es c x = refl

rule-no : (es : List Entry) (c : Cells) (x : ℕ) → x < 298
    → listed_no (rule es c) x ≡ cond (any (stores_listed c) es) ((listed_no c x && (any is_open es || not (any (stores_no x) es))) || any (loads_no x) es) (listed_no c x)
unfolding rule
rule-no es c x h = go (any (stores_listed c) es)
  where
    go : (b : Bool) → listed_no (cond b (cells_where (before es c)) c) x ≡ cond b ((listed_no c x && (any is_open es || not (any (stores_no x) es))) || any (loads_no x) es) (listed_no c x)
    go true = cells-no (before es c) x h ∙ before-no es c x
    go false = refl

-- the arrays keep their lengths
rule-whole : (es : List Entry) (c : Cells) → Whole c → Whole (rule es c)
unfolding rule cells_where
rule-whole es c h = go (any (stores_listed c) es)
  where
    go : (b : Bool) → Whole (cond b (cells_where (before es c)) c)
    go true = record { regs = table-length 255 _; preds = table-length 7 _; flags = table-length 4 _; slots = table-length 32 _ }
    go false = h

pub reach-whole : (ss : List (List Entry)) (c : Cells) → Whole c → Whole (reach_strips ss c)
unfolding reach_strips
reach-whole [] c h = h
reach-whole (es ∷ ss) c h = rule-whole es (reach_strips ss c) (reach-whole ss c h)

-- ---- a strip that stores a listed cell has such a cell, by number

module _ (c : Cells) where
  Stored : List Entry → Type 0
  Stored es = (x : ℕ) × (x < 298) × (listed_no c x ≡ true) × (any (stores_no x) es ≡ true)

  listed-within : Whole c → (j i : ℕ) → listed c (store_kind j) i ≡ true → store_place j i < 298
  unfolding listed store_place cell_number
  listed-within w j i h = go (eqb j 7) refl (eqb j 8) refl h
    where
      go : (a : Bool) → eqb j 7 ≡ a → (b : Bool) → eqb j 8 ≡ b → listed c (cond a 4 (cond b 5 6)) i ≡ true → cond a (cell_number i 255 0) (cond b (cell_number i 7 255) (cell_number i 4 262)) < 298
      go true p b q h = let l : i < 255 = omega (arith, true-within c.regs i h, w.regs) in rw (lt-ltb i 255 l) (omega arith)
      go false p true q h = let l : i < 7 = omega (arith, true-within c.preds i h, w.preds) in rw (lt-ltb i 7 l) (omega arith)
      go false p false q h = let l : i < 4 = omega (arith, true-within c.flags i h, w.flags) in rw (lt-ltb i 4 l) (omega arith)

  -- a store of cell n of kind k, where that is x
  listed-is : (j i r x : ℕ) → stores_no x (Entry.Store j i r) ≡ true → listed_no c x ≡ listed c (store_kind j) i
  unfolding stores listed_no
  listed-is j i r x h =
      let k : store_kind j ≡ kind_no x = eqb-true (store_kind j) (kind_no x) (and_left _ _ h) in
      let n : i ≡ number_no x = eqb-true i (number_no x) (and_right (eqb (store_kind j) (kind_no x)) _ h) in
      ap (λ (y : ℕ). listed c y (number_no x)) (sym k) ∙ ap (listed c (store_kind j)) (sym n)

  entry-stored : Whole c → (e : Entry) → stores_listed c e ≡ true → Stored (e ∷ [])
  unfolding stores_listed Stored stores
  entry-stored w (Entry.Bare j) h = absurd (false≢true h)
  entry-stored w (Entry.Word v) h = absurd (false≢true h)
  entry-stored w (Entry.Cell j i) h = absurd (false≢true h)
  entry-stored w (Entry.Store j i r) h =
      let l = listed-within w j i h in
      let s : stores_no (store_place j i) (Entry.Store j i r) ≡ true = store_is (store_place j i) l i j r ∙ eq-eqb (store_place j i) (store_place j i) refl in
      (store_place j i, l, listed-is j i r (store_place j i) s ∙ h, rw s)
  entry-stored w (Entry.One j a) h = absurd (false≢true h)
  entry-stored w (Entry.Two j a b) h = absurd (false≢true h)
  entry-stored w (Entry.Three j a b d) h = absurd (false≢true h)
  entry-stored w (Entry.Four j a b d f) h = absurd (false≢true h)

  any-stored : Whole c → (es : List Entry) → any (stores_listed c) es ≡ true → Stored es
  unfolding Stored
  any-stored w [] h = absurd (false≢true h)
  any-stored w (e ∷ es) h =
      or_elim (stores_listed c e) (any (stores_listed c) es) h
      (λ p. let s = entry-stored w e p in (s.0, s.1, s.2, or_elim (stores_no s.0 e) false s.3 (λ q. rw q) (λ q. absurd (false≢true q))))
      (λ p. let s = any-stored w es p in (s.0, s.1, s.2, rw s.3 (or-true (stores_no s.0 e))))

  entry_listed : (x : ℕ) → listed_no c x ≡ true → (e : Entry) → stores_no x e ≡ true → stores_listed c e ≡ true
  unfolding stores_listed stores
  entry_listed x l (Entry.Bare j) h = h
  entry_listed x l (Entry.Word v) h = h
  entry_listed x l (Entry.Cell j i) h = h
  entry_listed x l (Entry.Store j i r) h = sym (listed-is j i r x h) ∙ l
  entry_listed x l (Entry.One j a) h = h
  entry_listed x l (Entry.Two j a b) h = h
  entry_listed x l (Entry.Three j a b d) h = h
  entry_listed x l (Entry.Four j a b d f) h = h

  stored-any : (x : ℕ) → listed_no c x ≡ true → (es : List Entry) → any (stores_no x) es ≡ true → any (stores_listed c) es ≡ true
  stored-any x l [] h = h
  stored-any x l (e ∷ es) h =
      or_elim (stores_no x e) (any (stores_no x) es) h
      (λ p. rw (entry_listed x l e p))
      (λ p. rw (stored-any x l es p) (or-true (stores_listed c e)))

-- ---- the rule is additive: what a strip lists is the union of what it lists for each cell

module _ (n : ℕ) (listed stored loaded r : ℕ → Bool) (o s : Bool)
    (cell : s ≡ true → (i : ℕ) × (i < n) × (listed i ≡ true) × (stored i ≡ true))
    (from : (i : ℕ) → listed i ≡ true → stored i ≡ true → s ≡ true) where
  back : ℕ → Bool
  back x = cond s ((listed x && (o || not (stored x))) || loaded x) (listed x) && r x

  onward : ℕ → Bool
  onward x = listed x && cond (stored x) ((o && r x) || any_below n (λ y. loaded y && r y)) (r x)

  to-onward : (x : ℕ) → x < n → back x ≡ true → any_below n onward ≡ true
  unfolding back onward
  to-onward x h p = go s refl (listed x) refl (stored x) refl o refl (loaded x) refl (and_left _ _ p)
    where
      it : r x ≡ true
      it = and_right (cond s ((listed x && (o || not (stored x))) || loaded x) (listed x)) _ p

      go : (s' : Bool) → s ≡ s' → (l : Bool) → listed x ≡ l → (b : Bool) → stored x ≡ b → (o' : Bool) → o ≡ o' → (d : Bool) → loaded x ≡ d → cond s' ((l && (o' || not b)) || d) l ≡ true → any_below n onward ≡ true
      go true a l b st e o' f true g q =
          let w = cell a in
          any-intro n onward w.0 w.1 (rw (w.2, w.3, any-intro n (λ y. loaded y && r y) x h (rw (g, it))) (or-true (o && r w.0)))
      go true a true b true e true f false g q = any-intro n onward x h (rw (b, e, f, it))
      go true a true b true e false f false g q = absurd (false≢true q)
      go true a true b false e o' f false g q = any-intro n onward x h (rw (b, e, it))
      go true a false b st e o' f false g q = absurd (false≢true q)
      go false a true b true e o' f d g q = absurd (false≢true (sym a ∙ from x b e))
      go false a true b false e o' f d g q = any-intro n onward x h (rw (b, e, it))
      go false a false b st e o' f d g q = absurd (false≢true q)

  to_back : (x : ℕ) → x < n → onward x ≡ true → any_below n back ≡ true
  unfolding back onward
  to_back x h p = go (stored x) refl (and_right (listed x) _ p)
    where
      l : listed x ≡ true
      l = and_left (listed x) _ p

      plain : (b : Bool) → s ≡ b → stored x ≡ false → r x ≡ true → any_below n back ≡ true
      plain true a e q = any-intro n back x h (rw (a, l, e, or-true o, q))
      plain false a e q = any-intro n back x h (rw (a, l, q))

      go : (b : Bool) → stored x ≡ b → cond b ((o && r x) || any_below n (λ y. loaded y && r y)) (r x) ≡ true → any_below n back ≡ true
      go true e q =
          or_elim (o && r x) (any_below n (λ y. loaded y && r y)) q
          (λ u. any-intro n back x h (rw (from x l e, l, and_left o _ u, and_right o _ u)))
          (λ u. any-elim n (λ y. loaded y && r y) u
          (λ y k v. any-intro n back y k (rw (from x l e, and_left (loaded y) _ v, and_right (loaded y) _ v, or-true (listed y && (o || not (stored y)))))))
      go false e q = plain s refl e q

  additive : any_below n back ≡ any_below n onward
  additive = same_truth _ _ (λ p. any-elim n back p to-onward) (λ p. any-elim n onward p to_back)

-- ---- a run, midway in a strip
-- r: the column before the strip; u: row 298 has d; in: a cell is among the stored ones; o: the strip so far holds an open.

-- a cell after the strip
unfoldable pub mixed : Bool → Bool → Bool → Bool → Bool
mixed s o u r = cond s ((o && r) || u) r

mixed-same : {s s' o o' u u' r r' : Bool} → s ≡ s' → o ≡ o' → u ≡ u' → r ≡ r' → mixed s o u r ≡ mixed s' o' u' r'
mixed-same p q v w = cc

-- a cell after the strip, with the entries that are left of it
unfoldable pub mid : (ℕ → Bool) → Bool → (ℕ → Bool) → Bool → List Entry → ℕ → Bool
mid r u in' o es x = mixed (in' x || any (stores_no x) es) (o || any is_open es) (u || any_below 298 (λ y. any (loads_no y) es && r y)) (r x)

-- what the asked cells reach, with the strips that are left
unfoldable pub rest : (ℕ → Bool) → Bool → (ℕ → Bool) → Bool → List (List Entry) → Cells → Bool
rest r u in' o [] c = u || any_below 298 (λ x. listed_no c x && r x)
rest r u in' o (es ∷ ss) c = any_below 298 (λ x. listed_no (reach_strips ss c) x && mid r u in' o es x)

-- between two strips
pub rest-between : (r : ℕ → Bool) (ss : List (List Entry)) (c : Cells) → Whole c → rest r false (λ x. false) false ss c ≡ any_below 298 (λ x. listed_no (reach_strips ss c) x && r x)
unfolding rest mid mixed reach_strips back onward Stored
rest-between r [] c w = refl
rest-between r (es ∷ ss) c w =
    let b = reach_strips ss c in
    sym (any-cong 298 _ _ (λ x h. ap (λ (t : Bool). t && r x) (rule-no es b x h))
    ∙ additive 298 (listed_no b) (λ x. any (stores_no x) es) (λ x. any (loads_no x) es) r (any is_open es) (any (stores_listed b) es) (any-stored b (reach-whole ss c w) es) (λ x l. stored-any b x l es))

-- before the first strip
pub rest-begin : (r : ℕ → Bool) (d : ℕ) → d < 298 → ((x : ℕ) → x < 298 → r x ≡ eqb x d) → (ss : List (List Entry)) (c : Cells) → Whole c → rest r false (λ x. false) false ss c ≡ listed_no (reach_strips ss c) d
rest-begin r d h own ss c w =
    rest-between r ss c w
    ∙ any-cong 298 _ (λ x. eqb x d && listed_no (reach_strips ss c) x) (λ x l. ap (λ (b : Bool). listed_no (reach_strips ss c) x && b) (own x l) ∙ and_comm (listed_no (reach_strips ss c) x) (eqb x d))
    ∙ any-one 298 d (listed_no (reach_strips ss c)) h

module _ (r r' : ℕ → Bool) (u u' : Bool) (in₀ in' : ℕ → Bool) (o o' : Bool) (e : Entry) where
  -- an entry that does not end the strip
  pub record Entered : Type 0 where
    pub rows : (x : ℕ) → x < 298 → r' x ≡ r x
    pub union : u' ≡ u || any_below 298 (λ y. loads_no y e && r y)
    pub stored_cells : (x : ℕ) → x < 298 → in' x ≡ in₀ x || stores_no x e
    pub opened : o' ≡ o || is_open e

  entered-mid : Entered → (es : List Entry) (x : ℕ) → x < 298 → mid r u in₀ o (e ∷ es) x ≡ mid r' u' in' o' es x
  unfolding mid
  entered-mid t es x h =
      let p : in₀ x || (stores_no x e || any (stores_no x) es) ≡ in' x || any (stores_no x) es = sym (or_assoc (in₀ x) (stores_no x e) (any (stores_no x) es)) ∙ ap (λ (b : Bool). b || any (stores_no x) es) (sym (t.stored_cells x h)) in
      let q : o || (is_open e || any is_open es) ≡ o' || any is_open es = sym (or_assoc o (is_open e) (any is_open es)) ∙ ap (λ (b : Bool). b || any is_open es) (sym t.opened) in
      let a : any_below 298 (λ y. (loads_no y e || any (loads_no y) es) && r y) ≡ any_below 298 (λ y. loads_no y e && r y) || any_below 298 (λ y. any (loads_no y) es && r' y) =
      any-cong 298 _ _ (λ y k. and-or_distrib_right (loads_no y e) (any (loads_no y) es) (r y))
      ∙ any-or 298 (λ y. loads_no y e && r y) (λ y. any (loads_no y) es && r y)
      ∙ ap (λ (b : Bool). any_below 298 (λ y. loads_no y e && r y) || b) (any-cong 298 _ _ (λ y k. ap (λ (b : Bool). any (loads_no y) es && b) (sym (t.rows y k))))
      in
      let v : u || any_below 298 (λ y. (loads_no y e || any (loads_no y) es) && r y) ≡ u' || any_below 298 (λ y. any (loads_no y) es && r' y) =
      ap (λ (b : Bool). u || b) a ∙ sym (or_assoc u (any_below 298 (λ y. loads_no y e && r y)) (any_below 298 (λ y. any (loads_no y) es && r' y))) ∙ ap (λ (b : Bool). b || any_below 298 (λ y. any (loads_no y) es && r' y)) (sym t.union)
      in
      mixed-same p q v (sym (t.rows x h))

  pub rest-entry : Entered → (es : List Entry) (ss : List (List Entry)) (c : Cells) → rest r u in₀ o ((e ∷ es) ∷ ss) c ≡ rest r' u' in' o' (es ∷ ss) c
  unfolding rest
  rest-entry t es ss c = any-cong 298 _ _ (λ x h. ap (λ (b : Bool). listed_no (reach_strips ss c) x && b) (entered-mid t es x h))

-- the end of a strip
module _ (r r' : ℕ → Bool) (u : Bool) (in₀ : ℕ → Bool) (o : Bool) (rows : (x : ℕ) → x < 298 → r' x ≡ mixed (in₀ x) o u (r x)) where
  end-mid : (x : ℕ) → x < 298 → mid r u in₀ o (Entry.Bare 255 ∷ []) x ≡ r' x
  unfolding mid stores loads kind_of
  end-mid x h =
      mixed-same (or-false (in₀ x)) (or-false o) (ap (λ (b : Bool). u || b) (any_none 298 _ (λ y k. refl)) ∙ or-false u) refl ∙ sym (rows x h)

  pub rest_end : (ss : List (List Entry)) (c : Cells) → Whole c → rest r u in₀ o ((Entry.Bare 255 ∷ []) ∷ ss) c ≡ rest r' false (λ x. false) false ss c
  unfolding rest
  rest_end ss c w = any-cong 298 _ _ (λ x h. ap (λ (b : Bool). listed_no (reach_strips ss c) x && b) (end-mid x h)) ∙ sym (rest-between r' ss c w)
