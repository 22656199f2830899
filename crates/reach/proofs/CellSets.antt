-- What a set of cells lists: a table of a test, the numbers that cells have, and tests over the entries of a strip.
use mathlib.Core.Path.{◌≡◌, refl, ◌∙◌, sym}
use mathlib.Core.List.{List, [], ◌∷◌}
use mathlib.Core.Bool.{Bool, true, false, cond, not, ◌&&◌, ◌||◌, false≢true}
use Prim.Native.Nat.{ℕ, ◌≤◌}
use native.Mathlib.Omega.{arith}
use lib.ListN.{length, get_or, get_or-eq_default}
use lib.Dec.{ltb, leb, eqb}
use borrow.Author.Tests.{ltb-true, ltb-false, eqb-true, eqb-false, not-true}
use Rattle.strip.specs.declared.reader.Entry.{Entry}
use Rattle.strip.specs.Format.{format_of}
use Rattle.strip.specs.Entry.{kind_of, cells_of}
use Rattle.strip.specs.Shape.{all, cell_ok}
use Rattle.strip.proofs.Tests.{and_left, and_right}
use Rattle.evaluation.specs.declared.value.Value.TheVariants.{Undefined}
use Rattle.evaluation.specs.declared.state.State.{State}
use Rattle.evaluation.specs.State.{loaded}
use Rattle.evaluation.specs.Cells.{store_kind, stores, load_kind, loads}
use Rattle.reach.specs.declared.cells.Cells.{Cells}
use Rattle.reach.specs.Reach.{listed, table, any, stores_listed}
use Rattle.reach.specs.Reach as Reach
use Rattle.reach.proofs.Truths.{table-length, table-in}

-- ---- tables
-- element n of the first m truths of a test
pub table_at : (m : ℕ) (f : ℕ → Bool) (n : ℕ) → get_or (table m f) n false ≡ ltb n m && f n
table_at m f n = go (ltb n m) refl
  where
    go : (a : Bool) → ltb n m ≡ a → get_or (table m f) n false ≡ ltb n m && f n
    go true a = table-in m f n (ltb-true n m a) ∙ rw a refl
    go false a = let past : length (table m f) ≤ n = omega (arith, ltb-false n m a, table-length m f) in get_or-eq_default (table m f) false past ∙ rw a refl

-- ---- the numbers of cells: 255 registers, 7 predicates, 4 flags, 32 slots
unfoldable pub inside : ℕ → ℕ → Bool
inside k n = cond (eqb k 4) (ltb n 255) (cond (eqb k 5) (ltb n 7) (cond (eqb k 6) (ltb n 4) (cond (eqb k 10) (ltb n 32) false)))

-- the cells that pass a test are those inside that do
pub listed-where : (f : ℕ → ℕ → Bool) (k n : ℕ) → listed (Reach.cells_where f) k n ≡ inside k n && f k n
unfolding listed Reach.cells_where inside
listed-where f k n = go (eqb k 4) refl (eqb k 5) refl (eqb k 6) refl (eqb k 10) refl
  where
    go : (a : Bool) → eqb k 4 ≡ a → (b : Bool) → eqb k 5 ≡ b → (c : Bool) → eqb k 6 ≡ c → (d : Bool) → eqb k 10 ≡ d → listed (Reach.cells_where f) k n ≡ inside k n && f k n
    go true a b q c r d t = rw (eqb-true k 4 a) (table_at 255 (f 4) n)
    go false a true b c r d t = rw (eqb-true k 5 b) (table_at 7 (f 5) n)
    go false a false b true c d t = rw (eqb-true k 6 c) (table_at 4 (f 6) n)
    go false a false b false c true d = rw (eqb-true k 10 d) (table_at 32 (f 10) n)
    go false a false b false c false d = rw (a, b, c, d) refl

-- a register, predicate or flag of a number that none has: a load finds it undefined in every state
unfoldable pub outside : ℕ → ℕ → Bool
outside k n = not (eqb k 10) && not (inside k n)

pub loaded-outside : (k n : ℕ) → 4 ≤ k → k ≤ 6 → outside k n ≡ true → (s : State) → loaded s k n ≡ Undefined
unfolding loaded inside outside
loaded-outside k n l h p s = go (eqb k 4) refl (eqb k 5) refl
  where
    go : (a : Bool) → eqb k 4 ≡ a → (b : Bool) → eqb k 5 ≡ b → loaded s k n ≡ Undefined
    go true a b q = let is = eqb-true k 4 a in let r : ltb n 255 ≡ false = not-true (ltb n 255) (rw is at p) in rw (is, r) refl
    go false a true b = let is = eqb-true k 5 b in let r : ltb n 7 ≡ false = not-true (ltb n 7) (rw is at p) in rw (is, r) refl
    go false a false b =
        let x = eqb-false k 4 a in
        let y = eqb-false k 5 b in
        let is : k ≡ 6 = omega arith in
        let r : ltb n 4 ≡ false = not-true (ltb n 4) (rw is at p) in
        rw (is, r) refl

-- the listed cells, and those that no state has: two starts that agree on the first agree on all of these
unfoldable pub extended : Cells → ℕ → ℕ → Bool
extended c k n = listed c k n || outside k n

-- a slot that passes the test is inside, a cell of the state may not be
pub extended-where : (f : ℕ → ℕ → Bool) (k n : ℕ) → (eqb k 10 ≡ true → ltb n 32 ≡ true) → f k n ≡ true → extended (Reach.cells_where f) k n ≡ true
unfolding extended outside inside
extended-where f k n slot p = rw (listed-where f k n, p) (go (inside k n) refl (eqb k 10) refl)
  where
    go : (a : Bool) → inside k n ≡ a → (b : Bool) → eqb k 10 ≡ b → (a && true) || (not b && not a) ≡ true
    go true a b q = refl
    go false a true b = let is = eqb-true k 10 b in let r : ltb n 32 ≡ false = rw is at a in absurd (false≢true (sym r ∙ slot b))
    go false a false b = refl

-- ---- tests over the entries of a strip
pub or_left : (a b : Bool) → a || b ≡ false → a ≡ false
or_left true b h = h
or_left false b h = refl

pub or_right : (a b : Bool) → a || b ≡ false → b ≡ false
or_right true b h = absurd (false≢true (sym h))
or_right false b h = h

-- a strip that stores no listed cell leaves each of them
entry-leaves : (c : Cells) (k n : ℕ) → listed c k n ≡ true → (e : Entry) → stores_listed c e ≡ false → not (stores k n e) ≡ true
unfolding stores stores_listed
entry-leaves c k n l (Entry.Bare j) p = refl
entry-leaves c k n l (Entry.Word w) p = refl
entry-leaves c k n l (Entry.Cell j i) p = refl
entry-leaves c k n l (Entry.Store j i r) p = go (eqb (store_kind j) k) refl (eqb i n) refl
  where
    go : (a : Bool) → eqb (store_kind j) k ≡ a → (b : Bool) → eqb i n ≡ b → not (a && b) ≡ true
    go true a true b = let x = eqb-true (store_kind j) k a in let y = eqb-true i n b in let z : listed c k n ≡ false = rw (← x, ← y) p in absurd (false≢true (sym z ∙ l))
    go true a false b = refl
    go false a b q = refl
entry-leaves c k n l (Entry.One j a) p = refl
entry-leaves c k n l (Entry.Two j a b) p = refl
entry-leaves c k n l (Entry.Three j a b d) p = refl
entry-leaves c k n l (Entry.Four j a b d e) p = refl

pub strip-leaves : (c : Cells) (k n : ℕ) → listed c k n ≡ true → (es : List Entry) → any (stores_listed c) es ≡ false → all (λ e. not (stores k n e)) es ≡ true
strip-leaves c k n l [] p = refl
strip-leaves c k n l (e ∷ es) p =
    rw (entry-leaves c k n l e (or_left (stores_listed c e) _ p)) (strip-leaves c k n l es (or_right (stores_listed c e) _ p))

-- an entry in range names only the slots that there are
pub slot-inside : (k n : ℕ) (e : Entry) → cell_ok (format_of (kind_of e)) e ≡ true → loads k n e ≡ true → eqb k 10 ≡ true → ltb n 32 ≡ true
unfolding loads cell_ok cells_of kind_of format_of
slot-inside k n (Entry.Bare j) ok p s = absurd (false≢true p)
slot-inside k n (Entry.Word w) ok p s = absurd (false≢true p)
slot-inside k n (Entry.Cell j i) ok p s = go (eqb j 10) refl (eqb j 4) refl (eqb j 5) refl
  where
    is : k ≡ 10
    is = eqb-true k 10 s

    both : eqb (load_kind j) k && eqb i n ≡ true
    both = and_right (not (eqb j 110)) _ p

    kind : load_kind j ≡ 10
    kind = eqb-true (load_kind j) k (and_left (eqb (load_kind j) k) _ both) ∙ is

    number : i ≡ n
    number = eqb-true i n (and_right (eqb (load_kind j) k) _ both)

    go : (a : Bool) → eqb j 10 ≡ a → (b : Bool) → eqb j 4 ≡ b → (c : Bool) → eqb j 5 ≡ c → ltb n 32 ≡ true
    go true a b q c r = let ten = eqb-true j 10 a in rw (← number) (and_right (leb 0 i) (ltb i 32) (and_left (leb 0 i && ltb i 32) true (rw ten at ok)))
    go false a true b c r = let z : ◌≡◌ {A = ℕ} 4 10 = rw (a, b) at kind in absurd (omega arith)
    go false a false b true c = let z : ◌≡◌ {A = ℕ} 5 10 = rw (a, b, c) at kind in absurd (omega arith)
    go false a false b false c = let z : ◌≡◌ {A = ℕ} 6 10 = rw (a, b, c) at kind in absurd (omega arith)
slot-inside k n (Entry.Store j i r) ok p s = absurd (false≢true p)
slot-inside k n (Entry.One j a) ok p s = absurd (false≢true p)
slot-inside k n (Entry.Two j a b) ok p s = absurd (false≢true p)
slot-inside k n (Entry.Three j a b c) ok p s = absurd (false≢true p)
slot-inside k n (Entry.Four j a b c d) ok p s = absurd (false≢true p)

-- no store names a slot
slot-stays : (n : ℕ) (e : Entry) → stores 10 n e ≡ false
unfolding stores
slot-stays n (Entry.Bare j) = refl
slot-stays n (Entry.Word w) = refl
slot-stays n (Entry.Cell j i) = refl
slot-stays n (Entry.Store j i r) = go (eqb j 7) (eqb j 8)
  where
    go : (a b : Bool) → eqb (cond a 4 (cond b 5 6)) 10 && eqb i n ≡ false
    go true b = refl
    go false true = refl
    go false false = refl
slot-stays n (Entry.One j a) = refl
slot-stays n (Entry.Two j a b) = refl
slot-stays n (Entry.Three j a b c) = refl
slot-stays n (Entry.Four j a b c d) = refl

pub slots-stay : (n : ℕ) (es : List Entry) → any (stores 10 n) es ≡ false
slots-stay n [] = refl
slots-stay n (e ∷ es) = rw (slot-stays n e) (slots-stay n es)
