-- The table by which the code finds a reach in one pass forwards: row c holds the cells that the strips so far list where c alone is asked, row
-- 298 collects, and row 299 says which cells have a row: any other lists itself. That this is `reach_strips` is proved (proofs/TableReach.antt), so a
-- reader need not believe this page.
use Rattle.std.specs.Prelude.{ℕ, zero, suc, ◌+◌, ◌*◌, ◌-◌, ◌/◌, ◌%◌, ◌^◌, ◌<◌, ◌≡◌, List, [], ◌∷◌, Bool, true, false, cond, ◌&&◌, ◌||◌, ltb, eqb, length, get_or, set}
use Rattle.std.proofs.Math.Option
use Rattle.std.specs.Int.Bits.{bit_or}
use Rattle.strip.specs.Entry.{wide}
use Rattle.strip.specs.declared.reader.Entry.{Entry}
use Rattle.strip.specs.Shape.{decode, shape_ok}
use Rattle.reach.specs.declared.cells.Cells.{Cells}
use Rattle.reach.specs.declared.walk.StripSummary.{StripSummary}
use Rattle.reach.specs.Reach.{listed, table, reach_strips}

-- ---- cells by number: registers from 0, predicates from 255, flags from 262, slots from 266 on, 298 in all

abbrev pub kind_no : ℕ → ℕ
kind_no x = cond (ltb x 255) 4 (cond (ltb x 262) 5 (cond (ltb x 266) 6 10))

abbrev pub number_no : ℕ → ℕ
number_no x = cond (ltb x 255) x (cond (ltb x 262) (x - 255) (cond (ltb x 266) (x - 262) (x - 266)))

unfoldable pub listed_no : Cells → ℕ → Bool
listed_no c x = listed c (kind_no x) (number_no x)

-- the number of cell n of those from first on, or 298 where there is no such cell
unfoldable pub cell_number : ℕ → ℕ → ℕ → ℕ
cell_number n limit first = cond (ltb n limit) (first + n) 298

-- of the cell that an entry of kind j loads; a note loads none
unfoldable pub load_place : ℕ → ℕ → ℕ
load_place j n =
    cond (eqb j 4) (cell_number n 255 0)
    (cond (eqb j 5) (cell_number n 7 255) (cond (eqb j 10) (cell_number n 32 266) (cond (eqb j 110) 298 (cell_number n 4 262))))

unfoldable pub store_place : ℕ → ℕ → ℕ
store_place j n = cond (eqb j 7) (cell_number n 255 0) (cond (eqb j 8) (cell_number n 7 255) (cell_number n 4 262))

-- ---- rows of five words

abbrev pub Sized : List ℕ → Type 0
Sized t = length t ≡ 1500

-- cell d is in row r
unfoldable pub in_row : List ℕ → ℕ → ℕ → Bool
in_row t r d = eqb (get_or t (r * 5 + d / 64) 0 / 2 ^ (d % 64) % 2) 1

unfoldable pub set_row : List ℕ → ℕ → (a b c d e : ℕ) → List ℕ
set_row t r a b c d e = set (set (set (set (set t (r * 5) a) (r * 5 + 1) b) (r * 5 + 2) c) (r * 5 + 3) d) (r * 5 + 4) e

-- the words of row r, and row r replaced by such words
abbrev pub row_words : List ℕ → ℕ → List ℕ
row_words t r = get_or t (r * 5) 0 ∷ get_or t (r * 5 + 1) 0 ∷ get_or t (r * 5 + 2) 0 ∷ get_or t (r * 5 + 3) 0 ∷ get_or t (r * 5 + 4) 0 ∷ []

abbrev pub put_row : List ℕ → ℕ → List ℕ → List ℕ
put_row t r row = set_row t r (get_or row 0 0) (get_or row 1 0) (get_or row 2 0) (get_or row 3 0) (get_or row 4 0)

abbrev pub word_or : List ℕ → ℕ → ℕ → ℕ
word_or t i j = bit_or (get_or t i 0) (get_or t j 0)

unfoldable pub join_row : List ℕ → ℕ → ℕ → List ℕ
join_row t r s =
    set_row t r (word_or t (r * 5) (s * 5)) (word_or t (r * 5 + 1) (s * 5 + 1)) (word_or t (r * 5 + 2) (s * 5 + 2)) (word_or t (r * 5 + 3) (s * 5 + 3))
    (word_or t (r * 5 + 4) (s * 5 + 4))

unfoldable pub copy_row : List ℕ → ℕ → ℕ → List ℕ
copy_row t r s = set_row t r (get_or t (s * 5) 0) (get_or t (s * 5 + 1) 0) (get_or t (s * 5 + 2) 0) (get_or t (s * 5 + 3) 0) (get_or t (s * 5 + 4) 0)

unfoldable pub wipe_row : List ℕ → ℕ → List ℕ
wipe_row t r = set_row t r 0 0 0 0 0

-- cell d comes into row r
unfoldable pub add_cell : List ℕ → ℕ → ℕ → List ℕ
add_cell t r d = set t (r * 5 + d / 64) (bit_or (get_or t (r * 5 + d / 64) 0) (2 ^ (d % 64)))

-- where x alone is asked, d is listed
unfoldable pub lists : List ℕ → ℕ → ℕ → Bool
lists t x d = cond (in_row t 299 x) (in_row t x d) (eqb x d)

-- cell c has a row
unfoldable pub owned : List ℕ → ℕ → List ℕ
owned t c = cond (in_row t 299 c) t (add_cell (add_cell (wipe_row t c) c c) 299 c)

-- ---- an entry

-- what a loaded cell lists is collected
unfoldable pub rows_loaded : List ℕ → ℕ → List ℕ
rows_loaded t c = cond (ltb c 298) (cond (in_row t 299 c) (join_row t 298 c) (add_cell t 298 c)) t

-- a stored cell gets what was collected, beside what it had where the strip holds an open
unfoldable pub rows_stored : Bool → List ℕ → ℕ → List ℕ
rows_stored o t c = cond (ltb c 298) (cond o (join_row (owned t c) c 298) (copy_row (owned t c) c 298)) t

-- the first m of the stored cells
unfoldable pub rows_stored_all : Bool → List ℕ → List ℕ → ℕ → List ℕ
rows_stored_all o t cs zero = t
rows_stored_all o t cs (suc m) = rows_stored o (rows_stored_all o t cs m) (get_or cs m 0)

-- a strip begins; a strip stores a cell
abbrev pub empty_summary : List ℕ → StripSummary
empty_summary cs = record { stored = cs; count = 0; block = false }

abbrev pub with_stored : StripSummary → ℕ → StripSummary
with_stored s c = record { stored = set s.stored s.count c; count = s.count + 1; block = s.block }

-- at the end of a strip
unfoldable pub rows_ended : List ℕ → StripSummary → List ℕ
rows_ended t s = wipe_row (rows_stored_all s.block t s.stored s.count) 298

unfoldable pub rows_after : List ℕ → StripSummary → Entry → List ℕ
rows_after t s (Entry.Bare k) = cond (eqb k 255) (rows_ended t s) t
rows_after t s (Entry.Word w) = t
rows_after t s (Entry.Cell k n) = rows_loaded t (load_place k n)
rows_after t s (Entry.Store k n r) = t
rows_after t s (Entry.One k a) = t
rows_after t s (Entry.Two k a b) = t
rows_after t s (Entry.Three k a b c) = t
rows_after t s (Entry.Four k a b c d) = t

unfoldable pub summary_after : StripSummary → Entry → StripSummary
summary_after s (Entry.Bare k) = cond (eqb k 255) (empty_summary s.stored) s
summary_after s (Entry.Word w) = s
summary_after s (Entry.Cell k n) = s
summary_after s (Entry.Store k n r) = with_stored s (store_place k n)
summary_after s (Entry.One k a) = record { stored = s.stored; count = s.count; block = s.block || eqb k 100 }
summary_after s (Entry.Two k a b) = s
summary_after s (Entry.Three k a b c) = s
summary_after s (Entry.Four k a b c d) = s

-- what an entry makes of the table and of the strip's summary
pub record RowSteps (t : List ℕ) (s : StripSummary) (e : Entry) (t' : List ℕ) (s' : StripSummary) : Type 0 where
  pub rows : t' ≡ rows_after t s e
  pub summary : s' ≡ summary_after s e

-- ---- a run

-- one of the first n numbers passes the test
unfoldable pub any_below : ℕ → (ℕ → Bool) → Bool
any_below zero f = false
any_below (suc n) f = any_below n f || f n

-- what the table says of cell d: it is collected, or an asked cell lists it
unfoldable pub in_table : List ℕ → Cells → ℕ → Bool
in_table t c d = in_row t 298 d || any_below 298 (λ x. listed_no c x && lists t x d)

-- the arrays of a list of cells have their lengths
pub record Whole (c : Cells) : Type 0 where
  pub regs : length c.regs ≡ 255
  pub preds : length c.preds ≡ 7
  pub flags : length c.flags ≡ 4
  pub slots : length c.slots ≡ 32

-- the table holds the reach of a run
pub record Holds (t run : List ℕ) : Type 0 where
  pub sized : Sized t
  pub reach : (c : Cells) → Whole c → (d : ℕ) → d < 298 → in_table t c d ≡ listed_no (reach_strips (Option.get_or (decode wide run) []) c) d

-- what a pass leaves: whether the run is well-formed, and its reach where it is
pub record Passed (t run : List ℕ) (ok : Bool) : Type 0 where
  pub shape : ok ≡ shape_ok wide run
  pub holds : ok ≡ true → Holds t run

-- ---- the answer

-- the rows of the first n cells of a list, from row first on, collected
unfoldable pub gathered : List ℕ → List Bool → ℕ → ℕ → List ℕ
gathered t cs first zero = t
gathered t cs first (suc n) =
    cond (get_or cs n false && in_row (gathered t cs first n) 299 (first + n)) (join_row (gathered t cs first n) 298 (first + n)) (gathered t cs first n)

abbrev pub make_cells : List Bool → List Bool → List Bool → List Bool → Cells
make_cells rs ps fs ss = record { regs = rs; preds = ps; flags = fs; slots = ss }

-- the rows of the asked cells, collected; row 299 has these cells too
unfoldable pub collected : List ℕ → Cells → List ℕ
collected t c = join_row (gathered (gathered (gathered (gathered t c.regs 0 255) c.preds 255 7) c.flags 262 4) c.slots 266 32) 299 298

-- cell i of those from first on: collected where row 299 has it, else as it was asked
unfoldable pub listed_at : List ℕ → ℕ → List Bool → ℕ → Bool
listed_at t first cs i = cond (in_row t 299 (first + i)) (in_row t 298 (first + i)) (get_or cs i false)

unfoldable pub listed_cells : List ℕ → Cells → Cells
listed_cells t c =
    make_cells (table 255 (listed_at t 0 c.regs)) (table 7 (listed_at t 255 c.preds)) (table 4 (listed_at t 262 c.flags))
    (table 32 (listed_at t 266 c.slots))
