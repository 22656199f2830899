-- Reach (01, 'Evaluation and reach'): which cells at the start of a run can matter to the asked cells at its end. From the last strip back: a
-- strip that stores none of the list leaves it; otherwise its stored cells go out, unless it holds an open, and then all that it loads comes in.
use Rattle.std.specs.Prelude.{Bool, false, cond, not, ◌&&◌, ◌||◌, List, [], ◌∷◌, ◌++◌, ℕ, zero, suc, eqb, get_or, Result, Ok, Err}
use Rattle.std.proofs.Math.Option
use Rattle.strip.specs.Entry.{wide}
use Rattle.strip.specs.declared.reader.Entry.{Entry}
use Rattle.strip.specs.Shape.{is_open, decode, shape_ok}
use Rattle.evaluation.specs.Cells.{store_kind, stores, loads}
use Rattle.reach.specs.declared.cells.Cells.{Cells}
use Rattle.reach.specs.declared.cells.Refusal.{Refusal}
use Rattle.reach.specs.declared.cells.Refusal.TheVariants.{BadShape}
use Rattle.reach.specs.declared.cells.Reached.{Reached}

-- ---- sets of cells: a cell is the kind of its load (4 register, 5 predicate, 6 flag, 10 slot) and a number

unfoldable pub listed : Cells → ℕ → ℕ → Bool
listed c k n =
    cond (eqb k 4) (get_or c.regs n false)
    (cond (eqb k 5) (get_or c.preds n false) (cond (eqb k 6) (get_or c.flags n false) (cond (eqb k 10) (get_or c.slots n false) false)))

-- the first n truths of a test
unfoldable pub table : ℕ → (ℕ → Bool) → List Bool
table zero f = []
table (suc n) f = table n f ++ (f n ∷ [])

-- the cells that pass a test
unfoldable pub cells_where : (ℕ → ℕ → Bool) → Cells
cells_where f = record { regs = table 255 (f 4); preds = table 7 (f 5); flags = table 4 (f 6); slots = table 32 (f 10) }

-- ---- one strip

abbrev pub any {ℓ} : {A : Type ℓ} → (A → Bool) → List A → Bool
any f [] = false
any f (x ∷ xs) = f x || any f xs

-- the entry stores a listed cell
unfoldable pub stores_listed : Cells → Entry → Bool
stores_listed c (Entry.Bare j) = false
stores_listed c (Entry.Word w) = false
stores_listed c (Entry.Cell j i) = false
stores_listed c (Entry.Store j i r) = listed c (store_kind j) i
stores_listed c (Entry.One j a) = false
stores_listed c (Entry.Two j a b) = false
stores_listed c (Entry.Three j a b d) = false
stores_listed c (Entry.Four j a b d e) = false

-- a listed cell stays unless the strip stores it without a block; what it loads comes in
unfoldable pub before : List Entry → Cells → ℕ → ℕ → Bool
before es c k n = (listed c k n && (any is_open es || not (any (stores k n) es))) || any (loads k n) es

unfoldable pub rule : List Entry → Cells → Cells
rule es c = cond (any (stores_listed c) es) (cells_where (before es c)) c

-- ---- a run

-- from the last strip back
unfoldable pub reach_strips : List (List Entry) → Cells → Cells
reach_strips [] c = c
reach_strips (es ∷ ss) c = rule es (reach_strips ss c)

-- a run that is not well-formed is refused, with the asked cells
unfoldable pub reached : List ℕ → Cells → Reached
reached run c =
    cond (shape_ok wide run) (record { cells = reach_strips (Option.get_or (decode wide run) []) c; outcome = Ok tt }) (record { cells = c; outcome = Err BadShape })

-- ---- the answer: 01's number, and the cells

abbrev pub refusal_number : Refusal → ℕ
refusal_number BadShape = 7

unfoldable pub number_of : Result (Unit {0}) Refusal → ℕ
number_of (Ok done) = 0
number_of (Err r) = refusal_number r

pub record Answer : Type 0 where
  pub number : ℕ
  pub cells : Cells

abbrev pub answer_of : Reached → Answer
answer_of r = record { number = number_of r.outcome; cells = r.cells }

unfoldable pub reach_answer : List ℕ → Cells → Answer
reach_answer run c = answer_of (reached run c)
