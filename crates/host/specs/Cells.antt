-- Cells as the exported functions take them, 298 bytes, and what a reach answers there.
use Rattle.std.specs.Prelude.{ℕ, cond, List, ◌++◌, map, length, eqb}
use Rattle.reach.specs.declared.cells.Cells.{Cells}
use Rattle.reach.specs.declared.cells.Refusal.TheVariants.{BadShape}
use Rattle.reach.specs.Reach as R
use Rattle.truth_bytes.specs.Truths.{truth_byte, truths_at}

-- the cells that bytes list: registers, predicates, flags, slots
unfoldable pub cells_in : List ℕ → Cells
cells_in bytes = record { regs = truths_at 255 0 bytes; preds = truths_at 7 255 bytes; flags = truths_at 4 262 bytes; slots = truths_at 32 266 bytes }

-- and the bytes of cells
unfoldable pub cell_bytes : Cells → List ℕ
cell_bytes c = map truth_byte (c.regs ++ c.preds ++ c.flags ++ c.slots)

-- the number that is returned, and what the bytes are then
pub record Answer : Type 0 where
  pub number : ℕ
  pub cells : List ℕ

abbrev pub returns : ℕ → List ℕ → Answer
returns n bytes = record { number = n; cells = bytes }

-- from what reach answers; a refusal leaves the bytes as they were
abbrev pub handed_back : R.Answer → List ℕ → Answer
handed_back a bytes = returns a.number (cond (eqb a.number 0) (cell_bytes a.cells) bytes)

-- bytes of another length list no cells
unfoldable pub reach_answer : List ℕ → List ℕ → Answer
reach_answer run bytes = cond (eqb (length bytes) 298) (handed_back (R.reach_answer run (cells_in bytes)) bytes) (returns (R.refusal_number BadShape) bytes)
