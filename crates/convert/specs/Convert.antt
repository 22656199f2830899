-- From one layout to the other (02, #102): the strips of the run, written in the other layout.
use Rattle.std.specs.Prelude.{ℕ, cond, List, [], ◌++◌, leb, length, drop, Result, Ok, Err}
use Rattle.std.proofs.Math.Option.{get_or}
use Rattle.strip.specs.declared.format.Layout.{Layout}
use Rattle.strip.specs.declared.format.Layout.TheVariants.{Wide, Narrow}
use Rattle.strip.specs.Entry.{ref_length}
use Rattle.strip.specs.Shape.{decode, shape_ok, run_bytes}
use Rattle.convert.specs.declared.Refusal.{Refusal}
use Rattle.convert.specs.declared.Refusal.TheVariants.{BadShape, NoRoom}

abbrev pub other : Layout → Layout
other Wide = Narrow
other Narrow = Wide

-- the strips of a run whose references take `from` bytes, with references of `to` bytes
unfoldable pub converted : ℕ → ℕ → List ℕ → List ℕ
converted from to run = run_bytes to (get_or (decode from run) [])

-- 02's number of a refusal
unfoldable pub refusal_number : Refusal → ℕ
refusal_number BadShape = 7
refusal_number NoRoom = 6

-- and of an answer, 0 where the run is converted
unfoldable pub number_of : Result ℕ Refusal → ℕ
number_of (Ok n) = 0
number_of (Err r) = refusal_number r

-- the length of what is written, 0 of a refusal
unfoldable pub length_of : Result ℕ Refusal → ℕ
length_of (Ok n) = n
length_of (Err r) = 0

-- the answer by numbers, and what the room holds then
pub record Answer : Type 0 where
  pub number : ℕ
  pub length : ℕ
  pub out : List ℕ

abbrev pub answer_of : Result ℕ Refusal → List ℕ → Answer
answer_of o out = record { number = number_of o; length = length_of o; out = out }

-- what is converted stands at the room's start and the rest of the room is as it was; where it does not fit the whole room is
unfoldable pub fitted : List ℕ → List ℕ → Answer
fitted bytes out = cond (leb (length bytes) (length out)) (answer_of (Ok (length bytes)) (bytes ++ drop (length bytes) out)) (answer_of (Err NoRoom) out)

-- the shape of the whole run first, in the layout that is stated
unfoldable pub conversion : Layout → List ℕ → List ℕ → Answer
conversion l run out = cond (shape_ok (ref_length l) run) (fitted (converted (ref_length l) (ref_length (other l)) run) out) (answer_of (Err BadShape) out)
