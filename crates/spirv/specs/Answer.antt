-- The writer's answer by 02's numbers, and what the room holds then.
use Rattle.std.specs.Prelude.{ℕ, List, ◌++◌, length, drop, Result, Ok, Err}
use Rattle.spirv.specs.declared.answer.Refusal.{Refusal}
use Rattle.spirv.specs.declared.answer.Refusal.TheVariants.{BadShape, BadSigns, BadIds, NoRoom}
use Rattle.spirv.specs.declared.answer.Words as Code
use Rattle.spirv.specs.Writer.{Written, Words, Refused, written}

-- the number, 0 where words are written; how many there are, how many of them are the list of constants, the first free id; and the room
pub record Answer : Type 0 where
  pub number : ℕ
  pub length : ℕ
  pub constants : ℕ
  pub next : ℕ
  pub out : List ℕ

abbrev pub accepted : ℕ → ℕ → ℕ → List ℕ → Answer
accepted n constants next out = record { number = 0; length = n; constants = constants; next = next; out = out }

-- a refusal hands nothing back
abbrev pub refused : ℕ → List ℕ → Answer
refused number out = record { number = number; length = 0; constants = 0; next = 0; out = out }

abbrev pub number_of : Refusal → ℕ
number_of BadShape = 7
number_of BadSigns = 17
number_of BadIds = 10
number_of NoRoom = 11

unfoldable pub answer_of : Result Code.Words Refusal → List ℕ → Answer
answer_of (Ok w) out = accepted w.words w.constants w.next out
answer_of (Err r) out = refused (number_of r) out

-- the words stand at the room's start and the rest of the room is as it was; of a refusal the whole room is
unfoldable pub placed : Written → List ℕ → Answer
placed (Words ws constants next) out = accepted (length ws) constants next (ws ++ drop (length ws) out)
placed (Refused number) out = refused number out

unfoldable pub answer : List ℕ → ℕ → List ℕ → List ℕ → Answer
answer strip bound table out = placed (written strip bound table (length out)) out
