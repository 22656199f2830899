-- What the writer of SPIR-V words answers a C caller.
use Rattle.std.specs.Prelude.{ℕ, cond, List, eqb}
use Rattle.spirv.specs.Answer.{answer}
use Rattle.spirv.specs.Answer as Spirv

-- the number that is returned, and what the three numbers and the room are then
pub record Answer : Type 0 where
  pub number : ℕ
  pub written : ℕ
  pub constants : ℕ
  pub next : ℕ
  pub out : List ℕ

abbrev pub returns : ℕ → ℕ → ℕ → ℕ → List ℕ → Answer
returns number written constants next out = record { number = number; written = written; constants = constants; next = next; out = out }

-- from what the writer answers: a refusal leaves the three numbers as they were
abbrev pub handed_back : Spirv.Answer → ℕ → ℕ → ℕ → Answer
handed_back a written constants next =
    returns a.number (cond (eqb a.number 0) a.length written) (cond (eqb a.number 0) a.constants constants) (cond (eqb a.number 0) a.next next) a.out

unfoldable pub spirv_answer : List ℕ → ℕ → List ℕ → List ℕ → ℕ → ℕ → ℕ → Answer
spirv_answer strip bound table out written constants next = handed_back (answer strip bound table out) written constants next
