-- What the converter answers a C caller.
use Rattle.std.specs.Prelude.{ℕ, cond, List, eqb, Result, Ok, Err}
use Rattle.strip.specs.declared.format.Layout.{Layout}
use Rattle.strip.specs.declared.format.UnknownLayout.{UnknownLayout}
use Rattle.convert.specs.Convert.{conversion}
use Rattle.convert.specs.Convert as Conversion

-- the number that is returned, and what the length and the room are then
pub record Answer : Type 0 where
  pub number : ℕ
  pub written : ℕ
  pub out : List ℕ

abbrev pub returns : ℕ → ℕ → List ℕ → Answer
returns number written out = record { number = number; written = written; out = out }

-- from what the converter answers: a refusal leaves the length as it was
abbrev pub handed_back : Conversion.Answer → ℕ → Answer
handed_back a written = returns a.number (cond (eqb a.number 0) a.length written) a.out

-- a number that names no layout: no run is well-formed
unfoldable pub convert_answer : Result Layout UnknownLayout → List ℕ → List ℕ → ℕ → Answer
convert_answer (Ok l) run out written = handed_back (conversion l run out) written
convert_answer (Err e) run out written = returns 7 written out
