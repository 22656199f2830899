-- A state as the exported functions take it: 255 words, and 11 bytes for the predicates and the flags.
use Rattle.std.specs.Prelude.{ℕ, cond, ◌&&◌, List, ◌++◌, map, length, eqb, Result, Ok, Err}
use Rattle.strip.specs.declared.format.Layout.{Layout}
use Rattle.strip.specs.declared.format.UnknownLayout.{UnknownLayout}
use Rattle.strip.specs.Entry.{ref_length}
use Rattle.evaluation.specs.declared.state.State.{State}
use Rattle.evaluation.specs.Machine.{evaluation}
use Rattle.evaluation.specs.Machine as Evaluation
use Rattle.truth_bytes.specs.Truths.{truth_byte, truths_at}

-- the state that two lists hold
unfoldable pub state_in : List ℕ → List ℕ → State
state_in registers truths = record { regs = registers; preds = truths_at 7 0 truths; flags = truths_at 4 7 truths }

-- and the truths of a state, as bytes
unfoldable pub truth_bytes : State → List ℕ
truth_bytes s = map truth_byte (s.preds ++ s.flags)

-- the number that is returned, and what the two lists hold then, and slot, vec and comp
pub record Answer : Type 0 where
  pub number : ℕ
  pub registers : List ℕ
  pub truths : List ℕ
  pub fault : List ℕ

abbrev pub returns : ℕ → List ℕ → List ℕ → List ℕ → Answer
returns n rs ts fault = record { number = n; registers = rs; truths = ts; fault = fault }

-- the number of the evaluation, and the state after it where that is 0; a refusal leaves both lists as they were; 9 alone writes slot, vec and comp
unfoldable pub handed_back : Evaluation.Answer → List ℕ → List ℕ → List ℕ → Answer
handed_back a rs ts fault =
    cond (eqb a.number 0) (returns a.number a.state.regs (truth_bytes a.state) fault)
    (returns a.number rs ts (cond (eqb a.number 9) a.carried fault))

-- a number that names no layout: no run is well-formed
unfoldable pub evaluate_in : Result Layout UnknownLayout → List ℕ → List ℕ → List ℕ → List ℕ → List ℕ → Answer
evaluate_in (Ok l) run rs ts constants fault = handed_back (evaluation (ref_length l) run (state_in rs ts) constants) rs ts fault
evaluate_in (Err e) run rs ts constants fault = returns 7 rs ts fault

-- lists of another length hold no state
unfoldable pub evaluate_answer : Result Layout UnknownLayout → List ℕ → List ℕ → List ℕ → List ℕ → List ℕ → Answer
evaluate_answer layout run rs ts constants fault = cond (eqb (length rs) 255 && eqb (length ts) 11) (evaluate_in layout run rs ts constants fault) (returns 7 rs ts fault)
