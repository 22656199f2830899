-- Demand 1 of reach: a well-formed run is never refused, and its answer is the rule's, of its strips; a run that is not is answered 7, with the asked
-- cells. And the number tells the case, so the answer of a run is `reached`.
use mathlib.Core.Path.{◌≡◌, refl, ap, ◌∙◌, sym}
use mathlib.Core.Bool.{true, false}
use mathlib.Core.List.{List}
use mathlib.Core.Option.{some}
use Prim.Native.Nat.{ℕ, zero, suc}
use Rattle.strip.specs.Entry.{wide}
use Rattle.strip.specs.declared.reader.Entry.{Entry}
use Rattle.strip.specs.Shape.{decode, shape_ok}
use Rattle.reach.specs.declared.cells.Cells.{Cells}
use Rattle.std.specs.Prelude.{Result, Ok, Err}
use Rattle.reach.specs.declared.cells.Refusal.{Refusal}
use Rattle.reach.specs.declared.cells.Refusal.TheVariants.{BadShape}
use Rattle.reach.specs.declared.cells.Reached.{Reached}
use Rattle.reach.specs.Reach.{reach_strips, reached, number_of, Answer, answer_of, reach_answer}

pub well-formed-reached : (run : List ℕ) (ss : List (List Entry)) (c : Cells) → shape_ok wide run ≡ true → decode wide run ≡ some ss → reach_answer run c ≡ record { number = 0; cells = reach_strips ss c }
unfolding reach_answer reached number_of
well-formed-reached run ss c h d = rw (h, d)

pub ill-formed-refused : (run : List ℕ) (c : Cells) → shape_ok wide run ≡ false → reach_answer run c ≡ record { number = 7; cells = c }
unfolding reach_answer reached number_of
ill-formed-refused run c h = rw h

-- ---- the number tells the case

outcome_at : ℕ → Result (Unit {0}) Refusal
outcome_at zero = Ok tt
outcome_at (suc n) = Err BadShape

outcome-back : (o : Result (Unit {0}) Refusal) → outcome_at (number_of o) ≡ o
unfolding outcome_at number_of
outcome-back (Ok done) = refl
outcome-back (Err BadShape) = refl

back : Answer → Reached
back a = record { cells = a.cells; outcome = outcome_at a.number }

reached-back : (r : Reached) → back (answer_of r) ≡ r
unfolding back
reached-back r = ap {B = Reached} (λ (o : Result (Unit {0}) Refusal). record { cells = r.cells; outcome = o }) (outcome-back r.outcome)

-- as the callers of `reach` ask it
pub reached-is : (r : Reached) (run : List ℕ) (c : Cells) → answer_of r ≡ reach_answer run c → r ≡ reached run c
unfolding reach_answer
reached-is r run c h = sym (reached-back r) ∙ ap back h ∙ reached-back (reached run c)
