-- What #105 says of the words: reading them ends as evaluation does where 9 isn't met, 8 standing for an undefined value at the same store, branch
-- or address.
use Rattle.std.specs.Prelude.{Ok, Err}
use Rattle.evaluation.specs.Machine.{Outcome}
use Rattle.std.specs.Prelude.{◌≡◌, ℕ, cond, List, [], ◌∷◌}
use Rattle.strip.specs.declared.reader.Entry.{Entry}
use Rattle.strip.specs.Shape.{is_open}
use Rattle.evaluation.specs.declared.state.State.{State}
use Rattle.evaluation.specs.declared.machine.Refusal.TheVariants.{BadShape, UndefinedValue, NoConstant}
use Rattle.evaluation.specs.declared.machine.Evaluated.{Evaluated}
use Rattle.evaluation.specs.Machine.{is_done, outcome_of, taken_effect, applied, begun}
use Rattle.evaluation.specs.Machine as Eval
use Rattle.spirv.specs.Instr.{Instr}
use Rattle.spirv.specs.Reading.{Answer, Ended, Stopped, Lacking}
use Rattle.spirv.specs.Writer.{Given, Midway, body_from, stepped}

abbrev pub after_first : List Instr → List Instr
after_first [] = []
after_first (i ∷ is) = is

-- from an entry's deciding instruction on: its OpStore or OpAccessChain, and of an open the OpBranchConditional, which stands after the merge
abbrev pub deciding : Entry → List Instr → List Instr
deciding e is = cond (is_open e) (after_first is) is

-- the instructions from that of the entry on at which evaluation is refused
unfoldable pub stop_of : Given → List ℕ → Midway → Eval.Midway → List Entry → List Instr
stop_of g cs w m [] = []
stop_of g cs w m (e ∷ es) =
    cond (is_done (outcome_of (taken_effect m e cs))) (stop_of g cs (stepped g w e) (applied m (taken_effect m e cs)) es) (deciding e (body_from g w (e ∷ es)))

-- The reading's answer beside the outcome and state of an evaluation that is refused, if it is, at the entry of the instructions `here`. Entries are
-- refused with 8 and 9 alone.
abbrev pub AgreeOn : Outcome → State → List Instr → Answer → Type 0
AgreeOn (Ok u) s here a = a ≡ Ended s
AgreeOn (Err BadShape) s here a = ⊥
AgreeOn (Err UndefinedValue) s here a = a ≡ Stopped s here
AgreeOn (Err (NoConstant slot vec comp)) s here a = a ≡ Lacking s here slot vec comp

abbrev pub Agree : Answer → Evaluated → List Instr → Type 0
Agree a r here = AgreeOn r.outcome r.state here a

-- and beside an evaluation that hands the starting state back where it is refused
abbrev pub EndsOn : Outcome → State → Answer → Type 0
EndsOn (Ok u) s a = a ≡ Ended s
EndsOn (Err BadShape) s a = ⊥
EndsOn (Err UndefinedValue) s a = (t : State) × (here : List Instr) × (a ≡ Stopped t here)
EndsOn (Err (NoConstant slot vec comp)) s a = (t : State) × (here : List Instr) × (a ≡ Lacking t here slot vec comp)

abbrev pub EndsAs : Answer → Evaluated → Type 0
EndsAs a r = EndsOn r.outcome r.state a
