-- What the code does for a whole strip, and what contracts say of it. `proofs/Whole.antt` has that it is the definition.
use Rattle.std.specs.Prelude.{◌≡◌, cond, List, [], ℕ, eqb, get_or, Result, Ok, Err, MatchResult}
use Rattle.std.proofs.Math.Option.{Option, none, some}
use Rattle.strip.specs.declared.reader.Entry.TheVariants as Entry
use Rattle.translation.specs.Insn.{Insn}
use Rattle.translation.specs.Helpers.{p}
use Rattle.translation.specs.Arms.{arm_of}
use Rattle.translation.specs.Emit.{Buffer, wrote, emits}
use Rattle.translation.specs.Strip.{Decision, guard, guard_not, never_runs, insn_of, first_refusal}
use Rattle.translation.specs.declared.answer.Translated as D
use Rattle.translation.specs.declared.kind.Kind.{Kind}
use Rattle.translation.specs.declared.answer.Refusal.{Refusal}
use Rattle.translation.specs.Kinds.{number_of_kind}

-- after the arm: the end; in a block, the close before it
unfoldable pub writes : ℕ → Insn → Buffer → Buffer
writes k i b =
    cond (never_runs i) (wrote (Entry.Bare 255) b)
    (cond (eqb (guard i) 7) (wrote (Entry.Bare 255) (emits (arm_of k i) [] b).buffer)
    (wrote (Entry.Bare 255)
    (wrote (Entry.Bare 101)
    (emits (arm_of k i) [] (wrote (Entry.One 100 (emits (p (guard i) (guard_not i)) [] b).number) (emits (p (guard i) (guard_not i)) [] b).buffer)).buffer)))

-- the refusal that holds, if one does
abbrev pub refusal_in : {T : Type 0} → Result T Refusal → Option Refusal
refusal_in (Ok x) = none
refusal_in (Err r) = some r

-- the kind and the instruction of a record's bytes, or the first refusal of 1 to 5 that holds
abbrev pub Reads : List ℕ → Result (Kind × Insn) Refusal → Type 0
Reads l r = MatchResult r (λ p. (first_refusal l ≡ none) × (number_of_kind p.0 ≡ get_or l 0 0) × (p.1 ≡ insn_of l)) (λ e. first_refusal l ≡ some e)

-- what the entry point hands back and what it leaves in the lent lists
abbrev pub decision_of : D.Translated → List ℕ → Decision
decision_of t out = record { outcome = t.outcome; marks = t.cbuf_used; out = out }
