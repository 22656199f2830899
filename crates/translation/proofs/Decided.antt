-- The answer tells what was decided: 01's number tells the case, so from the contract of `translate` on whoever asks may speak of either.
use mathlib.Core.Path.{◌≡◌, refl, ap, ◌∙◌, sym}
use mathlib.Core.List.{List}
use mathlib.Core.Option.{none, some}
use lib.ListN.{get_or}
use Prim.Native.Nat.{ℕ, zero, suc}
use Rattle.std.specs.Prelude.{Result, Ok, Err, IsErrAnd}
use Rattle.translation.specs.declared.kind.Kind.{Kind}
use Rattle.translation.specs.declared.answer.Refusal.{Refusal}
use Rattle.translation.specs.declared.answer.Refusal.TheVariants.{BadLength, UnknownKind, UnknownForm, SystemValueMov, ByteThree, NoRoom}
use Rattle.translation.specs.declared.answer.Translated.{Translated}
use Rattle.translation.specs.Strip.{Outcome, Decision, Answer, first_refusal, fitted, insn_of, refused, refusal_number, number_of, length_of, decision, answer_of, translation}
use Rattle.translation.specs.Insn.{Insn}
use Rattle.translation.specs.Kinds.{number_of_kind}
use Rattle.translation.specs.Whole.{decision_of}

-- the case of a number and a length
outcome_at : ℕ → ℕ → Outcome
outcome_at zero n = Ok n
outcome_at (suc zero) n = Err BadLength
outcome_at (suc (suc zero)) n = Err UnknownKind
outcome_at (suc (suc (suc zero))) n = Err UnknownForm
outcome_at (suc (suc (suc (suc zero)))) n = Err SystemValueMov
outcome_at (suc (suc (suc (suc (suc zero))))) n = Err ByteThree
outcome_at (suc (suc (suc (suc (suc (suc k)))))) n = Err NoRoom

outcome-back : (o : Outcome) → outcome_at (number_of o) (length_of o) ≡ o
unfolding outcome_at number_of length_of refusal_number
outcome-back (Ok n) = refl
outcome-back (Err BadLength) = refl
outcome-back (Err UnknownKind) = refl
outcome-back (Err UnknownForm) = refl
outcome-back (Err SystemValueMov) = refl
outcome-back (Err ByteThree) = refl
outcome-back (Err NoRoom) = refl

-- the decision of an answer
back : Answer → Decision
back a = record { outcome = outcome_at a.number a.length; marks = a.marks; out = a.out }

decision-back : (d : Decision) → back (answer_of d) ≡ d
unfolding back
decision-back d = ap {B = Decision} (λ (o : Outcome). record { outcome = o; marks = d.marks; out = d.out }) (outcome-back d.outcome)

pub answer-tells : (d e : Decision) → answer_of d ≡ answer_of e → d ≡ e
answer-tells d e h = sym (decision-back d) ∙ ap back h ∙ decision-back e

-- as the callers of `translate` ask it
pub decided : (t : Translated) (o l m out : List ℕ) → answer_of (decision_of t o) ≡ translation l m out → decision_of t o ≡ decision l m out
unfolding translation
decided t o l m out h = answer-tells (decision_of t o) (decision l m out) h

-- of what was read and refused, or read and translated
pub refused-decision : (l m out : List ℕ) (r : Refusal) → first_refusal l ≡ some r → refused r m out ≡ decision l m out
unfolding decision
refused-decision l m out r h = rw h

pub fitted-decision : (l m out : List ℕ) (k : Kind) (i : Insn) (d : Decision) → (first_refusal l ≡ none) × (number_of_kind k ≡ get_or l 0 0) × (i ≡ insn_of l)
    → d ≡ fitted (number_of_kind k) i m out → d ≡ decision l m out
unfolding decision
fitted-decision l m out k i d h e = rw h.0 (rw (h.1, h.2) at e)

-- a `?` hands on the error
pub error : {T E : Type 0} (r : Result T E) (e : E) → IsErrAnd r (λ x. x ≡ e) → r ≡ Err e
error (Ok x) e h = absurd h
error (Err x) e h = ap Err h
