-- Records interpreted one after another: one more, and the ends.
use Rattle.std.proofs.Common.{◌≡◌, ℕ, suc, ◌*◌, List, [], take, drop, refl, ne_eqb, arith}
use Rattle.evaluation.specs.declared.state.State.{State}
use Rattle.std.specs.Prelude.{Err}
use Rattle.evaluation.specs.declared.machine.Refusal.TheVariants.{BadShape, UndefinedValue, NoConstant}
use Rattle.evaluation.specs.Machine.{Answer, returns, refusal_told}
use Rattle.translation.specs.declared.answer.Refusal.TheVariants.{BadLength, UnknownKind, UnknownForm, SystemValueMov, ByteThree, NoRoom}
use Rattle.translation.specs.Strip.{refusal_number}
use Rattle.meaning.specs.declared.interpreter.Refusal.{Refusal}
use Rattle.meaning.specs.declared.interpreter.Refusal.TheVariants.{Record, Run}
use Rattle.meaning.specs.Interpret.{interpretation}
use Rattle.meaning.specs.Told.{refused_told, told}
use Rattle.works.specs.Steps.{step, up_to}

pub order-one : (n : ℕ) (l x : List ℕ) (s : State) → x ≡ take 18 (drop (18 * n) l) → step x (up_to n l s) ≡ up_to (suc n) l s
unfolding up_to
order-one n l x s e = rw e refl

pub order-none : (l : List ℕ) (s : State) → up_to 0 l s ≡ returns 0 [] s
unfolding up_to
order-none l s = refl

pub step-on : (l : List ℕ) (a : Answer) → a.number ≡ 0 → step l a ≡ interpretation l a.state []
unfolding step
step-on l a e = rw e refl

pub step_past : (l : List ℕ) (a : Answer) → (a.number ≡ 0 → ⊥) → step l a ≡ a
unfolding step
step_past l a h = rw (ne_eqb _ _ h) refl

-- a refusal's number is not 0
pub refused-number : (r : Refusal) → (told {T = Unit {0}} (Err r)).number ≡ 0 → ⊥
unfolding told refused_told refusal_number refusal_told
refused-number (Record BadLength) e = absurd (omega arith)
refused-number (Record UnknownKind) e = absurd (omega arith)
refused-number (Record UnknownForm) e = absurd (omega arith)
refused-number (Record SystemValueMov) e = absurd (omega arith)
refused-number (Record ByteThree) e = absurd (omega arith)
refused-number (Record NoRoom) e = absurd (omega arith)
refused-number (Run BadShape) e = absurd (omega arith)
refused-number (Run UndefinedValue) e = absurd (omega arith)
refused-number (Run (NoConstant slot vec comp)) e = absurd (omega arith)
