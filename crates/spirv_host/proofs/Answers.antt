-- What `mehkura_to_spirv` answers, case by case.
use mathlib.Core.Path.{◌≡◌, ap, ◌∙◌, sym}
use mathlib.Core.List.{List}
use Prim.Native.Nat.{ℕ}
use Rattle.std.specs.Prelude.{Result}
use Rattle.spirv.specs.declared.answer.Refusal.{Refusal}
use Rattle.spirv.specs.declared.answer.Refusal.TheVariants.{BadShape, BadSigns, BadIds, NoRoom}
use Rattle.spirv.specs.declared.answer.Words.{Words}
use Rattle.spirv.specs.Answer.{Answer, refused, number_of, answer_of, answer}
use Rattle.spirv_host.specs.Written.{returns, handed_back, spirv_answer}

pub told : (strip : List ℕ) (bound : ℕ) (table out : List ℕ) (written constants next : ℕ) (r o : Result Words Refusal) (out' : List ℕ) → r ≡ o → answer_of r out' ≡ answer strip bound table out
    → handed_back (answer_of o out') written constants next ≡ spirv_answer strip bound table out written constants next
unfolding spirv_answer
told strip bound table out written constants next r o out' e q = ap (λ (a : Answer). handed_back a written constants next) (ap (λ (x : Result Words Refusal). answer_of x out') (sym e) ∙ q)

-- a refusal's number is not 0: the three numbers stay
pub kept : (r : Refusal) (n written constants next : ℕ) (out : List ℕ) → n ≡ number_of r → returns n written constants next out ≡ handed_back (refused (number_of r) out) written constants next
kept BadShape n written constants next out e = rw e
kept BadSigns n written constants next out e = rw e
kept BadIds n written constants next out e = rw e
kept NoRoom n written constants next out e = rw e
