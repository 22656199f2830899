-- What `mehkura_convert` answers, case by case.
use Rattle.std.specs.Prelude.{Result, Ok, Err}
use mathlib.Core.Path.{◌≡◌, refl}
use mathlib.Core.List.{List}
use Prim.Native.Nat.{ℕ}
use Rattle.strip.specs.declared.format.Layout.{Layout}
use Rattle.strip.specs.declared.format.UnknownLayout.{UnknownLayout}
use Rattle.convert.specs.declared.Refusal.{Refusal}
use Rattle.convert.specs.declared.Refusal.TheVariants.{BadShape, NoRoom}
use Rattle.convert.specs.Convert.{refusal_number, number_of, length_of, answer_of, conversion}
use Rattle.convert_host.specs.Converted.{returns, handed_back, convert_answer}

module _ (layout : Result Layout UnknownLayout) (run out : List ℕ) (written : ℕ) where
  pub no-layout : {e : UnknownLayout} → layout ≡ Err e → returns 7 written out ≡ convert_answer layout run out written
  unfolding convert_answer
  no-layout u = rw u

  pub told : (l : Layout) (r o : Result ℕ Refusal) (out' : List ℕ) → layout ≡ Ok l → r ≡ o → answer_of r out' ≡ conversion l run out → handed_back (answer_of o out') written ≡ convert_answer layout run out written
  unfolding convert_answer
  told l r o out' k e q = rw (k, ← q, e) refl

  pub refused : (l : Layout) (r : Refusal) (o : Result ℕ Refusal) (out' : List ℕ) → layout ≡ Ok l → o ≡ Err r → answer_of o out' ≡ conversion l run out → returns (refusal_number r) written out' ≡ convert_answer layout run out written
  unfolding refusal_number number_of length_of
  refused l BadShape o out' k e q = told l o (Err BadShape) out' k e q
  refused l NoRoom o out' k e q = told l o (Err NoRoom) out' k e q
