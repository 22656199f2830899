use mathlib.Core.Path.{◌≡◌, refl}
use mathlib.Core.Bool.{Bool, true, false}
use mir.Val.{bool_byte}
use native.Mathlib.Omega.{arith}
use native.Mathlib.Numerals.{add-one}
use Rattle.truth_bytes.specs.Truths.{truth_byte}
use Rattle.truth_bytes.proofs.Lists.{sets-next}
use Rattle.truth_bytes.proofs.write_truths.Goals as goal

one_or_zero : (t : Bool) → bool_byte t ≡ truth_byte t
one_or_zero true = refl
one_or_zero false = refl

pub loop-i-preserved : goal.loop-i-preserved
loop-i-preserved c = let l = c.loop-i in let a = c.args in
    rw (add-one, c.from.ensures, one_or_zero, l.invariant) (sets-next truth_byte a.from.now a.to.now a.at l.i false (omega arith))
