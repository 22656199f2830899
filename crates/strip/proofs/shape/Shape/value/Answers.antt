use Prim.Native.Nat.{◌<◌}
use native.Mathlib.Omega.{arith}
use Rattle.strip.specs.Pass.{placed, pushed}
use Rattle.strip.proofs.Digits.{bit_at}
use Rattle.strip.proofs.shape.Shape.value.Goals as goal
use Rattle.strip.proofs.shape.Shape.value.Goals.{in-Word, in-Truth, in-Slot, in-Address}

pub returns : goal.returns
unfolding placed pushed
returns c =
    let v : c.args.self.values < 64 = omega (arith, c.requires.left, c.requires.values) in
    elim c.match-kind.branch [
      | in-Word w ↦ rw (w.self-is, w.in-Word.is, bit_at _ v)
      | in-Truth w ↦ rw (w.self-is, w.in-Truth.is, bit_at _ v)
      | in-Slot w ↦ rw (w.self-is, w.in-Slot.is, bit_at _ v)
      | in-Address w ↦ rw (w.self-is, w.in-Address.is, bit_at _ v)
    ]
