use mathlib.Core.Path.{◌≡◌}
use mathlib.Core.Bool.{◌&&◌, cond}
use Prim.Native.Nat.{◌<◌}
use lib.Dec.{eqb}
use Rattle.std.proofs.Common.{rules}
use Rattle.strip.specs.Pass.{bit_at}
use Rattle.strip.proofs.EntryStep.{step-three}
use Rattle.strip.proofs.shape.Shape.three.Goals as goal

pub returns : goal.returns
returns c =
    let h : c.args.k < 256 = search rules in
    let mask : c.if-k-eq90.mask ≡ cond (eqb c.args.k 90) c.args.self.truths c.args.self.words = search rules in
    let right : c.if-has-2.right ≡ bit_at c.if-k-eq90.mask c.args.a && (bit_at c.args.self.words c.args.b && bit_at c.args.self.words c.args.c) = search rules in
    rw (step-three _ _ h c.requires.1, ← mask, ← right) c.value_if.ensures
