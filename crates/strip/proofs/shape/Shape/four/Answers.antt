use mathlib.Core.Path.{◌≡◌}
use mathlib.Core.Bool.{◌&&◌, cond}
use Prim.Native.Nat.{◌<◌}
use lib.Dec.{eqb}
use Rattle.std.proofs.Common.{rules}
use Rattle.strip.specs.Pass.{bit_at, number_of}
use Rattle.strip.proofs.EntryStep.{step-four}
use Rattle.strip.proofs.shape.Shape.four.Goals as goal

pub returns : goal.returns
returns c =
    let h : c.args.k < 256 = search rules in
    let mask : c.if-k-eq11.mask.0 ≡ cond (eqb c.args.k 11) c.args.self.slots c.args.self.words = search rules in
    let kind : number_of c.if-k-eq11.mask.1 ≡ cond (eqb c.args.k 11) 4 1 = search rules in
    let right : c.if-has-3.right ≡ bit_at c.if-k-eq11.mask.0 c.args.a && (bit_at c.args.self.words c.args.b && (bit_at c.args.self.words c.args.c && bit_at c.args.self.words c.args.d)) = search rules in
    rw (step-four _ _ h c.requires.1, ← mask, ← right, ← kind) c.value_if.ensures
