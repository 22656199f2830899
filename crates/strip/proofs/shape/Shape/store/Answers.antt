use mathlib.Core.Path.{◌≡◌}
use mathlib.Core.Bool.{◌&&◌, cond}
use Prim.Native.Nat.{◌<◌}
use lib.Dec.{eqb, ltb}
use Rattle.std.proofs.Common.{rules}
use Rattle.strip.specs.Pass.{bit_at}
use Rattle.strip.proofs.EntryStep.{step-store}
use Rattle.strip.proofs.shape.Shape.store.Goals as goal

pub returns : goal.returns
returns c =
    let h : c.args.k < 256 = search rules in
    let mask : c.if-k-eq7.mask ≡ cond (eqb c.args.k 7) c.args.self.words c.args.self.truths = search rules in
    let right : c.if-n-store_limit.no_value_if ≡ ltb c.args.n c.store_limit.result && bit_at c.if-k-eq7.mask c.args.r = search rules in
    rw (step-store _ _ h c.requires.1, ← c.store_limit.ensures, ← mask, ← right) c.no_value_if.ensures
