use mathlib.Core.Path.{◌≡◌}
use Prim.Native.Nat.{◌<◌}
use native.Mathlib.Omega.{arith}
use borrow.Author.Tests.{ne_eqb}
use Rattle.strip.proofs.EntryStep.{step-bare, step-close, step_end}
use Rattle.std.proofs.Common.{rules}
use Rattle.strip.proofs.shape.Shape.bare.Goals as goal

pub returns-in-255 : goal.returns-in-255
returns-in-255 c = rw (c.in-255.is, step_end) c.end.ensures

pub returns-in-101 : goal.returns-in-101
returns-in-101 c = rw (c.in-101.is, step-close) c.close.ensures

pub returns-in_default : goal.returns-in_default
returns-in_default c = let h : c.args.k < 256 = search rules in rw (step-bare _ _ h c.requires.1 (ne_eqb c.args.k 255 (λ (e : c.args.k ≡ 255). omega arith)) (ne_eqb c.args.k 101 (λ (e : c.args.k ≡ 101). omega arith))) c.value.ensures
