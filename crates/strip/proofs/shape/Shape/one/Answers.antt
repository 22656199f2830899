use mathlib.Core.Path.{◌≡◌}
use Prim.Native.Nat.{◌<◌}
use native.Mathlib.Omega.{arith}
use borrow.Author.Tests.{ne_eqb}
use Rattle.strip.proofs.EntryStep.{step-load-at, step-negate, step-open, step-unary}
use Rattle.std.proofs.Common.{rules}
use Rattle.strip.proofs.shape.Shape.one.Goals as goal

pub returns-in-12 : goal.returns-in-12
returns-in-12 c = rw (c.in-12.is, step-load-at) c.load_at.ensures

pub returns-in-80 : goal.returns-in-80
returns-in-80 c = rw (c.in-80.is, step-negate) c.negate.ensures

pub returns-in-100 : goal.returns-in-100
returns-in-100 c = rw (c.in-100.is, step-open) c.open.ensures

pub returns-in_default : goal.returns-in_default
returns-in_default c = let h : c.args.k < 256 = search rules in rw (step-unary _ _ h c.requires.1 (ne_eqb c.args.k 12 (λ (e : c.args.k ≡ 12). omega arith)) (ne_eqb c.args.k 80 (λ (e : c.args.k ≡ 80). omega arith)) (ne_eqb c.args.k 100 (λ (e : c.args.k ≡ 100). omega arith))) c.unary.ensures
