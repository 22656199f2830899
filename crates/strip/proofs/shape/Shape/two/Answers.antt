use Prim.Native.Nat.{◌<◌}
use borrow.Author.Tests.{lt-ltb, le-ltb}
use Rattle.strip.proofs.EntryStep.{step-binary, step-compare, step-logic}
use borrow.Author.Rules.{rules}
use Rattle.strip.proofs.shape.Shape.two.Goals as goal

pub returns-then-k-lt60 : goal.returns-then-k-lt60
returns-then-k-lt60 c = let h : c.args.k < 256 = search rules in rw (step-binary _ _ h c.requires.1 (lt-ltb _ _ c.if-k-lt60.true)) c.binary.ensures

pub returns-then-k-lt80 : goal.returns-then-k-lt80
returns-then-k-lt80 c = let h : c.args.k < 256 = search rules in rw (step-compare _ _ h c.requires.1 (le-ltb _ _ c.if-k-lt60.false) (lt-ltb _ _ c.if-k-lt80.true)) c.compare.ensures

pub returns : goal.returns
returns c = let h : c.args.k < 256 = search rules in rw (step-logic _ _ h c.requires.1 (le-ltb _ _ c.if-k-lt60.false) (le-ltb _ _ c.if-k-lt80.false)) c.logic.ensures
