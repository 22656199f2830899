use Prim.Native.Nat.{suc}
use mathlib.Core.Path.{refl, ◌∙◌}
use native.Mathlib.Omega.{arith}
use Rattle.reach.specs.Rows.{gathered}
use Rattle.reach.proofs.Scan.{gathered-to, gathered-past}
use Rattle.reach.proofs.rows.Rows.gather.Goals as goal

pub loop-i-init : goal.loop-i-init
unfolding gathered
loop-i-init c = gathered-to _ _ _ 0 _ _ refl (omega (arith, c.next.ensures.0)) (λ j a b. c.next.ensures.1 j (omega arith) b)

pub loop-i-preserved : goal.loop-i-preserved
unfolding gathered
loop-i-preserved c = let l = c.loop-i in let e = rw l.invariant at c.collect_row.ensures in gathered-to _ _ _ (suc l.i) _ _ e (omega (arith, c.next-in-loop-i.ensures.0)) (λ j a b. c.next-in-loop-i.ensures.1 j (omega arith) b)

pub returns : goal.returns
returns c = c.loop-i.invariant ∙ gathered-past _ _ _ _ c.loop-i-test.false
