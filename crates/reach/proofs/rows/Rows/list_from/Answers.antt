use mathlib.Core.Path.{◌∙◌}
use native.Mathlib.Omega.{arith}
use Rattle.reach.specs.Rows.{listed_at}
use Rattle.reach.proofs.Scan.{spreads-first, spreads-next, spreads-value, spreads-done}
use Rattle.reach.proofs.rows.Rows.list_from.Goals as goal

pub loop-i-init : goal.loop-i-init
loop-i-init c = spreads-first _ _ _ _ (λ j k. c.next.ensures.1 _ (omega arith) (omega arith))

pub loop-i-preserved : goal.loop-i-preserved
unfolding listed_at
loop-i-preserved c = let l = c.loop-i in spreads-next _ _ _ _ _ l.invariant c.loop-i-test.true _ (c.is_listed.ensures ∙ spreads-value _ _ _ _ _ l.invariant c.loop-i-test.true) _ (omega (arith, c.next-in-loop-i.ensures.0)) (λ j a b. c.next-in-loop-i.ensures.1 _ (omega arith) (omega arith))

pub returns : goal.returns
returns c = spreads-done _ _ _ _ _ c.loop-i.invariant c.loop-i-test.false
