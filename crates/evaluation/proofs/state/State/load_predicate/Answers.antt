use Rattle.evaluation.specs.State.{loaded}
use Rattle.std.proofs.Common.{rules, le-ltb, lt-ltb}
use Rattle.evaluation.proofs.state.State.load_predicate.Goals as goal

pub bounds-preds-i : goal.bounds-preds-i
unfolding loaded
bounds-preds-i c = search rules

pub returns-then-i-lt7 : goal.returns-then-i-lt7
unfolding loaded
returns-then-i-lt7 c = simp (lt-ltb _ _ c.if-i-lt7.true)

pub returns : goal.returns
unfolding loaded
returns c = simp (le-ltb _ _ c.if-i-lt7.false)
