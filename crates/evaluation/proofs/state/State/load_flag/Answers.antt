use Rattle.evaluation.specs.State.{loaded}
use Rattle.std.proofs.Common.{rules, le-ltb, lt-ltb}
use Rattle.evaluation.proofs.state.State.load_flag.Goals as goal

pub bounds-flags-i : goal.bounds-flags-i
unfolding loaded
bounds-flags-i c = search rules

pub returns-then-i-lt4 : goal.returns-then-i-lt4
unfolding loaded
returns-then-i-lt4 c = simp (lt-ltb _ _ c.if-i-lt4.true)

pub returns : goal.returns
unfolding loaded
returns c = simp (le-ltb _ _ c.if-i-lt4.false)
