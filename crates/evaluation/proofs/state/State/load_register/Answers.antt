use Rattle.evaluation.specs.State.{loaded}
use Rattle.std.proofs.Common.{rules, le-ltb, lt-ltb}
use Rattle.evaluation.proofs.state.State.load_register.Goals as goal

pub offset_bounds-regs-i : goal.offset_bounds-regs-i
unfolding loaded
offset_bounds-regs-i c = search rules

pub bounds-regs-i : goal.bounds-regs-i
unfolding loaded
bounds-regs-i c = search rules

pub returns-then-i-lt255 : goal.returns-then-i-lt255
unfolding loaded
returns-then-i-lt255 c = simp (lt-ltb _ _ c.if-i-lt255.true)

pub returns : goal.returns
unfolding loaded
returns c = simp (le-ltb _ _ c.if-i-lt255.false)
