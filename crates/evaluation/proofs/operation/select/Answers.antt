use Rattle.evaluation.specs.Value.{chosen}
use Rattle.evaluation.proofs.Cases.{no_truth, yes-truth}
use Rattle.evaluation.proofs.operation.select.Goals as goal

pub returns-then-c : goal.returns-then-c
unfolding chosen
returns-then-c c = rw (c.in-Truth.is, yes-truth, c.if-c.true)

pub returns-else-c : goal.returns-else-c
unfolding chosen
returns-else-c c = rw (c.in-Truth.is, yes-truth, c.if-c.false)

pub returns-in_default : goal.returns-in_default
unfolding chosen
returns-in_default c = rw (no_truth _ _ _ c.in_default.not-Truth)
