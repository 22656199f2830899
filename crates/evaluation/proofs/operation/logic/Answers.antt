use Rattle.std.proofs.Common.{ap}
use Rattle.evaluation.specs.declared.value.Value.TheVariants.{Truth}
use Rattle.evaluation.specs.Value.{logic}
use Rattle.evaluation.proofs.Cases.{no_truth, yes-truth}
use Rattle.evaluation.proofs.operation.logic.Goals as goal

pub returns-in-Truth-Truth : goal.returns-in-Truth-Truth
unfolding logic
returns-in-Truth-Truth c = rw (c.in-Truth-Truth.is-0, yes-truth, c.in-Truth-Truth.is-1, yes-truth) (ap Truth c.logic_truth.ensures)

pub returns-in_default : goal.returns-in_default
unfolding logic
returns-in_default c = rw (c.in_default.is-0, yes-truth, no_truth _ _ _ c.in_default.not-Truth-1)

pub returns-in_default-2 : goal.returns-in_default-2
unfolding logic
returns-in_default-2 c = rw (no_truth _ _ _ c.in_default.not-Truth-0)
