use Rattle.evaluation.specs.Value.{negated}
use Rattle.evaluation.proofs.Cases.{no_truth, yes-truth}
use Rattle.evaluation.proofs.operation.negate.Goals as goal

pub returns-in-Truth : goal.returns-in-Truth
unfolding negated
returns-in-Truth c = rw (c.in-Truth.is, yes-truth)

pub returns-in_default : goal.returns-in_default
unfolding negated
returns-in_default c = rw (no_truth _ _ _ c.in_default.not-Truth)
