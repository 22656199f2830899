use mathlib.Core.Bool.{xor}
use Rattle.std.proofs.Common.{ne_eqb}
use Rattle.evaluation.specs.Word.{logic_truth}
use Rattle.evaluation.proofs.word.logic_truth.Goals as goal

pub returns-in-81 : goal.returns-in-81
unfolding logic_truth xor
returns-in-81 c = rw c.in-81.is

pub returns-in-82 : goal.returns-in-82
unfolding logic_truth xor
returns-in-82 c = rw c.in-82.is

pub returns-in_default : goal.returns-in_default
unfolding logic_truth xor
returns-in_default c = simp (ne_eqb _ _ c.in_default.in_default-own.rest.1, ne_eqb _ _ c.in_default.in_default-own.rest.0.1)
