use Rattle.std.proofs.Common.{arith}
use Rattle.std.proofs.lemmas.List.{take_more_set}
use Rattle.evaluation.proofs.machine.Machine.put.Goals as goal

pub bounds-values-self : goal.bounds-values-self
bounds-values-self c = omega (arith, c.requires.left, c.requires.values)

pub returns-clause-values : goal.returns-clause-values
returns-clause-values c = take_more_set _ _ _ (omega (arith, c.requires.left, c.requires.values))
