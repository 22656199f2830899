use Rattle.std.proofs.Common.{eq-eqb, ne_eqb}
use Rattle.evaluation.specs.Value.{three}
use Rattle.evaluation.proofs.operation.three.Goals as goal

pub returns-then-k-eq90 : goal.returns-then-k-eq90
unfolding three
returns-then-k-eq90 c = rw (eq-eqb _ _ c.if-k-eq90.true) c.select.ensures

pub returns-else-k-eq90 : goal.returns-else-k-eq90
unfolding three
returns-else-k-eq90 c = rw (ne_eqb _ _ c.if-k-eq90.false) c.extract.ensures
