use Rattle.strip.specs.Pass.{ended}
use Rattle.strip.proofs.shape.Shape.end.Goals as goal

pub returns-then-self : goal.returns-then-self
unfolding ended
returns-then-self c = rw c.if-self.true c.refused.ensures

pub returns : goal.returns
unfolding ended
returns c = rw c.if-self.false c.new.ensures
