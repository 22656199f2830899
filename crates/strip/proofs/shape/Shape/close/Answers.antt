use Rattle.strip.specs.Pass.{closed}
use Rattle.strip.proofs.shape.Shape.close.Goals as goal

pub returns-then-self : goal.returns-then-self
unfolding closed
returns-then-self c = rw (c.if-self.true, c.one_or_none.ensures)

pub returns : goal.returns
unfolding closed
returns c = rw c.if-self.false c.refused.ensures
