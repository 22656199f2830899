use Rattle.strip.specs.Pass.{opened}
use Rattle.strip.proofs.shape.Shape.opened.Goals as goal

pub returns-then-self : goal.returns-then-self
unfolding opened
returns-then-self c = rw c.if-self.true c.refused.ensures

pub overflow_sub-self : goal.overflow_sub-self
unfolding opened
overflow_sub-self c = c.requires.left

pub returns : goal.returns
unfolding opened
returns c = rw c.if-self.false
