use mathlib.Core.Path.{refl}
use Rattle.strip.specs.Pass.{placed}
use Rattle.strip.proofs.shape.Shape.no_value.Goals as goal

pub overflow_sub-self : goal.overflow_sub-self
unfolding placed
overflow_sub-self c = c.requires.left

pub returns : goal.returns
unfolding placed
returns c = refl
