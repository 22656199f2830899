use mathlib.Core.Path.{refl}
use Rattle.translation.specs.Emit.{carry_added}
use Rattle.translation.proofs.writer.Writer.add_carry.Goals as goal

pub returns-in-None : goal.returns-in-None
unfolding carry_added
returns-in-None c = rw c.in-None.is refl

pub returns-in-Some : goal.returns-in-Some
unfolding carry_added
returns-in-Some c = rw (c.in-Some.is, ← c.two-v2.ensures.is, ← c.two-c2.ensures.is, ← c.two-c.ensures.is) refl
