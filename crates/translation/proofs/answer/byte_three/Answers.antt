use borrow.Author.Tests.{eq-eqb, ne_eqb}
use Rattle.translation.specs.Strip.{byte_three}
use Rattle.translation.proofs.KindNumbers.{not-i2i}
use Rattle.translation.proofs.answer.byte_three.Goals as goal

pub returns-then-bits-eq1 : goal.returns-then-bits-eq1
unfolding byte_three
returns-then-bits-eq1 c = rw (c.in-I2i.is, ← c.bits.ensures.0, eq-eqb _ _ c.if-bits-eq1.true, ← c.bits-then-bits-eq1.ensures.0)

pub returns-else-bits-eq1 : goal.returns-else-bits-eq1
unfolding byte_three
returns-else-bits-eq1 c = rw (c.in-I2i.is, ← c.bits.ensures.0, ne_eqb _ _ c.if-bits-eq1.false)

pub returns-in_default : goal.returns-in_default
unfolding byte_three
returns-in_default c = rw (not-i2i c.args.k c.in_default.not-I2i)
