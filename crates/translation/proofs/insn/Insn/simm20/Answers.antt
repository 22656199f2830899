use Rattle.translation.specs.Insn.{simm20}
use Rattle.translation.proofs.insn.Insn.simm20.Goals as goal

pub returns-then-bit : goal.returns-then-bit
unfolding simm20
returns-then-bit c = rw (← c.bit.ensures, c.if-bit.true, c.bits.ensures.0)

pub returns-else-bit : goal.returns-else-bit
unfolding simm20
returns-else-bit c = rw (← c.bit.ensures, c.if-bit.false, c.bits-else-bit.ensures.0)
