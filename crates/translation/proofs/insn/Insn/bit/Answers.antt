use Rattle.translation.specs.Insn.{bit}
use Rattle.translation.proofs.insn.Insn.bit.Goals as goal

pub returns : goal.returns
unfolding bit
returns c = rw c.bits.ensures.0
