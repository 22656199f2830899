use Rattle.translation.specs.Arms.{mov32i}
use Rattle.translation.proofs.Follow.{by_call, by-op, by-ret}
use Rattle.translation.proofs.writer.Writer.mov32i.Goals as goal

pub returns : goal.returns
unfolding mov32i
returns c = rw (← c.imm32.ensures) (by-op c.u-v.ensures (by_call c.set_d.ensures by-ret))
