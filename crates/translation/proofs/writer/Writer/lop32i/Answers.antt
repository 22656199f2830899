use Rattle.translation.specs.Arms.{lop32i}
use Rattle.translation.proofs.Follow.{by_call, by-op, by-ret}
use Rattle.translation.proofs.writer.Writer.lop32i.Goals as goal

pub returns : goal.returns
unfolding lop32i
returns c = rw (← c.imm32.ensures) (by-op c.u-b.ensures (by_call c.r_a-a.ensures (rw (← c.bit.ensures) (by_call c.inot-a.ensures (rw (← c.bit-2.ensures) (by_call c.inot-b.ensures (rw (← c.bits8.ensures) (by_call c.lop_word-v.ensures (rw (← c.bit-3.ensures) (by_call c.set_cc_if-v.ensures (by_call c.set_d.ensures by-ret)))))))))))
