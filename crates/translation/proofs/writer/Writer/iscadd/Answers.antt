use Rattle.translation.specs.Arms.{iscadd}
use Rattle.translation.proofs.Follow.{by_call, by-op, by-ret}
use Rattle.translation.proofs.writer.Writer.iscadd.Goals as goal

pub returns : goal.returns
unfolding iscadd
returns c = by_call c.r_a-a.ensures (rw (← c.bit.ensures) (by_call c.ineg-a.ensures (by_call c.src_b-b.ensures (rw (← c.bit-2.ensures) (by_call c.ineg-b.ensures (rw (← c.bits.ensures.0) (by-op c.u-sh.ensures (by-op c.two-a.ensures (by-op c.two-v.ensures (by_call c.set_d.ensures by-ret))))))))))
