use Rattle.translation.specs.Arms.{shr}
use Rattle.translation.proofs.Follow.{by_call, by-ret}
use Rattle.translation.proofs.writer.Writer.shr.Goals as goal

pub returns : goal.returns
unfolding shr
returns c = by_call c.r_a-a.ensures (by_call c.src_b-b.ensures (rw (← c.bit.ensures) (by_call c.reverse_if-a.ensures (rw (← c.bit-2.ensures) (rw (← c.bit-3.ensures) (by_call c.shift-v.ensures (by_call c.set_d.ensures by-ret)))))))
