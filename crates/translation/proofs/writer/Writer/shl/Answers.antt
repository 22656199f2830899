use Rattle.translation.specs.Arms.{shl}
use Rattle.translation.proofs.Follow.{by_call, by-ret}
use Rattle.translation.proofs.writer.Writer.shl.Goals as goal

pub returns : goal.returns
unfolding shl
returns c = by_call c.r_a-a.ensures (by_call c.src_b-b.ensures (rw (← c.bit.ensures) (by_call c.shift-v.ensures (by_call c.set_d.ensures by-ret))))
