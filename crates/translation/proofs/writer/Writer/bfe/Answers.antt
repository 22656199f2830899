use Rattle.translation.specs.Arms.{bfe}
use Rattle.translation.proofs.Follow.{by_call, by-ret}
use Rattle.translation.proofs.writer.Writer.bfe.Goals as goal

pub returns : goal.returns
unfolding bfe
returns c = by_call c.r_a-a.ensures (by_call c.src_b-b.ensures (rw (← c.bit.ensures) (by_call c.reverse_if-a.ensures (rw (← c.bit-2.ensures) (by_call c.field_at_b-v.ensures (by_call c.set_d.ensures by-ret))))))
