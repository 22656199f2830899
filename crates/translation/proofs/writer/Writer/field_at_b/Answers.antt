use Rattle.translation.specs.Arms.{field_at_b}
use Rattle.translation.proofs.Follow.{by_call, by-op, by-ret}
use Rattle.translation.proofs.writer.Writer.field_at_b.Goals as goal

pub returns : goal.returns
unfolding field_at_b
returns c = by-op c.u-ff.ensures (by-op c.two-pos.ensures (by-op c.u-eight.ensures (by-op c.two-len.ensures (by-op c.two-len-2.ensures (by-op c.u-c32.ensures (by-op c.two-pos-2.ensures (by-op c.two-room.ensures (by-op c.two-len-3.ensures (by_call c.use_field.ensures by-ret)))))))))
