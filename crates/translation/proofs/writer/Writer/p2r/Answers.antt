use Rattle.translation.specs.Arms.{p2r}
use Rattle.translation.proofs.Follow.{by_call, by-op, by-ret}
use Rattle.translation.proofs.writer.Writer.p2r.Goals as goal

pub returns : goal.returns
unfolding p2r
returns c = by_call c.r_a-a.ensures (by_call c.note_unless-a.ensures (rw (← c.p2r_keep.ensures) (by-op c.u-keep.ensures (by-op c.two-v.ensures (by_call c.p2r_turns-v.ensures (by_call c.set_d.ensures by-ret))))))
