use Rattle.translation.specs.Arms.{popc}
use Rattle.translation.proofs.Follow.{by_call, by-op, by-ret}
use Rattle.translation.proofs.writer.Writer.popc.Goals as goal

pub returns : goal.returns
unfolding popc
returns c = by_call c.src_b-b.ensures (rw (← c.bit.ensures) (by_call c.inot-b.ensures (by-op c.one-v.ensures (by_call c.set_d.ensures by-ret))))
