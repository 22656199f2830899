use Rattle.translation.specs.Arms.{imnmx}
use Rattle.translation.proofs.Follow.{by_call, by-op, by-ret}
use Rattle.translation.proofs.writer.Writer.imnmx.Goals as goal

pub returns : goal.returns
unfolding imnmx
returns c = rw (← c.bit-bit48.ensures) (by_call c.r_a-a.ensures (by_call c.src_b-b.ensures (by_call c.predicate_at_39-c.ensures (by_call c.minimum-lo.ensures (by_call c.maximum-hi.ensures (by-op c.three-v.ensures (by_call c.set_d.ensures by-ret)))))))
