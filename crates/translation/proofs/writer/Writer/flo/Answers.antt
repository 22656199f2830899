use Rattle.translation.specs.Arms.{flo}
use Rattle.translation.proofs.Follow.{by_call, by-ret}
use Rattle.translation.proofs.writer.Writer.flo.Goals as goal

pub returns : goal.returns
unfolding flo
returns c = by_call c.src_b-b.ensures (rw (← c.bit.ensures) (by_call c.inot-b.ensures (rw (← c.bit-2.ensures) (by_call c.find_msb-v.ensures (rw (← c.bit-3.ensures) (by_call c.flo_shift-v.ensures (by_call c.set_d.ensures by-ret)))))))
