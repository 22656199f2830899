use Rattle.translation.specs.Arms.{lea}
use Rattle.translation.proofs.Follow.{by_call, by-op, by-ret}
use Rattle.translation.proofs.writer.Writer.lea.Goals as goal

pub returns : goal.returns
unfolding lea
returns c = by_call c.r_a-a.ensures (by_call c.lea_b-b.ensures (rw (← c.lea_negates.ensures) (by_call c.ineg-a.ensures (by_call c.lea_word-x.ensures (by-op c.two-v.ensures (by_call c.set_d.ensures by-ret))))))
