use Rattle.translation.specs.Arms.{lop3_arm}
use Rattle.translation.proofs.Follow.{by_call, by-ret}
use Rattle.translation.proofs.writer.Writer.lop3_arm.Goals as goal

pub returns : goal.returns
unfolding lop3_arm
returns c = by_call c.r_a-a.ensures (by_call c.src_b-b.ensures (by_call c.r_c-c.ensures (rw (← c.lop3_table.ensures) (by_call c.lop3-v.ensures (by_call c.set_d.ensures by-ret)))))
