use Rattle.translation.specs.Arms.{vmnmx}
use Rattle.translation.proofs.Follow.{by_call, by-ret}
use Rattle.translation.proofs.writer.Writer.vmnmx.Goals as goal

pub returns : goal.returns
unfolding vmnmx
returns c = by_call c.r_a-a.ensures (rw (← c.bits8.ensures) (rw (← c.bit.ensures) (by_call c.video_operand-a.ensures (by_call c.vmnmx_b-b.ensures (by_call c.r_c-c.ensures (by_call c.vmnmx_words.ensures by-ret))))))
