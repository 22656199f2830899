use Rattle.translation.specs.Arms.{vmnmx_b}
use Rattle.translation.proofs.Follow.{by_call, by-no, by-op, by-ret, by-yes}
use Rattle.translation.proofs.writer.Writer.vmnmx_b.Goals as goal

pub returns-then-bit : goal.returns-then-bit
unfolding vmnmx_b
returns-then-bit c = rw (← c.bit.ensures) (by-yes c.if-bit.true (rw (← c.rb.ensures) (by_call c.r-b.ensures (rw (← c.bits8.ensures) (rw (← c.bit-then-bit.ensures) (by_call c.video_operand.ensures by-ret))))))

pub returns-else-bit : goal.returns-else-bit
unfolding vmnmx_b
returns-else-bit c = rw (← c.bit.ensures) (by-no c.if-bit.false (rw (← c.vmnmx_imm.ensures) (by-op c.u.ensures by-ret)))
