use Rattle.translation.specs.Arms.{setp_both}
use Rattle.translation.proofs.Follow.{by_call, by-op, by-ret}
use Rattle.translation.proofs.writer.Writer.setp_both.Goals as goal

pub returns : goal.returns
unfolding setp_both
returns c = rw (← c.bits8-op.ensures) (by_call c.bool_op-x.ensures (by-op c.one-nc.ensures (by_call c.bool_op-y.ensures (rw (← c.bits8.ensures) (by_call c.setp.ensures (rw (← c.bits8-2.ensures) (by_call c.setp-2.ensures by-ret)))))))
