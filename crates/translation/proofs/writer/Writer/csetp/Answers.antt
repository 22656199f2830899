use Rattle.translation.specs.Arms.{csetp}
use Rattle.translation.proofs.Follow.{by_call, by-ret}
use Rattle.translation.proofs.writer.Writer.csetp.Goals as goal

pub returns : goal.returns
unfolding csetp
returns c = rw (← c.bits8.ensures) (by_call c.cc_test-c.ensures (by_call c.predicate_at_39-pv.ensures (by_call c.setp_both.ensures by-ret)))
