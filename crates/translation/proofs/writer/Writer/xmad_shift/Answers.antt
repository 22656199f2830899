use Rattle.translation.specs.Arms.{xmad_shift}
use Rattle.translation.proofs.Follow.{by-no, by-op, by-ret, by-yes}
use Rattle.translation.proofs.writer.Writer.xmad_shift.Goals as goal

pub returns-then-on : goal.returns-then-on
unfolding xmad_shift
returns-then-on c = by-yes c.if-on.true (by-op c.u-s.ensures (by-op c.two.ensures by-ret))

pub returns-else-on : goal.returns-else-on
unfolding xmad_shift
returns-else-on c = by-no c.if-on.false by-ret
