use Rattle.translation.specs.Arms.{flo_shift}
use Rattle.translation.proofs.Follow.{by-no, by-op, by-ret, by-yes}
use Rattle.translation.proofs.writer.Writer.flo_shift.Goals as goal

pub returns-then-on : goal.returns-then-on
unfolding flo_shift
returns-then-on c = by-yes c.if-on.true (by-op c.u-c31.ensures (by-op c.two-s.ensures (by-op c.u-none.ensures (by-op c.two-e.ensures (by-op c.three.ensures by-ret)))))

pub returns-else-on : goal.returns-else-on
unfolding flo_shift
returns-else-on c = by-no c.if-on.false by-ret
