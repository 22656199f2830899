use Rattle.translation.specs.Helpers.{shift_end}
use Rattle.translation.proofs.Follow.{by_call, by-no, by-op, by-ret, by-yes}
use Rattle.translation.proofs.writer.Writer.shift_end.Goals as goal

pub returns-then-wrap : goal.returns-then-wrap
unfolding shift_end
returns-then-wrap c = by-yes c.if-wrap.true by-ret

pub returns-else-wrap : goal.returns-else-wrap
unfolding shift_end
returns-else-wrap c = by-no c.if-wrap.false (by-op c.u-c32.ensures (by-op c.two-big.ensures (by_call c.shift_fill-fill.ensures (by-op c.three.ensures by-ret))))
