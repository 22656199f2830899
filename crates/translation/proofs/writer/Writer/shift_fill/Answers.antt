use Rattle.translation.specs.Helpers.{shift_fill}
use Rattle.translation.proofs.Follow.{by-no, by-op, by-ret, by-yes}
use Rattle.translation.proofs.writer.Writer.shift_fill.Goals as goal

pub returns-then-sign : goal.returns-then-sign
unfolding shift_fill
returns-then-sign c = by-yes c.if-sign.true (by-op c.one-ai.ensures (by-op c.u-c31i.ensures (by-op c.two-s.ensures (by-op c.one.ensures by-ret))))

pub returns-else-sign : goal.returns-else-sign
unfolding shift_fill
returns-else-sign c = by-no c.if-sign.false (by-op c.u.ensures by-ret)
