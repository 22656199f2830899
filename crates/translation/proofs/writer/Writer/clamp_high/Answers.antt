use Rattle.translation.specs.Helpers.{clamp_high}
use Rattle.translation.proofs.Follow.{by-no, by-op, by-ret, by-yes}
use Rattle.translation.proofs.writer.Writer.clamp_high.Goals as goal

pub returns-then-on : goal.returns-then-on
unfolding clamp_high
returns-then-on c = by-yes c.if-on.true (by-op c.one-hi.ensures (by-op c.two.ensures by-ret))

pub returns-else-on : goal.returns-else-on
unfolding clamp_high
returns-else-on c = by-no c.if-on.false by-ret
