use Rattle.translation.specs.Helpers.{ineg}
use Rattle.translation.proofs.Follow.{by-no, by-op, by-ret, by-yes}
use Rattle.translation.proofs.writer.Writer.ineg.Goals as goal

pub returns-then-on : goal.returns-then-on
unfolding ineg
returns-then-on c = by-yes c.if-on.true (by-op c.u-zero.ensures (by-op c.two.ensures by-ret))

pub returns-else-on : goal.returns-else-on
unfolding ineg
returns-else-on c = by-no c.if-on.false by-ret
