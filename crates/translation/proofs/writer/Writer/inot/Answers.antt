use Rattle.translation.specs.Helpers.{inot}
use Rattle.translation.proofs.Follow.{by-no, by-op, by-ret, by-yes}
use Rattle.translation.proofs.writer.Writer.inot.Goals as goal

pub returns-then-on : goal.returns-then-on
unfolding inot
returns-then-on c = by-yes c.if-on.true (by-op c.one.ensures by-ret)

pub returns-else-on : goal.returns-else-on
unfolding inot
returns-else-on c = by-no c.if-on.false by-ret
