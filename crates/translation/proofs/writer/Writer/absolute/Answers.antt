use Rattle.translation.specs.Arms.{absolute}
use Rattle.translation.proofs.Follow.{by-no, by-op, by-ret, by-yes}
use Rattle.translation.proofs.writer.Writer.absolute.Goals as goal

pub returns-then-on : goal.returns-then-on
unfolding absolute
returns-then-on c = by-yes c.if-on.true (by-op c.one-vi.ensures (by-op c.one-a.ensures (by-op c.one.ensures by-ret)))

pub returns-else-on : goal.returns-else-on
unfolding absolute
returns-else-on c = by-no c.if-on.false by-ret
