use Rattle.translation.specs.Arms.{saturate_if}
use Rattle.translation.proofs.Follow.{by-no, by-ret, by-yes}
use Rattle.translation.proofs.writer.Writer.saturate_if.Goals as goal

pub returns-then-on : goal.returns-then-on
unfolding saturate_if
returns-then-on c = by-yes c.if-on.true c.saturate_int.ensures

pub returns-else-on : goal.returns-else-on
unfolding saturate_if
returns-else-on c = by-no c.if-on.false by-ret
