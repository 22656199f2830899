use Rattle.translation.specs.Arms.{vmnmx_first}
use Rattle.translation.proofs.Follow.{by-no, by-op, by-ret, by-yes}
use Rattle.translation.proofs.writer.Writer.vmnmx_first.Goals as goal

pub returns-then-max : goal.returns-then-max
unfolding vmnmx_first
returns-then-max c = by-yes c.if-max.true (by-op c.two.ensures by-ret)

pub returns-else-max : goal.returns-else-max
unfolding vmnmx_first
returns-else-max c = by-no c.if-max.false (by-op c.two-else-max.ensures by-ret)
