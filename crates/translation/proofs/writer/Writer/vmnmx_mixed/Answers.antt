use Rattle.translation.specs.Arms.{vmnmx_mixed}
use Rattle.translation.proofs.Follow.{by-no, by-op, by-ret, by-yes}
use Rattle.translation.proofs.writer.Writer.vmnmx_mixed.Goals as goal

pub returns-then-max : goal.returns-then-max
unfolding vmnmx_mixed
returns-then-max c = by-yes c.if-max.true (by-op c.two-n.ensures (by-op c.three.ensures by-ret))

pub returns-else-max : goal.returns-else-max
unfolding vmnmx_mixed
returns-else-max c = by-no c.if-max.false (by-op c.two-n-else-max.ensures (by-op c.three-else-max.ensures by-ret))
