use Rattle.translation.specs.Arms.{vmnmx_insert}
use Rattle.translation.proofs.Follow.{by-op, by-ret}
use Rattle.translation.proofs.writer.Writer.vmnmx_insert.Goals as goal

pub returns : goal.returns
unfolding vmnmx_insert
returns c = by-op c.u-off.ensures (by-op c.u-l.ensures (by-op c.four.ensures by-ret))
