use Rattle.translation.specs.Helpers.{field}
use Rattle.translation.proofs.Follow.{by_call, by-op, by-ret}
use Rattle.translation.proofs.writer.Writer.field.Goals as goal

pub returns : goal.returns
unfolding field
returns c = by-op c.u-off.ensures (by-op c.u-l.ensures (by_call c.extract.ensures by-ret))
