use Rattle.translation.specs.Helpers.{b2u}
use Rattle.translation.proofs.Follow.{by-op, by-ret}
use Rattle.translation.proofs.writer.Writer.b2u.Goals as goal

pub returns : goal.returns
unfolding b2u
returns c = by-op c.u-a.ensures (by-op c.u-b.ensures (by-op c.three.ensures by-ret))
