use Rattle.translation.specs.Helpers.{signed_overflow}
use Rattle.translation.proofs.Follow.{by-op, by-ret}
use Rattle.translation.proofs.writer.Writer.signed_overflow.Goals as goal

pub returns : goal.returns
unfolding signed_overflow
returns c = by-op c.u-zero.ensures (by-op c.two-xa.ensures (by-op c.two-xb.ensures (by-op c.two-both.ensures (by-op c.two.ensures by-ret))))
