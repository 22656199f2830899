use Rattle.translation.specs.Arms.{shf_select}
use Rattle.translation.proofs.Follow.{by-op, by-ret}
use Rattle.translation.proofs.writer.Writer.shf_select.Goals as goal

pub returns : goal.returns
unfolding shf_select
returns c = by-op c.u-zero.ensures (by-op c.two-is0.ensures (by-op c.two-is32.ensures (by-op c.three-v.ensures (by-op c.three.ensures by-ret))))
