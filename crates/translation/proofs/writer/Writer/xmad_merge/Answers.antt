use Rattle.translation.specs.Arms.{xmad_merge}
use Rattle.translation.proofs.Follow.{by-no, by-op, by-ret, by-yes}
use Rattle.translation.proofs.writer.Writer.xmad_merge.Goals as goal

pub returns-then-on : goal.returns-then-on
unfolding xmad_merge
returns-then-on c = by-yes c.if-on.true (by-op c.u-m.ensures (by-op c.two-lo.ensures (by-op c.two-bs.ensures (by-op c.two.ensures by-ret))))

pub returns-else-on : goal.returns-else-on
unfolding xmad_merge
returns-else-on c = by-no c.if-on.false by-ret
