use Rattle.translation.specs.Arms.{xmad}
use Rattle.translation.proofs.Follow.{by_call, by-ret}
use Rattle.translation.proofs.writer.Writer.xmad.Goals as goal

pub returns : goal.returns
unfolding xmad
returns c = by_call c.r_a-a.ensures (by_call c.xmad_fetch.ensures by-ret)
