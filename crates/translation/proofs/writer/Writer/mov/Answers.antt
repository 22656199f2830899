use Rattle.translation.specs.Arms.{mov}
use Rattle.translation.proofs.Follow.{by_call, by-ret}
use Rattle.translation.proofs.writer.Writer.mov.Goals as goal

pub returns : goal.returns
unfolding mov
returns c = by_call c.src_b-v.ensures (by_call c.set_d.ensures by-ret)
