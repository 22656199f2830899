use Rattle.translation.specs.Arms.{iadd3}
use Rattle.translation.proofs.Follow.{by_call, by-ret}
use Rattle.translation.proofs.writer.Writer.iadd3.Goals as goal

pub returns : goal.returns
unfolding iadd3
returns c = by_call c.r_a-a.ensures (by_call c.iadd3_fetch.ensures by-ret)
