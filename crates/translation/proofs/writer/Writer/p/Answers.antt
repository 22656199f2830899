use Rattle.translation.specs.Helpers.{p}
use Rattle.translation.proofs.Follow.{by_call, by-ret}
use Rattle.translation.proofs.writer.Writer.p.Goals as goal

pub returns : goal.returns
unfolding p
returns c = by_call c.predicate-v.ensures (by_call c.logical_not_if.ensures by-ret)
