use Rattle.translation.specs.Arms.{sel}
use Rattle.translation.proofs.Follow.{by_call, by-op, by-ret}
use Rattle.translation.proofs.writer.Writer.sel.Goals as goal

pub returns : goal.returns
unfolding sel
returns c = by_call c.predicate_at_39-c.ensures (by_call c.r_a-a.ensures (by_call c.src_b-b.ensures (by-op c.three-v.ensures (by_call c.set_d.ensures by-ret))))
