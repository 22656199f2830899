use Rattle.translation.specs.Arms.{icmp, icmp_bc}
use Rattle.translation.proofs.Follow.{by_call, by-ret}
use Rattle.translation.proofs.writer.Writer.icmp.Goals as goal

pub returns : goal.returns
unfolding icmp icmp_bc
returns c = by_call c.r_a-a.ensures (by_call (rw (← c.icmp_swaps.ensures) (c.src_bc-b.ensures.is _ _ _ c.icmp_words.ensures)) by-ret)
