use Rattle.translation.specs.Arms.{r2p}
use Rattle.translation.proofs.Follow.{by_call, by-ret}
use Rattle.translation.proofs.writer.Writer.r2p.Goals as goal

pub returns : goal.returns
unfolding r2p
returns c = by_call c.r_a-a.ensures (by_call c.note_unless-a.ensures (by_call c.r2p_turns.ensures by-ret))
