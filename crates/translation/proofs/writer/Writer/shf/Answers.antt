use Rattle.translation.specs.Arms.{shf}
use Rattle.translation.proofs.Follow.{by_call, by-ret}
use Rattle.translation.proofs.writer.Writer.shf.Goals as goal

pub returns : goal.returns
unfolding shf
returns c = by_call c.r_a-low.ensures (by_call c.src_b-n.ensures (by_call c.r_c-high.ensures (by_call c.shf_words.ensures by-ret)))
