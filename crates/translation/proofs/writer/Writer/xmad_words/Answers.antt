use Rattle.translation.specs.Arms.{xmad_words}
use Rattle.translation.proofs.Follow.{by_call, by-op, by-ret}
use Rattle.translation.proofs.writer.Writer.xmad_words.Goals as goal

pub returns : goal.returns
unfolding xmad_words
returns c = by_call c.xmad_product-prod.ensures (by-op c.u-sixteen.ensures (rw (← c.xmad_mode.ensures) (by_call c.xmad_alter-c.ensures (by-op c.two-v.ensures (rw (← c.xmad_mrg.ensures) (by_call c.xmad_merge-v.ensures (by_call c.set_d.ensures by-ret)))))))
