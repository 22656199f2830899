use Rattle.translation.specs.Arms.{icmp_words}
use Rattle.translation.proofs.Follow.{by_call, by-op, by-ret}
use Rattle.translation.proofs.writer.Writer.icmp_words.Goals as goal

pub returns : goal.returns
unfolding icmp_words
returns c = by-op c.u-zero.ensures (rw (← c.bits8.ensures) (rw (← c.bit.ensures) (by_call c.int_cmp-t.ensures (by-op c.three-v.ensures (by_call c.set_d.ensures by-ret)))))
