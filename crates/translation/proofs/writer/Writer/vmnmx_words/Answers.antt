use Rattle.translation.specs.Arms.{vmnmx_words}
use Rattle.translation.proofs.Follow.{by_call, by-op, by-ret}
use Rattle.translation.proofs.writer.Writer.vmnmx_words.Goals as goal

pub returns : goal.returns
unfolding vmnmx_words
returns c = rw (← c.bit-bit48.ensures) (rw (← c.bit-bit49.ensures) (rw (← c.bit-bit56.ensures) (rw (← c.bit-bit54.ensures) (by-op c.u-zero.ensures (by_call c.vmnmx_word-v.ensures (rw (← c.bit.ensures) (rw (← c.vmnmx_signed.ensures) (by_call c.vmnmx_saturate-v.ensures (rw (← c.bits8.ensures) (by_call c.vmnmx_merge-v.ensures (by_call c.set_d.ensures by-ret)))))))))))
