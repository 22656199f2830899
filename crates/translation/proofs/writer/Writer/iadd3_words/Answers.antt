use Rattle.translation.specs.Arms.{iadd3_words}
use Rattle.translation.proofs.Follow.{by_call, by-op, by-ret}
use Rattle.translation.proofs.writer.Writer.iadd3_words.Goals as goal

pub returns : goal.returns
unfolding iadd3_words
returns c = rw (← c.bit.ensures) (by_call c.ineg-a.ensures (rw (← c.bit-2.ensures) (by_call c.ineg-b.ensures (rw (← c.bit-3.ensures) (by_call c.ineg-c.ensures (by-op c.two-ab.ensures (by-op c.u-sixteen.ensures (rw (← c.iadd3_count.ensures) (by_call c.iadd3_shift-ab.ensures (rw (← c.bit-4.ensures) (rw (← c.bit-cc.ensures) (by_call (c.sum_carry-carry.ensures.is _ _ _ _ c.add_with_flags-v.ensures) (by_call c.set_d.ensures by-ret)))))))))))))
