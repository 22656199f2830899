use Rattle.translation.specs.Arms.{lop}
use Rattle.translation.proofs.Follow.{by_call, by-ret}
use Rattle.translation.proofs.writer.Writer.lop.Goals as goal

pub returns : goal.returns
unfolding lop
returns c = by_call c.src_b-b.ensures (by_call c.r_a-a.ensures (rw (← c.bit.ensures) (by_call c.inot-a.ensures (rw (← c.bit-2.ensures) (by_call c.inot-b.ensures (rw (← c.bits8.ensures) (by_call c.lop_word-v.ensures (rw (← c.bit-3.ensures) (by_call c.set_cc_if-v.ensures (by_call c.lop_predicate-v.ensures (by_call c.set_d.ensures by-ret)))))))))))
