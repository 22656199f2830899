use Rattle.translation.specs.Arms.{iadd, iadd_words}
use Rattle.translation.proofs.Follow.{by_call, by-ret}
use Rattle.translation.proofs.writer.Writer.iadd.Goals as goal

pub returns : goal.returns
unfolding iadd
returns c = by_call c.r_a-a.ensures (by_call c.src_b-b.ensures (rw (← c.rd.ensures) (rw (← c.bit.ensures) (rw (← c.bit-2.ensures) (rw (← c.bit-3.ensures) (rw (← c.bit-4.ensures) (rw (← c.bit-5.ensures) (by_call {c = iadd_words c.rd.result c.bit.result c.bit-2.result c.bit-3.result c.bit-4.result c.bit-5.result} c.iadd_words.ensures by-ret))))))))
