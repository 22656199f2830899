use Rattle.translation.specs.Arms.{icompare}
use Rattle.translation.proofs.Follow.{by_call, by-ret}
use Rattle.translation.proofs.writer.Writer.icompare.Goals as goal

pub returns : goal.returns
unfolding icompare
returns c = by_call c.r_a-a.ensures (by_call c.src_b-b.ensures (by_call c.predicate_at_39-pv.ensures (rw (← c.bits8.ensures) (rw (← c.bit.ensures) (by_call c.int_cmp-c.ensures (by_call c.set_either.ensures by-ret))))))
