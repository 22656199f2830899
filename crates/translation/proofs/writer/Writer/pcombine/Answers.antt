use Rattle.translation.specs.Arms.{pcombine}
use Rattle.translation.proofs.Follow.{by_call, by-ret}
use Rattle.translation.proofs.writer.Writer.pcombine.Goals as goal

pub returns : goal.returns
unfolding pcombine
returns c = rw (← c.bits8.ensures) (rw (← c.bit.ensures) (by_call c.p-a.ensures (rw (← c.bits8-2.ensures) (rw (← c.bit-2.ensures) (by_call c.p-b.ensures (by_call c.predicate_at_39-c.ensures (rw (← c.bits8-3.ensures) (by_call c.bool_op-ab.ensures (by_call c.set_either.ensures by-ret)))))))))
