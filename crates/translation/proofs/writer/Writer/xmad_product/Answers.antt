use Rattle.translation.specs.Arms.{xmad_product}
use Rattle.translation.proofs.Follow.{by_call, by-op, by-ret}
use Rattle.translation.proofs.writer.Writer.xmad_product.Goals as goal

pub returns : goal.returns
unfolding xmad_product
returns c = rw (← c.bit.ensures) (rw (← c.bit-2.ensures) (by_call c.half16-a16.ensures (rw (← c.xmad_high.ensures) (rw (← c.xmad_signed.ensures) (by_call c.half16-b16.ensures (by-op c.two-v.ensures (rw (← c.xmad_psl.ensures) (by_call c.xmad_shift.ensures by-ret))))))))
