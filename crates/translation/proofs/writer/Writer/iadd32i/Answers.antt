use mathlib.Core.Bool.{false}
use Rattle.translation.specs.Arms.{iadd32i, iadd_words}
use Rattle.translation.proofs.Follow.{by_call, by-op, by-ret}
use Rattle.translation.proofs.writer.Writer.iadd32i.Goals as goal

pub returns : goal.returns
unfolding iadd32i
returns c = by_call c.r_a-a.ensures (rw (← c.imm32.ensures) (by-op c.u-b.ensures (rw (← c.rd.ensures) (rw (← c.bit.ensures) (rw (← c.bit-2.ensures) (rw (← c.bit-3.ensures) (rw (← c.bit-4.ensures) (by_call {c = iadd_words c.rd.result c.bit.result false c.bit-2.result c.bit-3.result c.bit-4.result} c.iadd_words.ensures by-ret))))))))
