use borrow.Author.Tests.{eq-eqb, ne_eqb}
use Rattle.translation.specs.Arms.{xmad_bc, xmad_fetch}
use Rattle.translation.proofs.Follow.{by_call, by-no, by-op, by-ret, by-yes}
use Rattle.translation.proofs.writer.Writer.xmad_fetch.Goals as goal

pub returns-then-i-eq2 : goal.returns-then-i-eq2
unfolding xmad_fetch xmad_bc
returns-then-i-eq2 c = by-yes (eq-eqb _ _ c.if-i-eq2.true) (rw (← c.bits.ensures.0) (by-op c.u-b.ensures (by_call c.r_c-c.ensures (by_call c.xmad_words.ensures by-ret))))

pub returns-else-i-eq2 : goal.returns-else-i-eq2
unfolding xmad_fetch xmad_bc
returns-else-i-eq2 c = by-no (ne_eqb _ _ c.if-i-eq2.false) (rw (← c.xmad_swaps.ensures) (c.src_bc-b.ensures.is _ _ _ c.xmad_words-else-i-eq2.ensures))
