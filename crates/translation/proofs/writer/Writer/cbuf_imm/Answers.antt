use Rattle.translation.specs.Helpers.{cbuf_imm}
use Rattle.translation.proofs.Follow.{by_call, by-mark, by-op, by-ret}
use Rattle.translation.proofs.writer.Writer.cbuf_imm.Goals as goal

pub returns : goal.returns
unfolding cbuf_imm
returns c = by-mark c.mark.ensures (rw (← c.cword.ensures.0) (by-op c.u-off.ensures (rw (← c.cslot.ensures) (by_call c.cbuf_at.ensures by-ret))))
