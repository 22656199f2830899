use Rattle.translation.specs.Arms.{lea_b}
use Rattle.translation.proofs.Follow.{by-no, by-yes}
use Rattle.translation.proofs.writer.Writer.lea_b.Goals as goal

pub returns-then-lea_reg : goal.returns-then-lea_reg
unfolding lea_b
returns-then-lea_reg c = rw (← c.lea_reg.ensures) (by-yes c.if-lea_reg.true (rw (← c.rb.ensures) c.r.ensures))

pub returns-then-lea_cbuf : goal.returns-then-lea_cbuf
unfolding lea_b
returns-then-lea_cbuf c = rw (← c.lea_reg.ensures) (by-no c.if-lea_reg.false (rw (← c.lea_cbuf.ensures) (by-yes c.if-lea_cbuf.true c.cbuf_imm.ensures)))

pub returns : goal.returns
unfolding lea_b
returns c = rw (← c.lea_reg.ensures) (by-no c.if-lea_reg.false (rw (← c.lea_cbuf.ensures) (by-no c.if-lea_cbuf.false c.src_b.ensures)))
