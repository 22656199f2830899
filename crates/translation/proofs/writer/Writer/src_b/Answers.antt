use borrow.Author.Tests.{eq-eqb, ne_eqb}
use Rattle.translation.specs.Helpers.{src_b}
use Rattle.translation.proofs.Follow.{by-no, by-op, by-ret, by-yes}
use Rattle.translation.proofs.writer.Writer.src_b.Goals as goal

pub returns-then-i-eq0 : goal.returns-then-i-eq0
unfolding src_b
returns-then-i-eq0 c = by-yes (eq-eqb _ _ c.if-i-eq0.true) (rw (← c.rb.ensures) c.r.ensures)

pub returns-then-i-eq1 : goal.returns-then-i-eq1
unfolding src_b
returns-then-i-eq1 c = by-no (ne_eqb _ _ c.if-i-eq0.false) (by-yes (eq-eqb _ _ c.if-i-eq1.true) c.cbuf_imm.ensures)

pub returns : goal.returns
unfolding src_b
returns c = by-no (ne_eqb _ _ c.if-i-eq0.false) (by-no (ne_eqb _ _ c.if-i-eq1.false) (rw (← c.simm20.ensures) (by-op c.u.ensures by-ret)))
