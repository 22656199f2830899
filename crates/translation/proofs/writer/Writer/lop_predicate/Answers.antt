use borrow.Author.Tests.{eq-eqb, ne_eqb}
use Rattle.translation.specs.Arms.{lop_predicate}
use Rattle.translation.proofs.Follow.{by_call, by-no, by-op, by-ret, by-yes}
use Rattle.translation.proofs.writer.Writer.lop_predicate.Goals as goal

pub returns-then-k-eq7 : goal.returns-then-k-eq7
unfolding lop_predicate
returns-then-k-eq7 c = rw (← c.bits8-k.ensures) (by-yes (eq-eqb _ _ c.if-k-eq7.true) by-ret)

pub returns-else-k-eq7 : goal.returns-else-k-eq7
unfolding lop_predicate
returns-else-k-eq7 c = rw (← c.bits8-k.ensures) (by-no (ne_eqb _ _ c.if-k-eq7.false) (by-op c.u-zero.ensures (rw (← c.bits8.ensures) (by_call c.lop_test-t.ensures (by_call c.setp.ensures by-ret)))))
