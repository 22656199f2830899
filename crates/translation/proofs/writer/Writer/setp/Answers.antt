use borrow.Author.Tests.{eq-eqb, ne_eqb}
use Rattle.translation.specs.Helpers.{setp}
use Rattle.translation.proofs.Follow.{by-act, by-no, by-ret, by-yes}
use Rattle.translation.proofs.writer.Writer.setp.Goals as goal

pub returns-then-k-eq7 : goal.returns-then-k-eq7
unfolding setp
returns-then-k-eq7 c = by-yes (eq-eqb _ _ c.if-k-eq7.true) by-ret

pub returns-else-k-eq7 : goal.returns-else-k-eq7
unfolding setp
returns-else-k-eq7 c = by-no (ne_eqb _ _ c.if-k-eq7.false) (by-act c.store.ensures by-ret)
