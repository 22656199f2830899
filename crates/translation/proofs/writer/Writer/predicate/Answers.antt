use borrow.Author.Tests.{eq-eqb, ne_eqb}
use Rattle.translation.specs.Helpers.{predicate}
use Rattle.translation.proofs.Follow.{by-no, by-op, by-ret, by-yes}
use Rattle.translation.proofs.writer.Writer.predicate.Goals as goal

pub returns-then-k-eq7 : goal.returns-then-k-eq7
unfolding predicate
returns-then-k-eq7 c = by-yes (eq-eqb _ _ c.if-k-eq7.true) (by-op c.truth.ensures by-ret)

pub returns-else-k-eq7 : goal.returns-else-k-eq7
unfolding predicate
returns-else-k-eq7 c = by-no (ne_eqb _ _ c.if-k-eq7.false) (by-op c.cell.ensures by-ret)
