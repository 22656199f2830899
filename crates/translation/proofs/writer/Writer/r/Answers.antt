use borrow.Author.Tests.{eq-eqb, ne_eqb}
use Rattle.translation.specs.Helpers.{r}
use Rattle.translation.proofs.Follow.{by-no, by-op, by-ret, by-yes}
use Rattle.translation.proofs.writer.Writer.r.Goals as goal

pub returns-then-k-eq255 : goal.returns-then-k-eq255
unfolding r
returns-then-k-eq255 c = by-yes (eq-eqb _ _ c.if-k-eq255.true) (by-op c.u.ensures by-ret)

pub returns-else-k-eq255 : goal.returns-else-k-eq255
unfolding r
returns-else-k-eq255 c = by-no (ne_eqb _ _ c.if-k-eq255.false) (by-op c.cell.ensures by-ret)
