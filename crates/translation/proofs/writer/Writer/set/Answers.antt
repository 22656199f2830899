use borrow.Author.Tests.{eq-eqb, ne_eqb}
use Rattle.translation.specs.Helpers.{set}
use Rattle.translation.proofs.Follow.{by-act, by-no, by-ret, by-yes}
use Rattle.translation.proofs.writer.Writer.set.Goals as goal

pub returns-then-k-eq255 : goal.returns-then-k-eq255
unfolding set
returns-then-k-eq255 c = by-yes (eq-eqb _ _ c.if-k-eq255.true) by-ret

pub returns-else-k-eq255 : goal.returns-else-k-eq255
unfolding set
returns-else-k-eq255 c = by-no (ne_eqb _ _ c.if-k-eq255.false) (by-act c.store.ensures by-ret)
