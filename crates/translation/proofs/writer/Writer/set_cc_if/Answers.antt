use Rattle.translation.specs.Helpers.{set_cc_if}
use Rattle.translation.proofs.Follow.{by-no, by-ret, by-yes}
use Rattle.translation.proofs.writer.Writer.set_cc_if.Goals as goal

pub returns-then-on : goal.returns-then-on
unfolding set_cc_if
returns-then-on c = by-yes c.if-on.true c.set_cc.ensures

pub returns-else-on : goal.returns-else-on
unfolding set_cc_if
returns-else-on c = by-no c.if-on.false by-ret
