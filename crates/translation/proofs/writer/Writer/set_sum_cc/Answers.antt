use Rattle.translation.specs.Helpers.{set_sum_cc}
use Rattle.translation.proofs.Follow.{by_call, by-no, by-ret, by-yes}
use Rattle.translation.proofs.writer.Writer.set_sum_cc.Goals as goal

pub returns-then-cc : goal.returns-then-cc
unfolding set_sum_cc
returns-then-cc c = by-yes c.if-cc.true (by_call c.signed_overflow-o.ensures (by_call c.set_cc.ensures by-ret))

pub returns-else-cc : goal.returns-else-cc
unfolding set_sum_cc
returns-else-cc c = by-no c.if-cc.false by-ret
