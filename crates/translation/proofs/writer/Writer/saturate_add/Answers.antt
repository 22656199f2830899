use Rattle.translation.specs.Helpers.{saturate_add}
use Rattle.translation.proofs.Follow.{by_call, by-no, by-op, by-ret, by-yes}
use Rattle.translation.proofs.writer.Writer.saturate_add.Goals as goal

pub returns-then-on : goal.returns-then-on
unfolding saturate_add
returns-then-on c = by-yes c.if-on.true (by_call c.signed_overflow-overflow.ensures (by-op c.u-zero.ensures (by-op c.two-n.ensures (by_call c.b2u-clamped.ensures (by-op c.three.ensures by-ret)))))

pub returns-else-on : goal.returns-else-on
unfolding saturate_add
returns-else-on c = by-no c.if-on.false by-ret
