use Rattle.translation.specs.Arms.{shf_amount}
use Rattle.translation.proofs.Follow.{by-no, by-op, by-ret, by-yes}
use Rattle.translation.proofs.writer.Writer.shf_amount.Goals as goal

pub returns-then-wrap : goal.returns-then-wrap
unfolding shf_amount
returns-then-wrap c = by-yes c.if-wrap.true (by-op c.two.ensures by-ret)

pub returns-else-wrap : goal.returns-else-wrap
unfolding shf_amount
returns-else-wrap c = by-no c.if-wrap.false (by-op c.two-else-wrap.ensures by-ret)
