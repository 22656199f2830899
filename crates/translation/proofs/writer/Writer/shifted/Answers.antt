use Rattle.translation.specs.Helpers.{shifted}
use Rattle.translation.proofs.Follow.{by-no, by-op, by-ret, by-yes}
use Rattle.translation.proofs.writer.Writer.shifted.Goals as goal

pub returns-then-left : goal.returns-then-left
unfolding shifted
returns-then-left c = by-yes c.if-left.true (by-op c.two.ensures by-ret)

pub returns-then-signed : goal.returns-then-signed
unfolding shifted
returns-then-signed c = by-no c.if-left.false (by-yes c.if-signed.true (by-op c.two-then-signed.ensures by-ret))

pub returns : goal.returns
unfolding shifted
returns c = by-no c.if-left.false (by-no c.if-signed.false (by-op c.two-2.ensures by-ret))
