use Rattle.translation.specs.Helpers.{lop3_row}
use Rattle.translation.proofs.Follow.{by-no, by-op, by-ret, by-yes}
use Rattle.translation.proofs.writer.Writer.lop3_row.Goals as goal

pub returns-then-on : goal.returns-then-on
unfolding lop3_row
returns-then-on c = by-yes c.if-on.true (by-op c.two-xy.ensures (by-op c.two-xyz.ensures (by-op c.two.ensures by-ret)))

pub returns-else-on : goal.returns-else-on
unfolding lop3_row
returns-else-on c = by-no c.if-on.false by-ret
