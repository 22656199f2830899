use Rattle.translation.specs.Helpers.{lop3}
use Rattle.translation.proofs.Follow.{by_call, by-op, by-ret}
use Rattle.translation.proofs.writer.Writer.lop3.Goals as goal

pub returns : goal.returns
unfolding lop3
returns c = by-op c.u-acc.ensures (by-op c.one-na.ensures (by-op c.one-nb.ensures (by-op c.one-nc.ensures (by_call c.lop3_rows-acc2.ensures (by_call c.lop3_rows-acc3.ensures (by_call c.lop3_rows-acc4.ensures (by_call c.lop3_rows.ensures by-ret)))))))
