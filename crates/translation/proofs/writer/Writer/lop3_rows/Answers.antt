use Rattle.translation.specs.Helpers.{lop3_rows}
use Rattle.translation.proofs.Follow.{by_call, by-ret}
use Rattle.translation.proofs.writer.Writer.lop3_rows.Goals as goal

pub returns : goal.returns
unfolding lop3_rows
returns c = rw (← c.table_bit.ensures) (by_call c.lop3_row-acc.ensures (rw (← c.table_bit-2.ensures) (by_call c.lop3_row.ensures by-ret)))
