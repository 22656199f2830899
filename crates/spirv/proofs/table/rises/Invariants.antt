use Rattle.std.proofs.Common.{◌+◌, get_or}
use Rattle.spirv.proofs.Tables.{Rises}
use Rattle.spirv.proofs.table.rises.Given as goal

abbrev pub invariant-loop-i : goal.invariant-loop-i
invariant-loop-i l = Rises l.table (get_or l.table l.i 0) l.high (l.i + 1)
