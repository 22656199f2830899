use Rattle.std.proofs.Common.{◌+◌, ◌-◌}
use Rattle.spirv.proofs.Tables.{Walks, Begun}
use Rattle.spirv.proofs.table.each_ok.Given as goal

abbrev pub invariant-loop-j : goal.invariant-loop-j
invariant-loop-j l = Walks l.table l.x (l.i + 1) l.j

abbrev pub invariant-loop-i : goal.invariant-loop-i
invariant-loop-i l = Begun l.table l.bound l.heads l.links l.i

abbrev pub decreases-loop-j : goal.decreases-loop-j
decreases-loop-j l = 303 - l.j
