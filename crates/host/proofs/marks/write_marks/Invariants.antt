use Prim.Native.Nat.{◌*◌}
use mathlib.Core.Path.{◌≡◌}
use lib.ListN.{take}
use Rattle.host.specs.Marks.{mark_bytes}
use Rattle.host.proofs.marks.write_marks.Given as goal

abbrev pub invariant-loop-i : goal.invariant-loop-i
invariant-loop-i l = take (l.i * 4) l.bytes ≡ mark_bytes (take l.i l.marks)
