use mathlib.Core.Path.{◌≡◌}
use lib.ListN.{length, take}
use Rattle.host.specs.Marks.{words_in}
use Rattle.host.proofs.marks.read_marks.Given as goal

abbrev pub invariant-loop-i : goal.invariant-loop-i
invariant-loop-i l = (length l.marks ≡ 32) × (take l.i l.marks ≡ words_in l.i l.bytes)
