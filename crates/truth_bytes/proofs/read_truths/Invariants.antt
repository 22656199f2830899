use Rattle.std.proofs.Common.{◌≡◌, map, take}
use Rattle.truth_bytes.specs.Truths.{is_set}
use Rattle.truth_bytes.proofs.read_truths.Given as goal

abbrev pub invariant-loop-i : goal.invariant-loop-i
invariant-loop-i l = take l.i l.to ≡ map is_set (take l.i l.b-items)
