use Rattle.std.proofs.Common.{◌≡◌, map, take}
use Rattle.std.proofs.lemmas.List.Edits.{sets}
use Rattle.truth_bytes.specs.Truths.{truth_byte}
use Rattle.truth_bytes.proofs.write_truths.Given as goal

abbrev pub invariant-loop-i : goal.invariant-loop-i
invariant-loop-i l = l.to ≡ sets l.fn.to l.at (map truth_byte (take l.i l.from))
