use mathlib.Core.Path.{◌≡◌}
use lib.ListN.{take}
use lib.Seq.{sets}
use Rattle.strip_printer.specs.Line.{hex_of}
use Rattle.strip_printer.proofs.line.hex.Given as goal

abbrev pub invariant-loop-i : goal.invariant-loop-i
invariant-loop-i l = l.out ≡ sets l.fn.out l.at (hex_of (take l.i l.bytes))
