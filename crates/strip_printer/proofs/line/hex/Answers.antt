use native.Mathlib.Omega.{arith}
use native.Mathlib.Numerals.{add-one}
use lib.Seq.{length-take-le}
use Rattle.strip_printer.proofs.Text.{hex-more, hex-none}
use Rattle.strip_printer.proofs.line.hex.Goals as goal

pub loop-i-init : goal.loop-i-init
loop-i-init c = hex-none _ _

pub loop-i-preserved : goal.loop-i-preserved
loop-i-preserved c = let l = c.loop-i in let a = c.args in
    rw (c.glyph.ensures, c.glyph-in-loop-i.ensures, add-one, add-one) (hex-more a.bytes.now a.out.now l.out a.at l.i (omega arith) l.invariant (length-take-le l.i a.bytes.now (omega arith)))
