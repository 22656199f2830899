use mathlib.Core.Path.{refl}
use native.Mathlib.Omega.{arith}
use native.Mathlib.Numerals.{add-one}
use lib.ListN.{length-set}
use Rattle.host.proofs.MarkBytes.{words-start, words-next}
use Rattle.host.proofs.marks.read_marks.Goals as goal

pub loop-i-init : goal.loop-i-init
loop-i-init c = (refl, words-start _)

pub loop-i-preserved : goal.loop-i-preserved
loop-i-preserved c = let l = c.loop-i in
    (simp length-set l.invariant.0, rw (add-one, c.word_at.ensures) (words-next _ l.marks l.i (omega arith) l.invariant.1))
