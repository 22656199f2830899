use lib.ListN.{length}
use Rattle.strip.specs.Entry.{ref_length}
use Rattle.strip.proofs.Steps.{Walking}
use Rattle.strip.proofs.shape.walk.Given as goal

abbrev pub invariant-loop-rest : goal.invariant-loop-rest
invariant-loop-rest l = Walking (ref_length l.layout) l.initial.g l.part l.g l.rest l.strips

abbrev pub decreases-loop-rest : goal.decreases-loop-rest
decreases-loop-rest l = length l.rest
