use lib.ListN.{length}
use Rattle.strip.specs.Entry.{ref_length}
use Rattle.convert.proofs.Passes.{Holds}
use Rattle.convert.proofs.pass.pass.Given as goal

abbrev pub invariant-loop-rest : goal.invariant-loop-rest
invariant-loop-rest l = Holds (ref_length l.from) (ref_length l.to) l.run l.writing l.initial.out l.rest l.g l.out l.at

abbrev pub decreases-loop-rest : goal.decreases-loop-rest
decreases-loop-rest l = length l.rest
