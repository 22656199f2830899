use Rattle.std.proofs.Common.{length}
use Rattle.strip.specs.Entry.{ref_length}
use Rattle.strip.specs.Pass.{Ready}
use Rattle.evaluation.proofs.Progress.{Holds}
use Rattle.evaluation.proofs.machine.pass.Given as goal

abbrev pub invariant-loop-rest : goal.invariant-loop-rest
invariant-loop-rest l = Ready l.m.shape × Holds (ref_length l.layout) l.run l.start l.constants l.rest l.m l.values l.state

abbrev pub decreases-loop-rest : goal.decreases-loop-rest
decreases-loop-rest l = length l.rest
