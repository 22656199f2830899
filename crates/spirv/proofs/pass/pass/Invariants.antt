use Rattle.std.proofs.Common.{length}
use Rattle.spirv.proofs.Bodies.{Turn}
use Rattle.spirv.proofs.pass.pass.Given as goal

abbrev pub invariant-loop-rest : goal.invariant-loop-rest
invariant-loop-rest l = Turn l.run l.initial.given l.initial.page l.rest l.shape l.given l.page

abbrev pub decreases-loop-rest : goal.decreases-loop-rest
decreases-loop-rest l = length l.rest
