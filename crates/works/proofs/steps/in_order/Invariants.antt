use Rattle.std.proofs.Common.{◌≡◌}
use Rattle.meaning.specs.Told.{answer_of}
use Rattle.works.specs.Steps.{up_to}
use Rattle.works.proofs.steps.in_order.Given as goal

abbrev pub invariant-loop-n : goal.invariant-loop-n
invariant-loop-n l = (answer_of l.i ≡ up_to l.n l.records l.initial.i.state)
