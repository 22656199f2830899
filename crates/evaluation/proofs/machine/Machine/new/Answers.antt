use Rattle.evaluation.proofs.machine.Machine.new.Goals as goal

pub returns : goal.returns
returns c = rw c.new.ensures
