use Rattle.evaluation.specs.State.{stored_reg}
use Rattle.evaluation.proofs.state.State.store_register.Goals as goal

pub returns : goal.returns
unfolding stored_reg
returns c = rw c.stored-self.ensures
