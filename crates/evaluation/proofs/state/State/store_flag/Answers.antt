use Rattle.evaluation.specs.State.{stored_flag}
use Rattle.evaluation.proofs.state.State.store_flag.Goals as goal

pub returns : goal.returns
unfolding stored_flag
returns c = rw c.stored-self.ensures
