use Rattle.evaluation.specs.State.{stored_pred}
use Rattle.evaluation.proofs.state.State.store_predicate.Goals as goal

pub returns : goal.returns
unfolding stored_pred
returns c = rw c.stored-self.ensures
