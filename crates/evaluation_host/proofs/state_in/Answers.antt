use Rattle.evaluation_host.proofs.StateLists.{state-read}
use Rattle.evaluation_host.proofs.state_in.Goals as goal

pub returns : goal.returns
returns c = state-read _ _ c.copy_from_slice.ensures.after c.read_truths.ensures c.read_truths-2.ensures
