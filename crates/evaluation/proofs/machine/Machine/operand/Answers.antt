use Rattle.std.proofs.Common.{sym}
use Rattle.evaluation.specs.State.{with_store}
use Rattle.evaluation.specs.Progress.{is_running}
use Rattle.evaluation.proofs.Cases.{no_store, not-running}
use Rattle.evaluation.proofs.machine.Machine.operand.Goals as goal

pub returns-in_default : goal.returns-in_default
unfolding with_store is_running
returns-in_default c = sym (no_store _ c.args.e _ c.in_default.not-Store)

pub returns-in_default-status : goal.returns-in_default-status
unfolding with_store is_running
returns-in_default-status c = rw (c.in-Store.is, not-running c.args.self.status c.in_default-status.not-Runs)

pub returns : goal.returns
unfolding with_store is_running
returns c = rw (c.in-Store.is, c.in-Runs.is) c.value_at.ensures
