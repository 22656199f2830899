use Rattle.evaluation.proofs.Progress.{resumed, not-skipped, ends-strip}
use Rattle.evaluation.proofs.machine.Machine.end.Goals as goal

pub returns-in-Skips : goal.returns-in-Skips
unfolding resumed
returns-in-Skips c = λ vs s cs. ends-strip c.args.self vs _ c.end-g.result c.end-g.ensures (rw c.in-Skips.is) s cs

pub returns : goal.returns
unfolding resumed
returns c = λ vs s cs. ends-strip c.args.self vs _ _ c.end-g.ensures (rw (← not-skipped c.args.self.status c.in_default.not-Skips) c.passed.ensures) s cs
