use Rattle.std.proofs.Common.{ap}
use Rattle.strip.specs.declared.stream.Stream.{Stream}
use Rattle.check_run.proofs.report.Check.new.Goals as goal

pub returns : goal.returns
returns c = ap (λ (t : Stream). record { stream = t; passed = 0; strips = 0 }) c.new.ensures
