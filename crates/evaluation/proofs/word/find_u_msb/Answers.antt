use Rattle.std.proofs.Common.{rules}
use Rattle.evaluation.proofs.Counts.{highest-wraps}
use Rattle.evaluation.proofs.word.find_u_msb.Goals as goal

pub returns : goal.returns
returns c = highest-wraps _ (search rules)
