use Rattle.std.proofs.Common.{rules}
use Rattle.ascii.specs.Decimal.{decimal_of}
use Rattle.ascii.proofs.decimal.Goals as goal

pub returns : goal.returns
unfolding decimal_of
returns c = search rules
