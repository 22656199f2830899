use Rattle.strip.proofs.Digits.{none_above}
use Rattle.strip.proofs.shape.below.Goals as goal

pub returns : goal.returns
returns c = none_above c.args.mask c.args.n
