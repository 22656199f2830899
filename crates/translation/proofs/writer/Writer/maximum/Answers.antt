use Rattle.translation.specs.Arms.{maximum}
use Rattle.translation.proofs.Follow.{by-sign}
use Rattle.translation.proofs.writer.Writer.maximum.Goals as goal

pub returns : goal.returns
unfolding maximum
returns c = by-sign c.args.signed c.by_sign.ensures
