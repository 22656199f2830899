use Rattle.translation.specs.Arms.{minimum}
use Rattle.translation.proofs.Follow.{by-sign}
use Rattle.translation.proofs.writer.Writer.minimum.Goals as goal

pub returns : goal.returns
unfolding minimum
returns c = by-sign c.args.signed c.by_sign.ensures
