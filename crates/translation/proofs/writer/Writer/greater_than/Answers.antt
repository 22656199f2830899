use Rattle.translation.specs.Helpers.{greater_than}
use Rattle.translation.proofs.Follow.{by-sign}
use Rattle.translation.proofs.writer.Writer.greater_than.Goals as goal

pub returns : goal.returns
unfolding greater_than
returns c = by-sign c.args.signed c.by_sign.ensures
