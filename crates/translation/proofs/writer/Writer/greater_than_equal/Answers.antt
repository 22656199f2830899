use Rattle.translation.specs.Helpers.{greater_than_equal}
use Rattle.translation.proofs.Follow.{by-sign}
use Rattle.translation.proofs.writer.Writer.greater_than_equal.Goals as goal

pub returns : goal.returns
unfolding greater_than_equal
returns c = by-sign c.args.signed c.by_sign.ensures
