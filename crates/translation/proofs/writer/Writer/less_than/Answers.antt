use Rattle.translation.specs.Helpers.{less_than}
use Rattle.translation.proofs.Follow.{by-sign}
use Rattle.translation.proofs.writer.Writer.less_than.Goals as goal

pub returns : goal.returns
unfolding less_than
returns c = by-sign c.args.signed c.by_sign.ensures
