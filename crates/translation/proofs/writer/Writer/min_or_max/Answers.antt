use Rattle.translation.specs.Arms.{min_or_max}
use Rattle.translation.proofs.Follow.{by-no, by-yes}
use Rattle.translation.proofs.writer.Writer.min_or_max.Goals as goal

pub returns-then-max : goal.returns-then-max
unfolding min_or_max
returns-then-max c = by-yes c.if-max.true c.maximum.ensures

pub returns-else-max : goal.returns-else-max
unfolding min_or_max
returns-else-max c = by-no c.if-max.false c.minimum.ensures
