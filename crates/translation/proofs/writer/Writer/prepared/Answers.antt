use Rattle.translation.specs.Arms.{prepared}
use Rattle.translation.proofs.Follow.{by-no, by-yes}
use Rattle.translation.proofs.writer.Writer.prepared.Goals as goal

pub returns-then-complement : goal.returns-then-complement
unfolding prepared
returns-then-complement c = by-yes c.if-complement.true c.inot.ensures

pub returns-else-complement : goal.returns-else-complement
unfolding prepared
returns-else-complement c = by-no c.if-complement.false c.ineg.ensures
