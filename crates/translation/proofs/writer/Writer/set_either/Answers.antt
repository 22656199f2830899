use Rattle.translation.specs.Arms.{set_either}
use Rattle.translation.proofs.Follow.{by-no, by-yes}
use Rattle.translation.proofs.writer.Writer.set_either.Goals as goal

pub returns-then-pair : goal.returns-then-pair
unfolding set_either
returns-then-pair c = by-yes c.if-pair.true c.setp_both.ensures

pub returns-else-pair : goal.returns-else-pair
unfolding set_either
returns-else-pair c = by-no c.if-pair.false c.set_word.ensures
