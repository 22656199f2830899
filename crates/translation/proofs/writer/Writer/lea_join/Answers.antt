use Rattle.translation.specs.Arms.{lea_join}
use Rattle.translation.proofs.Follow.{by-no, by-op, by-ret, by-yes}
use Rattle.translation.proofs.writer.Writer.lea_join.Goals as goal

pub returns-then-unshifted : goal.returns-then-unshifted
unfolding lea_join
returns-then-unshifted c = by-yes c.if-unshifted.true by-ret

pub returns-else-unshifted : goal.returns-else-unshifted
unfolding lea_join
returns-else-unshifted c = by-no c.if-unshifted.false (by-op c.two.ensures by-ret)
