use Rattle.translation.specs.Arms.{find_msb}
use Rattle.translation.proofs.Follow.{by-no, by-op, by-ret, by-yes}
use Rattle.translation.proofs.writer.Writer.find_msb.Goals as goal

pub returns-then-signed : goal.returns-then-signed
unfolding find_msb
returns-then-signed c = by-yes c.if-signed.true (by-op c.one.ensures by-ret)

pub returns-else-signed : goal.returns-else-signed
unfolding find_msb
returns-else-signed c = by-no c.if-signed.false (by-op c.one-else-signed.ensures by-ret)
