use Rattle.translation.specs.Helpers.{extract}
use Rattle.translation.proofs.Follow.{by-no, by-op, by-ret, by-yes}
use Rattle.translation.proofs.writer.Writer.extract.Goals as goal

pub returns-then-signed : goal.returns-then-signed
unfolding extract
returns-then-signed c = by-yes c.if-signed.true (by-op c.one-vi.ensures (by-op c.three-x.ensures (by-op c.one.ensures by-ret)))

pub returns-else-signed : goal.returns-else-signed
unfolding extract
returns-else-signed c = by-no c.if-signed.false (by-op c.three.ensures by-ret)
