use Rattle.translation.proofs.writer.Writer.by_sign.Goals as goal

pub returns-then-signed : goal.returns-then-signed
returns-then-signed c = rw c.if-signed.true c.two.ensures

pub returns-else-signed : goal.returns-else-signed
returns-else-signed c = rw c.if-signed.false c.two-else-signed.ensures
