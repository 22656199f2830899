use Rattle.translation.proofs.writer.Writer.predicate_at_39.Goals as goal

pub returns : goal.returns
returns c = rw (← c.bits8.ensures) (rw (← c.bit.ensures) c.p.ensures)
