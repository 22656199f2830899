use Rattle.translation.proofs.writer.Writer.set_d.Goals as goal

pub returns : goal.returns
returns c = rw (← c.rd.ensures) c.set.ensures
