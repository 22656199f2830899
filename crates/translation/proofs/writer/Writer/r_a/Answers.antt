use Rattle.translation.proofs.writer.Writer.r_a.Goals as goal

pub returns : goal.returns
returns c = rw (← c.ra.ensures) c.r.ensures
