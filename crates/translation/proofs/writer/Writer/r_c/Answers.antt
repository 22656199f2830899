use Rattle.translation.proofs.writer.Writer.r_c.Goals as goal

pub returns : goal.returns
returns c = rw (← c.rc.ensures) c.r.ensures
