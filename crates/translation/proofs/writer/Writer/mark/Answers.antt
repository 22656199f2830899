use Rattle.translation.specs.Emit.{raised}
use Rattle.translation.proofs.writer.Writer.mark.Goals as goal

pub returns : goal.returns
unfolding raised
returns c = rw (← c.self.view_is) (record { is = rw (c.cslot-self-inside.ensures, c.cword.ensures.0) })
