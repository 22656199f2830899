use mathlib.Core.Path.{◌∙◌}
use Rattle.translation.proofs.Write.{numbered}
use Rattle.translation.proofs.writer.Writer.make.Goals as goal

pub returns : goal.returns
returns c = record { is = numbered _ c.args.self.now c.args.e (c.self.view_is ∙ c.put.ensures.is) }
