use Rattle.std.proofs.Common.{[], ◌∙◌}
use Rattle.spirv.proofs.Tapes.{made-page}
use Rattle.spirv.proofs.page.Page.make.Goals as goal

pub returns : goal.returns
returns c = c.made.ensures ∙ made-page _ _ _ [] _ _ _ c.put_instr.ensures
