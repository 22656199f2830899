use Rattle.std.proofs.Common.{[], ◌∷◌, ◌∙◌}
use Rattle.spirv.specs.Writer.{planned}
use Rattle.spirv.proofs.Tapes.{made-page}
use Rattle.spirv.proofs.page.Page.apply.Goals as goal

pub returns-in-Core : goal.returns-in-Core
unfolding planned
returns-in-Core c = rw c.in-Core.is c.make.ensures

pub returns-in-Glsl : goal.returns-in-Glsl
unfolding planned
returns-in-Glsl c = rw c.in-Glsl.is (c.made.ensures ∙ made-page _ _ _ (_ ∷ _ ∷ []) _ _ _ (rw c.from.ensures at c.put_instr.ensures))
