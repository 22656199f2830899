use Rattle.spirv.proofs.Tapes.{close-page}
use Rattle.spirv.proofs.page.Page.close_block.Goals as goal

pub returns : goal.returns
returns c = close-page _ _ _ c.put_instr.ensures c.put_instr-2.ensures
