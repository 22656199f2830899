use Rattle.spirv.proofs.Tapes.{open-page}
use Rattle.spirv.proofs.page.Page.open_block.Goals as goal

pub returns : goal.returns
returns c = open-page _ _ _ _ _ c.put_instr.ensures c.put_instr-2.ensures c.put_instr-3.ensures
