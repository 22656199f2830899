use Rattle.spirv.proofs.Tapes.{store-page}
use Rattle.spirv.proofs.page.Page.store.Goals as goal

pub returns : goal.returns
returns c = store-page _ _ _ _ c.put_instr.ensures
