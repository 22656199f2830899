use Rattle.spirv.specs.Page.{clashed}
use Rattle.spirv.proofs.page.Page.meets.Goals as goal

pub returns-then-clash : goal.returns-then-clash
unfolding clashed
returns-then-clash c = rw c.if-clash.true

pub returns-else-clash : goal.returns-else-clash
unfolding clashed
returns-else-clash c = rw c.if-clash.false
