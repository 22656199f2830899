use Rattle.std.proofs.Common.{refl}
use Rattle.spirv.specs.Page.{named}
use Rattle.spirv.proofs.page.Page.value.Goals as goal

pub returns : goal.returns
unfolding named
returns c = refl
