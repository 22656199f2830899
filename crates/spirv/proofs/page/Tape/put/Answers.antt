use Rattle.std.proofs.Common.{refl}
use Rattle.spirv.specs.Page.{put_one}
use Rattle.spirv.proofs.page.Tape.put.Goals as goal

pub returns : goal.returns
unfolding put_one
returns c = refl
