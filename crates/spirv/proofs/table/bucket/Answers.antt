use Rattle.std.proofs.Common.{arith}
use Rattle.spirv.specs.Page.{bucket_of}
use Rattle.spirv.proofs.table.bucket.Goals as goal

pub returns : goal.returns
unfolding bucket_of
returns c = (rw c.from.ensures, omega arith)
