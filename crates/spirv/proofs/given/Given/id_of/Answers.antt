use Rattle.std.proofs.Common.{◌+◌, ap₂}
use Rattle.spirv.specs.Writer.{const_id}
use Rattle.spirv.proofs.given.Given.id_of.Goals as goal

pub returns-clause-id : goal.returns-clause-id
unfolding const_id
returns-clause-id c = ap₂ ◌+◌ c.from.ensures c.list.ensures.place
