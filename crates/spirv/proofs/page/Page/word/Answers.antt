use Rattle.spirv.specs.Writer.{const_of, plan_of, clashes}
use Rattle.spirv.specs.Page.{wrote, clashed, entered}
use Rattle.spirv.proofs.page.Page.word.Goals as goal

pub returns-clause-listed : goal.returns-clause-listed
unfolding const_of
returns-clause-listed c = c.id_of.ensures.listed

pub returns-clause-written : goal.returns-clause-written
unfolding entered clashes clashed plan_of wrote
returns-clause-written c = rw c.id_of.ensures.id at c.value.ensures
