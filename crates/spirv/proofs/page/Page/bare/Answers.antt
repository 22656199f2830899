use Rattle.std.proofs.Common.{◌∙◌, ne_eqb, rules}
use Rattle.spirv.specs.Writer.{const_of, with_new, Silent, Known}
use Rattle.spirv.specs.Page.{wrote}
use Rattle.spirv.proofs.Plans.{plan-true, plan-false, plan-close, plan-end, bare-entered}
use Rattle.spirv.proofs.page.Page.bare.Goals as goal

pub returns-in-2-clause-listed : goal.returns-in-2-clause-listed
unfolding const_of
returns-in-2-clause-listed c = rw c.in-2.is c.id_of.ensures.listed

pub returns-in-2-clause-written : goal.returns-in-2-clause-written
unfolding wrote
returns-in-2-clause-written c = (rw c.id_of.ensures.id at c.value.ensures) ∙ bare-entered _ _ (Known _) _ (plan-true _ _ _ c.in-2.is)

pub returns-in-3-clause-listed : goal.returns-in-3-clause-listed
unfolding const_of
returns-in-3-clause-listed c = rw c.in-3.is c.id_of-in-3.ensures.listed

pub returns-in-3-clause-written : goal.returns-in-3-clause-written
unfolding wrote
returns-in-3-clause-written c = (rw c.id_of-in-3.ensures.id at c.value-in-3.ensures) ∙ bare-entered _ _ (Known _) _ (plan-false _ _ _ c.in-3.is)

pub returns-in-101-clause-listed : goal.returns-in-101-clause-listed
unfolding const_of with_new
returns-in-101-clause-listed c = rw c.in-101.is

pub returns-in-101-clause-written : goal.returns-in-101-clause-written
returns-in-101-clause-written c = c.close_block.ensures ∙ bare-entered _ _ _ _ (plan-close _ _ _ c.in-101.is)

pub returns-in_default-clause-listed : goal.returns-in_default-clause-listed
unfolding const_of with_new
returns-in_default-clause-listed c = rw (ne_eqb c.args.k 2 (search rules), ne_eqb c.args.k 3 (search rules))

pub returns-in_default-clause-written : goal.returns-in_default-clause-written
unfolding wrote
returns-in_default-clause-written c = bare-entered _ _ Silent _ (plan-end _ _ _ (ne_eqb _ _ (search rules)) (ne_eqb _ _ (search rules)) (ne_eqb _ _ (search rules)))
