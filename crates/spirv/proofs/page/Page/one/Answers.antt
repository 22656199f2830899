use Rattle.std.proofs.Common.{◌∙◌, ne_eqb, rules}
use Rattle.spirv.specs.Writer.{Known}
use Rattle.spirv.specs.Page.{wrote}
use Rattle.spirv.proofs.Plans.{plan-fetch, plan-not, plan-open, plan-same, plan-other, one_word, one-entered}
use Rattle.spirv.proofs.page.Page.one.Goals as goal

pub returns-in-12 : goal.returns-in-12
returns-in-12 c = (rw (c.lent.ensures, c.look-x.ensures) at c.make.ensures) ∙ one-entered _ _ _ _ _ (plan-fetch _ _ _ _ c.in-12.is)

pub returns-in-80 : goal.returns-in-80
returns-in-80 c = (rw (c.lent-in-80.ensures, c.look-x.ensures) at c.make-in-80.ensures) ∙ one-entered _ _ _ _ _ (plan-not _ _ _ _ c.in-80.is)

pub returns-in-100 : goal.returns-in-100
returns-in-100 c = (rw c.look-x.ensures at c.open_block.ensures) ∙ one-entered _ _ _ _ _ (plan-open _ _ _ _ c.in-100.is)

pub returns-then-x-signed : goal.returns-then-x-signed
unfolding wrote
returns-then-x-signed c = (rw c.look-x.ensures at c.value.ensures) ∙ one-entered _ _ (Known _) _ _ (plan-same _ _ _ _ (search rules) (search rules) (rw c.look-x.ensures at c.if-x-signed.true))

pub returns-else-x-signed : goal.returns-else-x-signed
returns-else-x-signed c = (rw (c.word_type.ensures, c.look-x.ensures) at c.make-in-23.ensures) ∙ one-entered _ _ _ _ _ (plan-other _ _ _ _ (search rules) (search rules) (rw c.look-x.ensures at c.if-x-signed.false))

pub returns-in_default : goal.returns-in_default
returns-in_default c = (rw (c.word_type-in_default.ensures, c.op_of.ensures, c.lent-in_default.ensures, c.look-x.ensures) at c.apply.ensures) ∙ one-entered _ _ _ _ _ (one_word _ _ _ _ c.requires (ne_eqb _ _ (search rules), ne_eqb _ _ (search rules), ne_eqb _ _ (search rules), ne_eqb _ _ (search rules), ne_eqb _ _ (search rules)))
