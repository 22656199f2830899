use Rattle.std.proofs.Common.{ap, ◌∙◌, ne_eqb, rules}
use Rattle.spirv.specs.Page.{clashed}
use Rattle.spirv.proofs.Plans.{plan-select, plan-u-extract, plan-s-extract, differ, select-entered, extract-entered}
use Rattle.spirv.proofs.page.Page.three.Goals as goal

pub returns-in-90 : goal.returns-in-90
returns-in-90 c = c.meets.ensures ∙ ap (clashed _) c.make.ensures ∙ rw (differ, c.word_type.ensures, c.look-z.ensures, c.look-y.ensures, c.look-x.ensures) (select-entered _ _ _ _ _ _ _ c.in-90.is (plan-select _ _ _ _ _ _ c.in-90.is))

pub returns-in-91 : goal.returns-in-91
returns-in-91 c = (rw (c.word_type-in-91.ensures, c.look-z.ensures, c.look-y.ensures, c.look-x.ensures) at c.make-in-91.ensures) ∙ extract-entered _ _ _ _ _ _ _ (ne_eqb _ _ (search rules)) (plan-u-extract _ _ _ _ _ _ c.in-91.is)

pub returns-in_default : goal.returns-in_default
returns-in_default c = (rw (c.word_type-in_default.ensures, c.look-z.ensures, c.look-y.ensures, c.look-x.ensures) at c.make-in_default.ensures) ∙ extract-entered _ _ _ _ _ _ _ (ne_eqb _ _ (search rules)) (plan-s-extract _ _ _ _ _ _ c.requires (ne_eqb _ _ (search rules)) (ne_eqb _ _ (search rules)))
