use Rattle.std.proofs.Common.{ap, ◌∙◌, ne_eqb}
use Rattle.spirv.specs.Page.{clashed}
use Rattle.spirv.proofs.Plans.{plan-address, plan-insert, differ, address-entered, insert-entered}
use Rattle.spirv.proofs.page.Page.four.Goals as goal

pub returns-then-k-eq11 : goal.returns-then-k-eq11
returns-then-k-eq11 c = c.meets.ensures ∙ ap (clashed _) c.make.ensures ∙ rw (c.is_zero.ensures, c.lent.ensures, c.look-2.ensures, c.look.ensures, c.look-y.ensures, c.look-x.ensures) (address-entered _ _ _ _ _ _ _ _ c.if-k-eq11.true (plan-address _ _ _ _ _ _ _ c.if-k-eq11.true))

pub returns : goal.returns
returns c = c.meets-2.ensures ∙ ap (clashed _) c.make-2.ensures ∙ rw (differ, c.word_type.ensures, c.look-2.ensures, c.look.ensures, c.look-y.ensures, c.look-x.ensures) (insert-entered _ _ _ _ _ _ _ _ c.requires (ne_eqb _ _ c.if-k-eq11.false) (plan-insert _ _ _ _ _ _ _ c.requires (ne_eqb _ _ c.if-k-eq11.false)))
