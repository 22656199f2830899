use Rattle.std.proofs.Common.{◌≡◌, cond, eqb, ◌∙◌, ne_eqb, rules}
use Rattle.spirv.specs.Writer.{Silent, Known}
use Rattle.spirv.specs.Page.{wrote}
use Rattle.spirv.proofs.Plans.{plan-slot, plan-note, plan-load, cell-entered}
use Rattle.spirv.proofs.page.Page.cell.Goals as goal
use Rattle.spirv.proofs.page.Page.cell.Goals.{then-k-eq4, else-k-eq4}

pub returns-in-10 : goal.returns-in-10
unfolding wrote
returns-in-10 c = (rw (c.lent.ensures, c.from-c.ensures) at c.value.ensures) ∙ cell-entered _ _ (Known _) _ _ (plan-slot _ _ _ _ c.in-10.is)

pub returns-in-110 : goal.returns-in-110
unfolding wrote
returns-in-110 c = cell-entered _ _ Silent _ _ (plan-note _ _ _ _ c.in-110.is)

pub returns-after-k-eq4 : goal.returns-after-k-eq4
returns-after-k-eq4 c =
    let place : c.if-k-eq4.lent ≡ cond (eqb c.args.k 4) 0 2 = elim c.if-k-eq4.branch [ then-k-eq4 w ↦ rw w.if-k-eq4.true w.lent-is | else-k-eq4 w ↦ rw (ne_eqb _ _ w.if-k-eq4.false) w.lent-is ] in
    (rw (c.lent-in_default.ensures, c.lent-ty.ensures, place, c.cells_at.ensures.0, c.from-c.ensures) at c.make.ensures) ∙ cell-entered _ _ _ _ _ (plan-load _ _ _ _ c.requires (ne_eqb _ _ (search rules)) (ne_eqb _ _ (search rules)))
