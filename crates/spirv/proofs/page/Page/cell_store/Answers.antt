use Rattle.std.proofs.Common.{◌≡◌, ◌&&◌, eqb, refl, ap, ◌∙◌, ne_eqb}
use Rattle.spirv.specs.Writer.{plan_of}
use Rattle.spirv.specs.Page.{clashed}
use Rattle.spirv.proofs.Plans.{store-entered}
use Rattle.spirv.proofs.page.Page.cell_store.Goals as goal
use Rattle.spirv.proofs.page.Page.cell_store.Goals.{then-k-eq7, else-k-eq7}

pub returns : goal.returns
unfolding plan_of
returns c =
    let met : c.if-k-eq7.meets ≡ eqb c.args.k 7 && c.look-x.result.signed = elim c.if-k-eq7.branch [ then-k-eq7 w ↦ rw w.if-k-eq7.true w.meets-is | else-k-eq7 w ↦ rw (ne_eqb _ _ w.if-k-eq7.false) (rw (ne_eqb _ _ w.if-k-eq7.false) at w.meets-is) ] in
    c.meets.ensures ∙ ap (clashed _) c.store.ensures ∙ rw (met, c.lent.ensures, c.cells_at.ensures.0, c.from.ensures, c.look-x.ensures) (store-entered _ _ _ c.args.k c.args.c c.args.a refl)
