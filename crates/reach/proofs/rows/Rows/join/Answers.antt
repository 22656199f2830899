use Rattle.std.proofs.Common.{◌∙◌, arith, get_or}
use Rattle.reach.proofs.NewRow.{row-words-at, joined-none, joined_more, joined-all}
use Rattle.reach.proofs.rows.Rows.join.Goals as goal

pub loop-i-init : goal.loop-i-init
loop-i-init c = joined-none _ _ _ c.row-row.ensures

pub loop-i-preserved : goal.loop-i-preserved
loop-i-preserved c = let l = c.loop-i in joined_more l.invariant (get_or c.row.result l.i 0) (rw c.row.ensures (row-words-at _ _ l.i c.loop-i-test.true)) c.loop-i-test.true

pub returns : goal.returns
returns c = c.put.ensures ∙ joined-all _ c.args.to c.args.from c.loop-i.invariant (omega arith)
