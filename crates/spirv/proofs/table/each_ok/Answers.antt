use Rattle.std.proofs.Common.{◌-◌, sym, ◌∙◌, arith}
use Rattle.spirv.proofs.Tables.{among-here, among-end, sound-twice, sound-whole, walks_next, begun-start, begun-back, begun-next}
use Rattle.spirv.proofs.table.each_ok.Goals as goal

pub loop-i-init : goal.loop-i-init
loop-i-init c = begun-start c.args.table.now c.args.bound c.requires

pub returns-then-table-j : goal.returns-then-table-j
returns-then-table-j c = sound-whole c.args.bound c.args.table.now (c.loop-i.i - 1) (sound-twice c.args.bound c.args.table.now (c.loop-i.i - 1) (omega (arith, c.requires, c.loop-i.invariant.most, c.loop-i-test.true)) (sym (among-here c.args.table.now _ c.loop-j.j (omega (arith, c.requires, c.loop-j-test.true)) c.if-table-j.true ∙ c.loop-j.invariant.rest)))

pub loop-j-preserved : goal.loop-j-preserved
loop-j-preserved c = rw c.from-j-in-loop-j.ensures (walks_next c.args.table.now _ _ c.loop-j.j _ (omega (arith, c.requires, c.loop-j-test.true)) c.if-table-j.false c.loop-j.invariant ((begun-back c.args.table.now c.args.bound _ _ c.loop-i.i c.loop-i-test.true c.loop-i.invariant).next c.loop-j.j c.loop-j.invariant.up c.loop-j-test.true))

pub loop-i-preserved : goal.loop-i-preserved
loop-i-preserved c = begun-next c.args.table.now c.args.bound c.requires _ _ (c.loop-i.i - 1) _ c.bucket-h.ensures.0 c.bucket-h.ensures.1 (omega (arith, c.loop-i.invariant.most, c.loop-i-test.true)) (begun-back c.args.table.now c.args.bound _ _ c.loop-i.i c.loop-i-test.true c.loop-i.invariant) (sym c.lent_ok.ensures ∙ c.if-not-lent_ok.false) (sym (among-end c.args.table.now _ c.loop-j.j (omega (arith, c.requires, c.loop-j-test.false)) ∙ c.loop-j.invariant.rest))
