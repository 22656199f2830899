use Rattle.std.proofs.Common.{◌+◌, ◌-◌, ◌%◌, get_or, refl, arith, leb-true}
use lib.Bits.{and_le_l, and_le_r}
use Rattle.spirv.proofs.Tables.{rises_next, rises-end, wrapped-back}
use Rattle.spirv.proofs.table.rises.Goals as goal

pub loop-i-init : goal.loop-i-init
loop-i-init c = let f = c.type_inv.table 0 in rises_next c.args.table.now 0 ((0 + (4294967296 - get_or c.args.table.now 0 0)) % 4294967296) _ 0 ((0 + (4294967296 - get_or c.args.table.now 0 0)) % 4294967296) (omega (arith, c.requires)) (omega arith) (wrapped-back c.args.table.now 0 (get_or c.args.table.now 0 0) (omega arith) (omega (arith, f))) (omega arith) (omega (arith, f)) (omega arith) (omega arith) (λ h. (omega arith, refl))

pub loop-i-preserved : goal.loop-i-preserved
loop-i-preserved c =
    let f = c.type_inv.table c.loop-i.i in
    let g = c.type_inv.table (c.loop-i.i + 1) in
    rises_next c.args.table.now (get_or c.args.table.now c.loop-i.i 0) c.loop-i.high _ (c.loop-i.i + 1) ((get_or c.args.table.now c.loop-i.i 0 + (4294967296 - get_or c.args.table.now (c.loop-i.i + 1) 0)) % 4294967296) (omega (arith, c.requires, c.loop-i-test.true)) (omega (arith, c.loop-i-test.true)) (wrapped-back c.args.table.now (get_or c.args.table.now c.loop-i.i 0) (get_or c.args.table.now (c.loop-i.i + 1) 0) (omega (arith, f)) (omega (arith, g))) (omega arith) (omega (arith, g)) (and_le_l c.loop-i.high _) (and_le_r c.loop-i.high _) c.loop-i.invariant

pub returns : goal.returns
returns c = λ h. rises-end c.args.table.now _ c.loop-i.high (c.loop-i.i + 1) (omega (arith, c.requires, c.loop-i-test.false)) (leb-true _ _ h) c.loop-i.invariant
