use mathlib.Core.Path.{◌≡◌}
use native.Mathlib.Omega.{arith}
use lib.ListN.{length}
use borrow.Author.Rules.{rules}
use Rattle.host.proofs.CellBytes.{cells-written}
use Rattle.host.proofs.cells.write_cells.Goals as goal

pub write_truths-requires : goal.write_truths-requires
write_truths-requires c = let e : length c.args.c.now.regs ≡ 255 = search rules in omega (arith, e, c.requires)

pub write_truths-requires-2 : goal.write_truths-requires-2
write_truths-requires-2 c = let e : length c.args.c.now.preds ≡ 7 = search rules in omega (arith, e, c.requires)

pub write_truths-requires-3 : goal.write_truths-requires-3
write_truths-requires-3 c = let e : length c.args.c.now.flags ≡ 4 = search rules in omega (arith, e, c.requires)

pub write_truths-requires-4 : goal.write_truths-requires-4
write_truths-requires-4 c = let e : length c.args.c.now.slots ≡ 32 = search rules in omega (arith, e, c.requires)

pub returns : goal.returns
returns c =
    let r : length c.args.c.now.regs ≡ 255 = search rules in let p : length c.args.c.now.preds ≡ 7 = search rules in
    let f : length c.args.c.now.flags ≡ 4 = search rules in let k : length c.args.c.now.slots ≡ 32 = search rules in
    cells-written c.args.c.now c.args.bytes.now r p f k c.requires c.write_truths.ensures c.write_truths-2.ensures c.write_truths-3.ensures c.write_truths-4.ensures
