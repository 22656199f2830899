use borrow.Author.Rules.{rules}
use Rattle.reach.proofs.ListedCells.{collected-by}
use Rattle.reach.proofs.rows.Rows.collect.Goals as goal

pub returns : goal.returns
returns c = collected-by _ _ (record { regs = search rules; preds = search rules; flags = search rules; slots = search rules }) c.gather.ensures c.gather-2.ensures c.gather-3.ensures c.gather-4.ensures c.join.ensures
