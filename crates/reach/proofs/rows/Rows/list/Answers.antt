use borrow.Author.Rules.{rules}
use Rattle.reach.proofs.ListedCells.{listed_by}
use Rattle.reach.proofs.rows.Rows.list.Goals as goal

pub returns : goal.returns
returns c = listed_by _ _ (record { regs = search rules; preds = search rules; flags = search rules; slots = search rules }) c.list_from.ensures c.list_from-2.ensures c.list_from-3.ensures c.list_from-4.ensures
