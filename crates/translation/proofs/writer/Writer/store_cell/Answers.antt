use Rattle.translation.specs.Arms.{store_cell}
use Rattle.translation.proofs.Follow.{by-act, by-no, by-ret, by-yes}
use Rattle.translation.proofs.writer.Writer.store_cell.Goals as goal

pub returns-then-flag : goal.returns-then-flag
unfolding store_cell
returns-then-flag c = by-yes c.if-flag.true (by-act c.store.ensures by-ret)

pub returns-else-flag : goal.returns-else-flag
unfolding store_cell
returns-else-flag c = by-no c.if-flag.false (by-act c.store-else-flag.ensures by-ret)
