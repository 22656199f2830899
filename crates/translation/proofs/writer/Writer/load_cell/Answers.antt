use Rattle.translation.specs.Arms.{load_cell}
use Rattle.translation.proofs.Follow.{by-no, by-op, by-ret, by-yes}
use Rattle.translation.proofs.writer.Writer.load_cell.Goals as goal

pub returns-then-flag : goal.returns-then-flag
unfolding load_cell
returns-then-flag c = by-yes c.if-flag.true (by-op c.cell.ensures by-ret)

pub returns-else-flag : goal.returns-else-flag
unfolding load_cell
returns-else-flag c = by-no c.if-flag.false c.predicate.ensures
