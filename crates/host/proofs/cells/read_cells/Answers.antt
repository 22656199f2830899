use Rattle.host.proofs.CellBytes.{cells-read}
use Rattle.host.proofs.cells.read_cells.Goals as goal

pub returns : goal.returns
returns c = cells-read _ c.read_truths.ensures c.read_truths-2.ensures c.read_truths-3.ensures c.read_truths-4.ensures
