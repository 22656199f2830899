use Rattle.strip_printer.specs.Line.{goes_on}
use Rattle.strip_printer.proofs.line.goes_on.Goals as goal

pub returns-in-Ok : goal.returns-in-Ok
unfolding goes_on
returns-in-Ok c = rw c.in-Ok.is

pub returns-in-Err : goal.returns-in-Err
unfolding goes_on
returns-in-Err c = rw (c.in-Err.is, ← c.from.ensures)
