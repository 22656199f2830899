use mathlib.Core.Path.{◌∙◌}
use Rattle.host.proofs.CellBytes.{wrong-length, ran, done, refused}
use Rattle.host.proofs.cells.mehkura_reach.Goals as goal

pub returns-then-cells-ne298 : goal.returns-then-cells-ne298
returns-then-cells-ne298 c = rw c.from.ensures (wrong-length c.args.run.now _ c.if-cells-ne298.true)

pub returns-in-Ok : goal.returns-in-Ok
returns-in-Ok c = done c.reach-r.result _ c.in-Ok.is c.write_cells.ensures ∙ ran _ _ c.reach-r.result c.if-cells-ne298.false c.read_cells.ensures c.reach-r.ensures

pub returns-in-Err : goal.returns-in-Err
returns-in-Err c = rw c.from-in-Err.ensures (refused c.reach-r.result _ _ c.in-Err.is) ∙ ran _ _ c.reach-r.result c.if-cells-ne298.false c.read_cells.ensures c.reach-r.ensures
