use mathlib.Core.Path.{◌∙◌}
use Rattle.translation.proofs.Decided.{decided}
use Rattle.host.proofs.MarkBytes.{wrong-marks, tried, translated, refused}
use Rattle.host.proofs.marks.mehkura_translate.Goals as goal

pub returns-then-marks-ne128 : goal.returns-then-marks-ne128
returns-then-marks-ne128 c = wrong-marks _ _ _ _ c.if-marks-ne128.true

pub returns-in-Ok : goal.returns-in-Ok
returns-in-Ok c =
    translated c.translate-r.result _ _ _ c.in-Ok.is c.write_marks.ensures
    ∙ tried _ _ _ _ _ c.if-marks-ne128.false c.read_marks.ensures (decided c.translate-r.result _ _ _ _ c.translate-r.ensures)

pub returns-in-Err : goal.returns-in-Err
returns-in-Err c =
    refused c.translate-r.result _ _ _ c.in-Err.is c.from.ensures
    ∙ tried _ _ _ _ _ c.if-marks-ne128.false c.read_marks.ensures (decided c.translate-r.result _ _ _ _ c.translate-r.ensures)
