use Rattle.std.proofs.Common.{refl}
use Rattle.strip_printer.proofs.Text.{refused-is}
use Rattle.strip_printer.proofs.line.refusal.Goals as goal

pub returns : goal.returns
returns c = record { out_after = refused-is _ _ _ _ _ c.copy.ensures c.digit.ensures; value = refl }
