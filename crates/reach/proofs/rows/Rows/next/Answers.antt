use native.Mathlib.Omega.{arith}
use Rattle.reach.proofs.Scan.{no-cell-to}
use Rattle.reach.proofs.rows.Rows.next.Goals as goal

pub returns : goal.returns
returns c = (omega arith, no-cell-to _ _ _ c.low_zeros.ensures.0 c.low_zeros.ensures.1)
