use native.Mathlib.Omega.{arith}
use Rattle.reach.proofs.Scan.{low_zeros}
use Rattle.reach.proofs.rows.low_zeros.Goals as goal

pub returns : goal.returns
returns c = (omega (arith, c.min.ensures), λ j h. low_zeros 64 c.args.w j (omega (arith, c.min.ensures)))
