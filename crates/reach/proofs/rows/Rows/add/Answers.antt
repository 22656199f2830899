use Prim.Native.Nat.{◌%◌}
use native.Mathlib.Omega.{arith}
use Rattle.strip.proofs.Digits.{bit_at}
use Rattle.reach.specs.Rows.{add_cell}
use Rattle.reach.proofs.rows.Rows.add.Goals as goal

pub returns : goal.returns
unfolding add_cell
returns c = rw (bit_at (c.args.d % 64) (omega arith))
