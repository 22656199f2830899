use native.Mathlib.Omega.{arith}
use Rattle.std.proofs.Common.{rules}
use Rattle.strip.proofs.Write.{puts-part}
use Rattle.strip.proofs.writer.put_four_bytes.Goals as goal

pub returns : goal.returns
returns c = puts-part _ _ _ _ _ (search rules) (omega arith) (omega arith)
