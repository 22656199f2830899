use mathlib.Core.Path.{refl}
use native.Mathlib.Omega.{arith}
use native.Mathlib.Nat.{mod-lt}
use lib.Pow.{pow_pos}
use Prim.Native.Nat.{◌%◌}
use Rattle.translation.specs.Insn.{bits}
use Rattle.translation.proofs.Write.{one_shift}
use Rattle.translation.proofs.insn.Insn.bits.Goals as goal

pub nonzero_rem-result-3 : goal.nonzero_rem-result-3
unfolding bits
nonzero_rem-result-3 c = let n = c.args.n % 64 in omega (arith, one_shift 64 n (omega arith), pow_pos n)

pub returns : goal.returns
unfolding bits
returns c = let n = c.args.n % 64 in rw (one_shift 64 n (omega arith)) (refl, mod-lt _ (pow_pos n))
