use mathlib.Core.Path.{◌≡◌}
use Prim.Native.Nat.{ℕ, ◌%◌, ◌^◌, ◌≤◌, ◌<◌}
use native.Mathlib.Nat.{lt_of_lt_of_le}
use native.Mathlib.Omega.{arith}
use lib.Pow.{pow_mono}
use borrow.Author.Rules.{rules}
use Rattle.translation.proofs.insn.Insn.bits8.Goals as goal

-- the count is below 9, so what is counted is below 256
count : (n : ℕ) → n % 9 % 64 ≡ n % 9
count n = omega arith

byte : (n : ℕ) → 2 ^ (n % 9 % 64) ≤ 256
byte n = pow_mono {j = 8} (omega arith)

pub overflow_cast-result : goal.overflow_cast-result
overflow_cast-result c = let h : c.bits.result < 256 = lt_of_lt_of_le c.bits.ensures.1 (byte c.args.n) in search (rules, h)

pub returns : goal.returns
returns c = rw (← count c.args.n) c.bits.ensures.0
