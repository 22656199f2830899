use mathlib.Core.Path.{◌≡◌, sym}
use native.Mathlib.Omega.{arith}
use lib.ListN.{length}
use lib.Seq.{set_out}
use Prim.Native.Nat.{◌≤◌}
use Rattle.translation.specs.Marks.{raise}
use borrow.Author.Rules.{rules}
use Rattle.translation.proofs.answer.raise.Goals as goal

pub returns-then-k-lt32 : goal.returns-then-k-lt32
unfolding raise
returns-then-k-lt32 c = rw (← c.max.ensures)

pub returns-else-k-lt32 : goal.returns-else-k-lt32
unfolding raise
returns-else-k-lt32 c = let h : length c.args.marks.now ≡ 32 = search rules in let k : length c.args.marks.now ≤ c.args.slot = omega arith in sym (set_out _ _ _ k)
