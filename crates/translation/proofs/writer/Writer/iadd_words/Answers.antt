use mathlib.Core.Path.{◌≡◌}
use mathlib.Core.Bool.{not, ◌||◌, beq}
use native.Mathlib.Omega.{arith}
use Rattle.std.proofs.lemmas.Bool.Decides.{nat_tests}
use Rattle.translation.specs.Arms.{iadd_words}
use Rattle.translation.proofs.Follow.{by_call, by-ret}
use Rattle.translation.proofs.writer.Writer.iadd_words.Goals as goal

pub returns : goal.returns
unfolding iadd_words
returns c =
    let t : c.if-x.complement ≡ (c.args.x || not (beq c.args.na c.args.nb)) = grind (arith, nat_tests) in
    rw (← t) (by_call c.prepared-a.ensures (by_call c.prepared-b.ensures (by_call (c.sum_carry-carry.ensures.is _ _ _ _ c.add_with_flags-v.ensures) (by_call c.saturate_add-v.ensures (by_call c.set.ensures by-ret)))))
