use mathlib.Core.Path.{◌≡◌}
use mathlib.Core.Bool.{◌||◌}
use native.Mathlib.Omega.{arith}
use lib.Dec.{ltb}
use Rattle.std.proofs.lemmas.Bool.Decides.{nat_tests}
use Rattle.translation.specs.Helpers.{saturate_by}
use Rattle.translation.proofs.Follow.{by_call, by-no, by-op, by-ret, by-yes}
use Rattle.translation.proofs.writer.Writer.saturate_by.Goals as goal

pub returns-after-to : goal.returns-after-to
unfolding saturate_by
returns-after-to c =
    let t : c.if-to.clamp_high ≡ (c.args.to || ltb c.args.size 2) = grind (arith, nat_tests) in
    by-yes c.if-from.true (rw (← c.lowest.ensures) (by-op c.u-lo.ensures (by-op c.one-vi.ensures (by-op c.one-lo2.ensures (by-op c.two-x.ensures (rw (← t) (by_call c.clamp_high-x2.ensures (by-op c.one.ensures by-ret))))))))

pub returns-else-from : goal.returns-else-from
unfolding saturate_by
returns-else-from c = by-no c.if-from.false (by-op c.two.ensures by-ret)
