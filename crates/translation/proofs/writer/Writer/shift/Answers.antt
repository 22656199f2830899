use mathlib.Core.Path.{◌≡◌}
use mathlib.Core.Bool.{not, ◌&&◌}
use native.Mathlib.Omega.{arith}
use Rattle.std.proofs.lemmas.Bool.Decides.{nat_tests}
use Rattle.translation.specs.Helpers.{shift}
use Rattle.translation.proofs.Follow.{by_call, by-op, by-ret}
use Rattle.translation.proofs.writer.Writer.shift.Goals as goal

pub returns : goal.returns
unfolding shift
returns c =
    let t : c.if-signed.shift_end ≡ (c.args.signed && not c.args.left) = grind (arith, nat_tests) in
    by-op c.u-c31.ensures (by-op c.two-amount.ensures (by_call c.shifted-v.ensures (rw (← t) (by_call c.shift_end.ensures by-ret))))
