use native.Mathlib.Omega.{arith}
use Rattle.std.proofs.lemmas.Bool.Decides.{nat_tests}
use Rattle.translation.specs.Arms.{vmnmx_saturate}
use Rattle.translation.proofs.Follow.{by-no, by-op, by-ret, by-yes}
use Rattle.translation.proofs.writer.Writer.vmnmx_saturate.Goals as goal

pub returns-then-not-signed : goal.returns-then-not-signed
unfolding vmnmx_saturate
returns-then-not-signed c = by-yes (grind (arith, nat_tests)) (by-op c.u-m.ensures (by-op c.two.ensures by-ret))

pub returns-then-signed : goal.returns-then-signed
unfolding vmnmx_saturate
returns-then-signed c = by-no (grind (arith, nat_tests)) (by-yes (grind (arith, nat_tests)) (by-op c.two-then-signed.ensures by-ret))

pub returns : goal.returns
unfolding vmnmx_saturate
returns c = by-no (grind (arith, nat_tests)) (by-no (grind (arith, nat_tests)) by-ret)
