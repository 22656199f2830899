use native.Mathlib.Omega.{arith}
use Rattle.std.proofs.lemmas.Bool.Decides.{nat_tests}
use Rattle.translation.proofs.Carry.{sum-carried, sum-alone}
use Rattle.translation.proofs.writer.Writer.add_with_flags.Goals as goal

pub returns-then-cc : goal.returns-then-cc
returns-then-cc c = sum-carried c.args.carry_in c.args.cc (grind (arith, nat_tests)) c.two-v.ensures c.two-c.ensures c.add_carry-v2.ensures c.set_sum_cc.ensures

pub returns-else-cc : goal.returns-else-cc
returns-else-cc c = sum-alone c.args.carry_in c.args.cc (grind (arith, nat_tests)) c.two-v.ensures
