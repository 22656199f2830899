use native.Mathlib.Omega.{arith}
use mathlib.Core.Path.{refl}
use borrow.Author.Tests.{ne_eqb}
use Rattle.translation.specs.Arms.{lop_test}
use Rattle.translation.proofs.Follow.{by-no, by-op, by-ret, by-yes}
use Rattle.translation.proofs.writer.Writer.lop_test.Goals as goal

pub returns-in-2 : goal.returns-in-2
unfolding lop_test
returns-in-2 c = rw c.in-2.is (by-yes refl (by-op c.two.ensures by-ret))

pub returns-in-3 : goal.returns-in-3
unfolding lop_test
returns-in-3 c = rw c.in-3.is (by-no refl (by-yes refl (by-op c.two-in-3.ensures by-ret)))

pub returns-in-1 : goal.returns-in-1
unfolding lop_test
returns-in-1 c = rw c.in-1.is (by-no refl (by-no refl (by-yes refl (by-op c.truth.ensures by-ret))))

pub returns-in_default : goal.returns-in_default
unfolding lop_test
returns-in_default c = by-no (ne_eqb c.args.t 2 (omega arith)) (by-no (ne_eqb c.args.t 3 (omega arith)) (by-no (ne_eqb c.args.t 1 (omega arith)) (by-op c.truth-in_default.ensures by-ret)))
