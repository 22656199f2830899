use native.Mathlib.Omega.{arith}
use mathlib.Core.Path.{refl}
use borrow.Author.Tests.{ne_eqb}
use Rattle.translation.specs.Arms.{iadd3_shift}
use Rattle.translation.proofs.Follow.{by-no, by-op, by-ret, by-yes}
use Rattle.translation.proofs.writer.Writer.iadd3_shift.Goals as goal

pub returns-in-1 : goal.returns-in-1
unfolding iadd3_shift
returns-in-1 c = rw c.in-1.is (by-yes refl (by-op c.two.ensures by-ret))

pub returns-in-2 : goal.returns-in-2
unfolding iadd3_shift
returns-in-2 c = rw c.in-2.is (by-no refl (by-yes refl (by-op c.two-in-2.ensures by-ret)))

pub returns-in_default : goal.returns-in_default
unfolding iadd3_shift
returns-in_default c = by-no (ne_eqb c.args.s 1 (omega arith)) (by-no (ne_eqb c.args.s 2 (omega arith)) by-ret)
