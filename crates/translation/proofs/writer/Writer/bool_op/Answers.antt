use native.Mathlib.Omega.{arith}
use mathlib.Core.Path.{refl}
use borrow.Author.Tests.{ne_eqb}
use Rattle.translation.specs.Helpers.{bool_op}
use Rattle.translation.proofs.Follow.{by-no, by-op, by-ret, by-yes}
use Rattle.translation.proofs.writer.Writer.bool_op.Goals as goal

pub returns-in-0 : goal.returns-in-0
unfolding bool_op
returns-in-0 c = rw c.in-0.is (by-yes refl (by-op c.two.ensures by-ret))

pub returns-in-1 : goal.returns-in-1
unfolding bool_op
returns-in-1 c = rw c.in-1.is (by-no refl (by-yes refl (by-op c.two-in-1.ensures by-ret)))

pub returns-in_default : goal.returns-in_default
unfolding bool_op
returns-in_default c = by-no (ne_eqb c.args.o 0 (omega arith)) (by-no (ne_eqb c.args.o 1 (omega arith)) (by-op c.two-in_default.ensures by-ret))
