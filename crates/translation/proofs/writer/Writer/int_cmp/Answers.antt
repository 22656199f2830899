use native.Mathlib.Omega.{arith}
use mathlib.Core.Path.{refl}
use borrow.Author.Tests.{ne_eqb}
use Rattle.translation.specs.Helpers.{int_cmp}
use Rattle.translation.specs.Emit.{emits}
use Rattle.translation.proofs.Follow.{by-no, by-op, by-ret, by-yes}
use Rattle.translation.proofs.writer.Writer.int_cmp.Goals as goal

pub returns-in-0 : goal.returns-in-0
unfolding int_cmp emits
returns-in-0 c = rw c.in-0.is (by-yes refl (by-op c.truth.ensures by-ret))

pub returns-in-1 : goal.returns-in-1
unfolding int_cmp emits
returns-in-1 c = rw c.in-1.is (record { is = c.less_than.ensures.is })

pub returns-in-2 : goal.returns-in-2
unfolding int_cmp emits
returns-in-2 c = rw c.in-2.is (by-no refl (by-no refl (by-yes refl (by-op c.two.ensures by-ret))))

pub returns-in-3 : goal.returns-in-3
unfolding int_cmp emits
returns-in-3 c = rw c.in-3.is (record { is = c.less_than_equal.ensures.is })

pub returns-in-4 : goal.returns-in-4
unfolding int_cmp emits
returns-in-4 c = rw c.in-4.is (record { is = c.greater_than.ensures.is })

pub returns-in-5 : goal.returns-in-5
unfolding int_cmp emits
returns-in-5 c = rw c.in-5.is (by-no refl (by-no refl (by-no refl (by-no refl (by-no refl (by-yes refl (by-op c.two-in-5.ensures by-ret)))))))

pub returns-in-6 : goal.returns-in-6
unfolding int_cmp emits
returns-in-6 c = rw c.in-6.is (record { is = c.greater_than_equal.ensures.is })

pub returns-in_default : goal.returns-in_default
unfolding int_cmp emits
returns-in_default c = by-no (ne_eqb c.args.o 0 (omega arith)) (by-no (ne_eqb c.args.o 1 (omega arith)) (by-no (ne_eqb c.args.o 2 (omega arith)) (by-no (ne_eqb c.args.o 3 (omega arith)) (by-no (ne_eqb c.args.o 4 (omega arith)) (by-no (ne_eqb c.args.o 5 (omega arith)) (by-no (ne_eqb c.args.o 6 (omega arith)) (by-op c.truth-in_default.ensures by-ret)))))))
