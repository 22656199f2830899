use native.Mathlib.Omega.{arith}
use mathlib.Core.Path.{refl}
use borrow.Author.Tests.{ne_eqb}
use Rattle.translation.specs.Arms.{vmnmx_merge}
use Rattle.translation.specs.Emit.{emits}
use Rattle.translation.proofs.Follow.{by-no, by-op, by-ret, by-yes}
use Rattle.translation.proofs.writer.Writer.vmnmx_merge.Goals as goal

pub returns-in-0 : goal.returns-in-0
unfolding vmnmx_merge emits
returns-in-0 c = rw c.in-0.is (record { is = c.vmnmx_insert.ensures.is })

pub returns-in-1 : goal.returns-in-1
unfolding vmnmx_merge emits
returns-in-1 c = rw c.in-1.is (record { is = c.vmnmx_insert-in-1.ensures.is })

pub returns-in-2 : goal.returns-in-2
unfolding vmnmx_merge emits
returns-in-2 c = rw c.in-2.is (record { is = c.vmnmx_insert-in-2.ensures.is })

pub returns-in-3 : goal.returns-in-3
unfolding vmnmx_merge emits
returns-in-3 c = rw c.in-3.is (record { is = c.vmnmx_insert-in-3.ensures.is })

pub returns-in-4 : goal.returns-in-4
unfolding vmnmx_merge emits
returns-in-4 c = rw c.in-4.is (by-no refl (by-no refl (by-no refl (by-no refl (by-yes refl (by-op c.two.ensures by-ret))))))

pub returns-in-5 : goal.returns-in-5
unfolding vmnmx_merge emits
returns-in-5 c = rw c.in-5.is (record { is = c.minimum.ensures.is })

pub returns-in-6 : goal.returns-in-6
unfolding vmnmx_merge emits
returns-in-6 c = rw c.in-6.is (record { is = c.maximum.ensures.is })

pub returns-in_default : goal.returns-in_default
unfolding vmnmx_merge emits
returns-in_default c = by-no (ne_eqb c.args.mode 0 (omega arith)) (by-no (ne_eqb c.args.mode 1 (omega arith)) (by-no (ne_eqb c.args.mode 2 (omega arith)) (by-no (ne_eqb c.args.mode 3 (omega arith)) (by-no (ne_eqb c.args.mode 4 (omega arith)) (by-no (ne_eqb c.args.mode 5 (omega arith)) (by-no (ne_eqb c.args.mode 6 (omega arith)) by-ret))))))
