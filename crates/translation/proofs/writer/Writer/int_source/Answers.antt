use mathlib.Core.Path.{refl}
use native.Mathlib.Omega.{arith}
use borrow.Author.Tests.{ne_eqb}
use Rattle.translation.specs.Helpers.{int_source}
use Rattle.translation.proofs.Follow.{by-no, by-ret, by-yes}
use Rattle.translation.proofs.writer.Writer.int_source.Goals as goal

pub returns-in-0 : goal.returns-in-0
unfolding int_source
returns-in-0 c = rw c.in-0.is (by-yes refl c.field.ensures)

pub returns-in-1 : goal.returns-in-1
unfolding int_source
returns-in-1 c = rw c.in-1.is (by-no refl (by-yes refl c.field-in-1.ensures))

pub returns-in_default : goal.returns-in_default
unfolding int_source
returns-in_default c = by-no (ne_eqb c.args.size 0 (omega arith)) (by-no (ne_eqb c.args.size 1 (omega arith)) (by-ret))
