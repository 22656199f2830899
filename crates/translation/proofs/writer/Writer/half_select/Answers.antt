use mathlib.Core.Path.{refl}
use native.Mathlib.Omega.{arith}
use borrow.Author.Tests.{ne_eqb}
use Rattle.translation.specs.Helpers.{half_select}
use Rattle.translation.proofs.Follow.{by-no, by-ret, by-yes}
use Rattle.translation.proofs.writer.Writer.half_select.Goals as goal

pub returns-in-1 : goal.returns-in-1
unfolding half_select
returns-in-1 c = rw c.in-1.is (by-yes refl c.half16.ensures)

pub returns-in-2 : goal.returns-in-2
unfolding half_select
returns-in-2 c = rw c.in-2.is (by-no refl (by-yes refl c.half16-in-2.ensures))

pub returns-in_default : goal.returns-in_default
unfolding half_select
returns-in_default c = by-no (ne_eqb c.args.sel 1 (omega arith)) (by-no (ne_eqb c.args.sel 2 (omega arith)) (by-ret))
