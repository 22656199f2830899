use mathlib.Core.Path.{refl}
use native.Mathlib.Omega.{arith}
use borrow.Author.Tests.{ne_eqb}
use Rattle.reach.specs.Rows.{load_place}
use Rattle.reach.proofs.walk.load_place.Goals as goal

pub returns-in-4 : goal.returns-in-4
unfolding load_place
returns-in-4 c = rw c.in-4.is c.cell_number.ensures

pub returns-in-5 : goal.returns-in-5
unfolding load_place
returns-in-5 c = rw c.in-5.is c.cell_number-in-5.ensures

pub returns-in-10 : goal.returns-in-10
unfolding load_place
returns-in-10 c = rw c.in-10.is c.cell_number-in-10.ensures

pub returns-in-110 : goal.returns-in-110
unfolding load_place
returns-in-110 c = rw c.in-110.is refl

pub returns-in_default : goal.returns-in_default
unfolding load_place
returns-in_default c = rw (ne_eqb c.args.k 4 (λ e. omega arith), ne_eqb c.args.k 5 (λ e. omega arith), ne_eqb c.args.k 10 (λ e. omega arith), ne_eqb c.args.k 110 (λ e. omega arith)) c.cell_number-in_default.ensures
