use native.Mathlib.Omega.{arith}
use borrow.Author.Tests.{ne_eqb}
use Rattle.reach.specs.Rows.{store_place}
use Rattle.reach.proofs.walk.store_place.Goals as goal

pub returns-in-7 : goal.returns-in-7
unfolding store_place
returns-in-7 c = rw c.in-7.is c.cell_number.ensures

pub returns-in-8 : goal.returns-in-8
unfolding store_place
returns-in-8 c = rw c.in-8.is c.cell_number-in-8.ensures

pub returns-in_default : goal.returns-in_default
unfolding store_place
returns-in_default c = rw (ne_eqb c.args.k 7 (λ e. omega arith), ne_eqb c.args.k 8 (λ e. omega arith)) c.cell_number-in_default.ensures
