use Rattle.std.proofs.Common.{sym, ne_eqb}
use Rattle.evaluation.specs.State.{loaded, with_cell}
use Rattle.evaluation.proofs.Cases.{no_cell}
use Rattle.evaluation.proofs.state.State.load.Goals as goal

pub returns-in_default : goal.returns-in_default
unfolding loaded with_cell
returns-in_default c = sym (no_cell _ c.args.e _ c.in_default.not-Cell)

pub returns-then-k-eq4 : goal.returns-then-k-eq4
unfolding loaded with_cell
returns-then-k-eq4 c = rw (c.in-Cell.is, c.if-k-eq4.true) c.load_register.ensures

pub returns-then-k-eq5 : goal.returns-then-k-eq5
unfolding loaded with_cell
returns-then-k-eq5 c = rw (c.in-Cell.is, c.if-k-eq5.true) c.load_predicate.ensures

pub returns : goal.returns
unfolding loaded with_cell
returns c = rw (c.in-Cell.is, ne_eqb _ _ c.if-k-eq4.false, ne_eqb _ _ c.if-k-eq5.false) c.load_flag.ensures
