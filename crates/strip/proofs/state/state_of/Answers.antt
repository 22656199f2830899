use Rattle.strip.specs.State.{state_of}
use native.Mathlib.Omega.{arith}
use borrow.Author.Tests.{eq-eqb, ne_eqb}
use Rattle.strip.proofs.state.state_of.Goals as goal

pub bounds-s-0 : goal.bounds-s-0
unfolding state_of
bounds-s-0 c = let h = c.if-s-eq45.true in omega arith

pub state_by-requires : goal.state_by-requires
unfolding state_of
state_by-requires c = c.if-s-eq45.true

pub returns-then-s-eq45 : goal.returns-then-s-eq45
unfolding state_of
returns-then-s-eq45 c = rw (eq-eqb _ _ c.if-s-eq45.true) c.state_by.ensures

pub returns : goal.returns
unfolding state_of
returns c = rw (ne_eqb _ _ c.if-s-eq45.false) c.refused.ensures
