use borrow.Author.Tests.{eq-eqb, ne_eqb}
use Rattle.strip.specs.Stream.{settled}
use Rattle.strip.proofs.stream.settle.Goals as goal

pub returns-then-shape-eq0 : goal.returns-then-shape-eq0
unfolding settled
returns-then-shape-eq0 c = rw (eq-eqb _ _ c.if-shape-eq0.true) (rw c.refused.ensures)

pub returns : goal.returns
unfolding settled
returns c = rw (ne_eqb _ _ c.if-shape-eq0.false) (rw c.padded.ensures)
