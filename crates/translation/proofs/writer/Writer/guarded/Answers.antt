use borrow.Author.Tests.{eq-eqb, ne_eqb}
use Rattle.translation.specs.Whole.{writes}
use Rattle.translation.proofs.writer.Writer.guarded.Goals.{then-g-eq7, else-g-eq7}
use Rattle.translation.proofs.writer.Writer.guarded.Goals as goal

pub returns-then-never_runs : goal.returns-then-never_runs
unfolding writes
returns-then-never_runs c = rw (← c.never_runs.ensures, c.if-never_runs.true) c.bare.ensures.is

pub returns : goal.returns
unfolding writes
returns c =
    rw (c.bare-2.ensures.is, ← c.never_runs.ensures, c.if-never_runs.false, ← c.guard-g.ensures)
    (elim c.if-g-eq7.branch [
      | then-g-eq7 w ↦ rw (w.self-is, eq-eqb _ _ w.if-g-eq7.true, ← w.op.ensures.is)
      | else-g-eq7 w ↦
          rw (w.self-is, ne_eqb _ _ w.if-g-eq7.false, ← w.bit.ensures, ← w.p-c.ensures.is, ← w.open.ensures.is, ← w.op-else-g-eq7.ensures.is, ← w.bare-else-g-eq7.ensures.is)
    ])
