use Rattle.translation.specs.Arms.{r2p_turn}
use Rattle.translation.proofs.Follow.{by_call, by-no, by-op, by-ret, by-yes}
use Rattle.translation.proofs.writer.Writer.r2p_turn.Goals as goal

pub returns-then-asked : goal.returns-then-asked
unfolding r2p_turn
returns-then-asked c = rw (← c.asked.ensures) (by-yes c.if-asked.true (rw (← c.cell_bit.ensures) (by-op c.u-m.ensures (by-op c.two-v.ensures (by-op c.u-zero.ensures (by-op c.two-t.ensures (rw (← c.bit.ensures) (by_call c.store_cell.ensures by-ret))))))))

pub returns-else-asked : goal.returns-else-asked
unfolding r2p_turn
returns-else-asked c = rw (← c.asked.ensures) (by-no c.if-asked.false by-ret)
