use Rattle.translation.specs.Arms.{p2r_turn}
use Rattle.translation.proofs.Follow.{by_call, by-no, by-op, by-ret, by-yes}
use Rattle.translation.proofs.writer.Writer.p2r_turn.Goals as goal

pub returns-then-asked : goal.returns-then-asked
unfolding p2r_turn
returns-then-asked c = rw (← c.asked.ensures) (by-yes c.if-asked.true (rw (← c.bit.ensures) (by_call c.load_cell-t.ensures (rw (← c.cell_bit.ensures) (by_call c.b2u-b.ensures (by-op c.two.ensures by-ret))))))

pub returns-else-asked : goal.returns-else-asked
unfolding p2r_turn
returns-else-asked c = rw (← c.asked.ensures) (by-no c.if-asked.false by-ret)
