use Rattle.translation.specs.Arms.{lea_word}
use Rattle.translation.proofs.Follow.{by_call, by-no, by-op, by-ret, by-yes}
use Rattle.translation.proofs.writer.Writer.lea_word.Goals as goal

pub returns-then-lea_high : goal.returns-then-lea_high
unfolding lea_word
returns-then-lea_high c = rw (← c.lea_high.ensures) (by-yes c.if-lea_high.true (rw (← c.lea_shift-sh.ensures.0) (by_call c.r_c-c.ensures (by-op c.u-s.ensures (by-op c.u-inv.ensures (by-op c.two-x.ensures (by-op c.two-y.ensures (by_call c.lea_join.ensures by-ret))))))))

pub returns-else-lea_high : goal.returns-else-lea_high
unfolding lea_word
returns-else-lea_high c = rw (← c.lea_high.ensures) (by-no c.if-lea_high.false (rw (← c.lea_shift.ensures.0) (by-op c.u-s-else-lea_high.ensures (by-op c.two.ensures by-ret))))
