use Rattle.translation.specs.Helpers.{carry_flag_sum, carry_one_sum, carry_sum}
use Rattle.translation.proofs.Follow.{by_call, by-no, by-op, by-ret, by-yes}
use Rattle.translation.proofs.writer.Writer.sum_carry.Goals as goal

pub returns-then-x : goal.returns-then-x
unfolding carry_sum carry_flag_sum carry_one_sum
returns-then-x c = record { is = λ cc a d n q. by-yes c.if-x.true (by_call c.carry_flag.ensures (by_call q by-ret)) }

pub returns-then-one : goal.returns-then-one
unfolding carry_sum carry_flag_sum carry_one_sum
returns-then-one c = record { is = λ cc a d n q. by-no c.if-x.false (by-yes c.if-one.true (by-op c.u.ensures (by_call q by-ret))) }

pub returns : goal.returns
unfolding carry_sum carry_flag_sum carry_one_sum
returns c = record { is = λ cc a d n q. by-no c.if-x.false (by-no c.if-one.false q) }
