use Rattle.translation.specs.Helpers.{saturate_int}
use Rattle.translation.proofs.Follow.{by_call, by-op, by-ret}
use Rattle.translation.proofs.writer.Writer.saturate_int.Goals as goal

pub returns : goal.returns
unfolding saturate_int
returns c = rw (← c.highest.ensures) (by-op c.u-hi.ensures (by_call c.saturate_by.ensures by-ret))
