use Rattle.translation.specs.Helpers.{carry_flag}
use Rattle.translation.proofs.Follow.{by_call, by-op, by-ret}
use Rattle.translation.proofs.writer.Writer.carry_flag.Goals as goal

pub returns : goal.returns
unfolding carry_flag
returns c = by-op c.cell-c.ensures (by_call c.b2u.ensures by-ret)
