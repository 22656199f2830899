use Rattle.translation.specs.Strip.{system_value_mov}
use Rattle.translation.proofs.KindNumbers.{not-mov}
use Rattle.translation.proofs.answer.system_value_mov.Goals as goal

pub returns-in-Mov : goal.returns-in-Mov
unfolding system_value_mov
returns-in-Mov c = rw c.in-Mov.is

pub returns-in_default : goal.returns-in_default
unfolding system_value_mov
returns-in_default c = rw (not-mov c.args.k c.in_default.not-Mov)
