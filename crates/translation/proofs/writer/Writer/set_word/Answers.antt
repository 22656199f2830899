use Rattle.translation.specs.Arms.{set_word}
use Rattle.translation.proofs.Follow.{by_call, by-ret}
use Rattle.translation.proofs.writer.Writer.set_word.Goals as goal

pub returns : goal.returns
unfolding set_word
returns c = rw (← c.bits8.ensures) (by_call c.bool_op-x.ensures (by_call c.set_truth.ensures by-ret))
