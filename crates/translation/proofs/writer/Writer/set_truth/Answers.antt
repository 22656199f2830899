use Rattle.translation.specs.Arms.{set_truth}
use Rattle.translation.proofs.Follow.{by_call, by-ret}
use Rattle.translation.proofs.writer.Writer.set_truth.Goals as goal

pub returns : goal.returns
unfolding set_truth
returns c = rw (← c.truth_word.ensures) (by_call c.b2u-v.ensures (rw (← c.bit.ensures) (by_call c.set_cc_if-v.ensures (by_call c.set_d.ensures by-ret))))
