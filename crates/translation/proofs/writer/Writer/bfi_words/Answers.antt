use Rattle.translation.specs.Arms.{bfi_words}
use Rattle.translation.proofs.Follow.{by_call, by-ret}
use Rattle.translation.proofs.writer.Writer.bfi_words.Goals as goal

pub returns : goal.returns
unfolding bfi_words
returns c = by_call c.field_at_b-v.ensures (by_call c.set_d.ensures by-ret)
