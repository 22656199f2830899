use Rattle.translation.specs.Arms.{shf_words}
use Rattle.translation.proofs.Follow.{by_call, by-op, by-ret}
use Rattle.translation.proofs.writer.Writer.shf_words.Goals as goal

pub returns : goal.returns
unfolding shf_words
returns c = by-op c.u-c31.ensures (by-op c.u-c32.ensures (rw (← c.bit.ensures) (by_call c.shf_amount-amount.ensures (rw (← c.shf_left.ensures) (by_call c.shf_word-v.ensures (rw (← c.shf_plain.ensures) (by_call c.note_unless-v.ensures (by_call c.set_d.ensures by-ret))))))))
