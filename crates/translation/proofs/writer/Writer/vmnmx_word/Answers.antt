use Rattle.translation.specs.Arms.{vmnmx_word}
use Rattle.translation.proofs.Follow.{by_call, by-no, by-ret, by-yes}
use Rattle.translation.proofs.writer.Writer.vmnmx_word.Goals as goal

pub returns-then-sa-sb : goal.returns-then-sa-sb
unfolding vmnmx_word
returns-then-sa-sb c = by-yes c.if-sa-sb.true (by_call c.min_or_max.ensures by-ret)

pub returns-then-sa : goal.returns-then-sa
unfolding vmnmx_word
returns-then-sa c = by-no c.if-sa-sb.false (by-yes c.if-sa.true (by_call c.vmnmx_first-v.ensures (by_call c.vmnmx_mixed.ensures by-ret)))

pub returns : goal.returns
unfolding vmnmx_word
returns c = by-no c.if-sa-sb.false (by-no c.if-sa.false (by_call c.vmnmx_first-v-2.ensures (by_call c.vmnmx_mixed-2.ensures by-ret)))
