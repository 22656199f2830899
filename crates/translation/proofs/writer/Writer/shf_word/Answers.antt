use Rattle.translation.specs.Arms.{shf_word}
use Rattle.translation.proofs.Follow.{by_call, by-no, by-op, by-ret, by-yes}
use Rattle.translation.proofs.writer.Writer.shf_word.Goals as goal

pub returns-then-left : goal.returns-then-left
unfolding shf_word
returns-then-left c = by-yes c.if-left.true (by-op c.two-inv.ensures (by-op c.two-a.ensures (by-op c.two-b.ensures (by-op c.two-v.ensures (by_call c.shf_select.ensures by-ret)))))

pub returns-else-left : goal.returns-else-left
unfolding shf_word
returns-else-left c = by-no c.if-left.false (by-op c.two-inv-else-left.ensures (by-op c.two-a-else-left.ensures (by-op c.two-b-else-left.ensures (by-op c.two-v-else-left.ensures (by_call c.shf_select-else-left.ensures by-ret)))))
