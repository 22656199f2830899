use borrow.Author.Tests.{eq-eqb, ne_eqb}
use Rattle.translation.specs.Arms.{iadd3_fetch}
use Rattle.translation.proofs.Follow.{by_call, by-no, by-ret, by-yes}
use Rattle.translation.proofs.writer.Writer.iadd3_fetch.Goals as goal

pub returns-then-i-eq0 : goal.returns-then-i-eq0
unfolding iadd3_fetch
returns-then-i-eq0 c = by-yes (eq-eqb _ _ c.if-i-eq0.true) (rw (← c.rb.ensures) (by_call c.r-b.ensures (by_call c.r_c-c.ensures (rw (← c.bits8.ensures) (by_call c.half_select-a.ensures (rw (← c.bits8-then-i-eq0.ensures) (by_call c.half_select-b2.ensures (rw (← c.bits8-then-i-eq0-2.ensures) (by_call c.half_select-c2.ensures (by_call c.iadd3_words.ensures by-ret))))))))))

pub returns-else-i-eq0 : goal.returns-else-i-eq0
unfolding iadd3_fetch
returns-else-i-eq0 c = by-no (ne_eqb _ _ c.if-i-eq0.false) (by_call c.src_b-b.ensures (by_call c.r_c-c-else-i-eq0.ensures (by_call c.iadd3_words-else-i-eq0.ensures by-ret)))
