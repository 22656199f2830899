use mathlib.Core.Path.{sym, ◌∙◌}
use borrow.Author.Tests.{eq-eqb, ne_eqb}
use Rattle.stream_host.specs.Tested.{shape_block}
use Rattle.stream_host.proofs.Theorems.{fed-state, fed-told}
use borrow.Author.Rules.{rules}
use Rattle.stream_host.proofs.mehkura_shape_block.Goals as goal

pub put_state-requires : goal.put_state-requires
unfolding shape_block
put_state-requires c = c.if-state-eq45.true

pub shape_of-state-then-state-eq45 : goal.shape_of-state-then-state-eq45
unfolding shape_block
shape_of-state-then-state-eq45 c = fed-state _ _ _ _ c.put_state.ensures c.feed-fed.ensures ∙ sym c.if-state-eq45.true

pub returns-then-state-eq45 : goal.returns-then-state-eq45
unfolding shape_block
returns-then-state-eq45 c = rw (eq-eqb _ _ c.if-state-eq45.true) (fed-told _ _ _ _ _ c.state_of.ensures c.feed-fed.ensures c.put_state.ensures c.number.ensures)

pub returns : goal.returns
unfolding shape_block
returns c = rw (ne_eqb _ _ c.if-state-eq45.false)
