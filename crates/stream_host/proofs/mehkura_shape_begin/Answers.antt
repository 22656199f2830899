use mathlib.Core.Path.{sym, ◌∙◌}
use Rattle.stream_host.proofs.Theorems.{begun-state, begun-known, begun-long, begun-none}
use Rattle.stream_host.proofs.mehkura_shape_begin.Goals as goal

pub returns-in_default : goal.returns-in_default
returns-in_default c = begun-none _ _ (sym c.try_from.ensures ∙ c.in_default.is)

pub put_state-requires : goal.put_state-requires
put_state-requires c = c.if-state-eq45.true

pub shape_of-state-then-state-eq45 : goal.shape_of-state-then-state-eq45
shape_of-state-then-state-eq45 c = begun-state _ _ _ c.put_state.ensures c.new.ensures ∙ sym c.if-state-eq45.true

pub returns-then-state-eq45 : goal.returns-then-state-eq45
returns-then-state-eq45 c = begun-known _ _ _ _ _ (sym c.try_from.ensures ∙ c.in-Ok.is) c.if-state-eq45.true c.new.ensures c.put_state.ensures

pub returns : goal.returns
returns c = begun-long _ _ _ (sym c.try_from.ensures ∙ c.in-Ok.is) c.if-state-eq45.false
