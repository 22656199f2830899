use mathlib.Core.Path.{ap, sym, ◌∙◌}
use Rattle.stream_host.specs.Tested.{shape_end}
use Rattle.strip.specs.Stream.{at_end}
use borrow.Author.Rules.{rules}
use Rattle.stream_host.proofs.mehkura_shape_end.Goals as goal

pub returns-then-at_end : goal.returns-then-at_end
unfolding shape_end
returns-then-at_end c = rw (ap at_end (sym c.state_of.ensures) ∙ sym c.at_end.ensures ∙ c.if-at_end.true)

pub returns-else-at_end : goal.returns-else-at_end
unfolding shape_end
returns-else-at_end c = rw (ap at_end (sym c.state_of.ensures) ∙ sym c.at_end.ensures ∙ c.if-at_end.false)
