use mathlib.Core.Path.{sym, ap, ◌∙◌}
use Rattle.strip.specs.declared.stream.Stream.{Stream}
use Rattle.strip.specs.Stream.{feed, unfed}
use Rattle.strip.proofs.stream.Stream.feed.Goals as goal

pub going_on-requires : goal.going_on-requires
unfolding feed
going_on-requires c = sym c.going.ensures ∙ c.if-going.true

pub returns : goal.returns
unfolding feed
returns c = rw (sym c.going.ensures ∙ c.if-going.false) (c.unfed.ensures ∙ ap (λ (t : Stream). unfed t) c.refused.ensures)
