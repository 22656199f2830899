use mathlib.Core.Path.{sym, ◌∙◌}
use borrow.Author.Tests.{le-leb}
use Rattle.std.proofs.Common.{rules}
use Rattle.strip.specs.Stream.{going}
use Rattle.strip.proofs.Pass.{is-ready}
use Rattle.strip.proofs.stream.Stream.going.Goals as goal

pub waits-requires : goal.waits-requires
waits-requires c = is-ready _ (sym c.ready.ensures ∙ c.if-self-le8.true.0)

pub returns-then-self-le8 : goal.returns-then-self-le8
unfolding going
returns-then-self-le8 c = rw (sym c.ready.ensures ∙ c.if-self-le8.true.0, le-leb _ _ c.if-self-le8.true.1) c.waits.ensures

pub returns-else-self-le8 : goal.returns-else-self-le8
unfolding going
returns-else-self-le8 c = search rules
