use Rattle.std.proofs.Common.{rules}
use Rattle.strip.specs.Stream.{at_end}
use Rattle.strip.proofs.stream.Stream.at_end.Goals as goal

pub returns-then-self-eq0 : goal.returns-then-self-eq0
unfolding at_end
returns-then-self-eq0 c = search rules

pub returns-else-self-eq0 : goal.returns-else-self-eq0
unfolding at_end
returns-else-self-eq0 c = search rules
