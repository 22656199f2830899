use mathlib.Core.Path.{◌≡◌}
use Rattle.translation.specs.Arms.{r2p_turn}
use Rattle.translation.specs.Emit.{value}
use Rattle.translation.proofs.Turns.{chain}
use Rattle.translation.proofs.writer.Writer.r2p_turns.Given as goal

abbrev pub invariant-loop-k : goal.invariant-loop-k
invariant-loop-k l = value l.self l.a ≡ chain (r2p_turn l.i) l.k (value l.initial.self l.initial.a)
