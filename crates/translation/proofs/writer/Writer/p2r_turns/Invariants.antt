use mathlib.Core.Path.{◌≡◌}
use Rattle.translation.specs.Arms.{p2r_turn}
use Rattle.translation.specs.Emit.{value}
use Rattle.translation.proofs.Turns.{chain}
use Rattle.translation.proofs.writer.Writer.p2r_turns.Given as goal

abbrev pub invariant-loop-k : goal.invariant-loop-k
invariant-loop-k l = value l.self l.v ≡ chain (p2r_turn l.i) l.k (value l.initial.self l.initial.v)
