use mathlib.Core.Path.{◌≡◌, refl}
use native.Mathlib.Omega.{arith}
use Rattle.translation.specs.Arms.{p2r_turn}
use Rattle.translation.specs.Emit.{value}
use Rattle.translation.proofs.Turns.{chain, next-turn, p2r-seven}
use Rattle.translation.proofs.writer.Writer.p2r_turns.Goals as goal

pub loop-k-init : goal.loop-k-init
unfolding chain
loop-k-init c = refl

pub loop-k-preserved : goal.loop-k-preserved
loop-k-preserved c = let l = c.loop-k in next-turn (p2r_turn c.args.i) l.k (value c.args.self.now c.args.v) (value l.self l.v) _ l.invariant c.p2r_turn-v.ensures

pub returns : goal.returns
returns c = let l = c.loop-k in let e : l.k ≡ 7 = omega arith in p2r-seven c.args.i c.args.self.now c.args.v _ (rw e at l.invariant)
