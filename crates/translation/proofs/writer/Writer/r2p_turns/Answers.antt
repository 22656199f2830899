use mathlib.Core.Path.{◌≡◌, refl}
use native.Mathlib.Omega.{arith}
use Rattle.translation.specs.Arms.{r2p_turn}
use Rattle.translation.specs.Emit.{value}
use Rattle.translation.proofs.Turns.{chain, next-turn, r2p-seven}
use Rattle.translation.proofs.writer.Writer.r2p_turns.Goals as goal

pub loop-k-init : goal.loop-k-init
unfolding chain
loop-k-init c = refl

pub loop-k-preserved : goal.loop-k-preserved
loop-k-preserved c = let l = c.loop-k in next-turn (r2p_turn c.args.i) l.k (value c.args.self.now c.args.a) (value l.self l.a) _ l.invariant c.r2p_turn-a.ensures

pub returns : goal.returns
returns c = let l = c.loop-k in let e : l.k ≡ 7 = omega arith in r2p-seven c.args.i c.args.self.now c.args.a _ (rw e at l.invariant)
