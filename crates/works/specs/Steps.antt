-- Records interpreted one after another, up to the first refusal; no constant is lent.
use Rattle.std.specs.Prelude.{ℕ, zero, suc, ◌*◌, cond, List, [], take, drop, ◌==◌}
use Rattle.evaluation.specs.declared.state.State.{State}
use Rattle.evaluation.specs.Machine.{Answer, returns}
use Rattle.meaning.specs.Interpret.{interpretation}

-- after a record; a refusal was the last one
unfoldable pub step : List ℕ → Answer → Answer
step l a = cond (a.number == 0) (interpretation l a.state []) a

-- after the first n records of a list
unfoldable pub up_to : ℕ → List ℕ → State → Answer
up_to zero l s = returns 0 [] s
up_to (suc n) l s = step (take 18 (drop (18 * n) l)) (up_to n l s)
