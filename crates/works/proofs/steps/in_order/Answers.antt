use Rattle.std.proofs.Common.{◌≡◌, ℕ, ◌+◌, ◌-◌, ◌*◌, take, drop, sym, ap, ◌∙◌, add-one, arith}
use Rattle.meaning.specs.Told.{told}
use Rattle.works.proofs.Order.{order-one, order-none}
use Rattle.works.proofs.steps.in_order.Goals as goal

pub loop-n-init : goal.loop-n-init
unfolding told
loop-n-init c = sym (order-none _ _)

pub loop-n-preserved : goal.loop-n-preserved
unfolding told
loop-n-preserved c = let l = c.loop-n in
    let z : 18 * l.n + 18 - 18 * l.n ≡ 18 = omega arith in
    c.step-i.ensures ∙ rw (add-one, l.invariant) (order-one l.n c.args.records.now _ _ (ap (λ (k : ℕ). take k (drop (18 * l.n) c.args.records.now)) z))

pub returns : goal.returns
unfolding told
returns c = let l = c.loop-n in let e : l.n ≡ c.args.count = omega arith in rw (← e) l.invariant
