use Rattle.std.proofs.Common.{◌≡◌, ℕ, ◌+◌, ◌-◌, ◌*◌, take, drop, sym, refl, ap, ◌∙◌, add-one, arith}
use Rattle.works.specs.Room.{room_view}
use Rattle.works.proofs.Rest.{up_one, up_none}
use Rattle.works.proofs.room.in_turn.Goals as goal

pub loop-n-init : goal.loop-n-init
loop-n-init c = (sym (up_none _ _), refl, omega arith, c.requires.1)

pub step-t-requires : goal.step-t-requires
step-t-requires c = c.loop-n.invariant.3

pub loop-n-preserved : goal.loop-n-preserved
loop-n-preserved c = let l = c.loop-n in let t = c.step-t in
    let z : 18 * l.n + 18 - 18 * l.n ≡ 18 = omega arith in (
      t.ensures.result_after ∙ rw (add-one, l.invariant.0) (up_one l.n c.args.records.now _ (room_view c.args.room.now c.args.start) (ap (λ (k : ℕ). take k (drop (18 * l.n) c.args.records.now)) z)),
      t.ensures.room_len_unchanged.0 ∙ l.invariant.1,
      omega (arith, t.ensures.room_len_unchanged.1.0, l.invariant.2),
      t.ensures.room_len_unchanged.1.1,
    )

pub returns : goal.returns
returns c = let l = c.loop-n in let e : l.n ≡ c.args.count = omega arith in
    record { result_after = rw (← e) l.invariant.0; room_len_unchanged = (l.invariant.1, (l.invariant.2, l.invariant.3)) }
