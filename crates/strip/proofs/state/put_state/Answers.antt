use mathlib.Core.Path.{◌≡◌, refl, sym, ◌∙◌}
use mathlib.Core.Bool.{Bool, true, false, cond}
use mir.Val.{bool_byte}
use native.Mathlib.Omega.{arith}
use lib.ListN.{length}
use Rattle.strip.specs.State.{state_bytes}
use Rattle.strip.proofs.Write.{same, puts-part}
use Rattle.strip.proofs.States.{puts-same, placed-none, place, placed-all}
use borrow.Author.Rules.{rules}
use Rattle.strip.proofs.state.put_state.Goals as goal

-- a truth as a number
truth_byte : (b : Bool) → bool_byte b ≡ cond b 1 0
truth_byte true = refl
truth_byte false = refl

pub returns : goal.returns
unfolding state_bytes
returns c =
    let kept-long : length c.args.t.kept ≡ 8 = search rules in
    let room : length c.put_low-5.new.out ≡ 45 = same c.put_low-5.ensures (same c.put_low-4.ensures (same c.put_low-3.ensures (same c.put_low-2.ensures (same c.put_low.ensures c.requires)))) in
    let kept = puts-part c.put_low-5.new.out c.args.t.kept c.copy_from_slice.new.self 5 8 c.copy_from_slice.ensures.after (sym kept-long) (omega arith) in
    placed-all (place 8 _ refl (place 8 _ refl (place 8 _ refl (place 8 _ refl (place 8 _ kept-long (place 1 _ refl (place 1 _ refl (place 1 _ refl (place 1 _ refl (place 1 _ refl (placed-none _) (puts-same c.ref_length.ensures.0 c.put_low.ensures)) c.put_low-2.ensures) (puts-same (c.from.ensures ∙ truth_byte _) c.put_low-3.ensures)) c.put_low-4.ensures) c.put_low-5.ensures) kept) c.put_eight.ensures) c.put_eight-2.ensures) c.put_eight-3.ensures) c.put_eight-4.ensures) c.requires
