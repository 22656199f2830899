use Rattle.std.proofs.Common.{sym, refl, ◌∙◌, arith, ne_eqb}
use Rattle.works.specs.Room.{step}
use Rattle.works.proofs.Rest.{step-on}
use Rattle.works.proofs.room.step.Goals as goal

pub returns-then-t-eq0 : goal.returns-then-t-eq0
unfolding step
returns-then-t-eq0 c = let t = c.translated in record { result_after = t.ensures.result_after ∙ sym (step-on _ _ c.if-t-eq0.true); room_len_unchanged = t.ensures.room_len_unchanged }

pub returns-else-t-eq0 : goal.returns-else-t-eq0
unfolding step
returns-else-t-eq0 c = record { result_after = rw (ne_eqb _ _ c.if-t-eq0.false) refl; room_len_unchanged = (refl, (omega arith, c.requires)) }
