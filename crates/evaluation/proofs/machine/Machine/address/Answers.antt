use Rattle.std.proofs.Common.{refl, ap}
use Rattle.evaluation.specs.declared.machine.Machine.{Machine}
use Rattle.evaluation.specs.Machine.{addressing}
use Rattle.evaluation.specs.Progress.{addressed, progress_after, standing}
use Rattle.evaluation.proofs.Progress.{grows}
use Rattle.evaluation.proofs.Cases.{no_slot, no_word, yes-slot, yes-word}
use Rattle.evaluation.proofs.machine.Machine.address.Goals as goal

pub returns-in_default : goal.returns-in_default
unfolding addressing progress_after standing
returns-in_default c = (refl, λ s on one. rw (c.in_default.is-0, yes-slot, c.in_default.is-1, yes-word, c.in_default.is-2, yes-word, no_word _ _ _ c.in_default.not-Word-3))

pub returns-in_default-2 : goal.returns-in_default-2
unfolding addressing progress_after standing
returns-in_default-2 c = (refl, λ s on one. rw (c.in_default.is-0, yes-slot, c.in_default.is-1, yes-word, no_word _ _ _ c.in_default.not-Word-2))

pub returns-in_default-3 : goal.returns-in_default-3
unfolding addressing progress_after standing
returns-in_default-3 c = (refl, λ s on one. rw (c.in_default.is-0, yes-slot, no_word _ _ _ c.in_default.not-Word-1))

pub returns-in_default-4 : goal.returns-in_default-4
unfolding addressing progress_after standing
returns-in_default-4 c = (refl, λ s on one. rw (no_slot _ _ _ c.in_default.not-Slot-0))

pub returns-in-Some : goal.returns-in-Some
unfolding addressing addressed progress_after standing
returns-in-Some c = let q = c.put.ensures in rw (c.in-Slot-Word-Word-Word.is-0, yes-slot, c.in-Slot-Word-Word-Word.is-1, yes-word, c.in-Slot-Word-Word-Word.is-2, yes-word, c.in-Slot-Word-Word-Word.is-3, yes-word, ← c.address_words.ensures, c.in-Some.is) (ap (λ (r : Machine). r.shape) q.machine, λ s on one. grows c.args.self _ on _ _ q.machine s one _ _ q.values)

pub returns-in-None : goal.returns-in-None
unfolding addressing addressed progress_after standing
returns-in-None c = rw (c.in-Slot-Word-Word-Word.is-0, yes-slot, c.in-Slot-Word-Word-Word.is-1, yes-word, c.in-Slot-Word-Word-Word.is-2, yes-word, c.in-Slot-Word-Word-Word.is-3, yes-word, ← c.address_words.ensures, c.in-None.is) (refl, λ s on one. refl)
