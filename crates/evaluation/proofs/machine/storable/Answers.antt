use Rattle.std.proofs.Common.{◌≡◌, true, eqb, refl, eq-eqb, ne_eqb}
use Rattle.evaluation.specs.Machine.{Effect, is_done, storing_word, storing_truth, storing, outcome_of}
use Rattle.evaluation.proofs.Cases.{no_word, no_truth, yes-word, yes-truth}
use Rattle.evaluation.proofs.Laws.{cond-all}
use Rattle.evaluation.proofs.machine.storable.Goals as goal

pub returns-in_default : goal.returns-in_default
unfolding storing storing_word storing_truth outcome_of
returns-in_default c = λ n. rw (eq-eqb _ _ c.if-k-eq7.true, no_word _ _ _ c.in_default.not-Word)

pub returns-then-k-eq7 : goal.returns-then-k-eq7
unfolding storing storing_word storing_truth outcome_of
returns-then-k-eq7 c = λ n. rw (eq-eqb _ _ c.if-k-eq7.true, c.in-Word.is, yes-word)

pub returns-in_default-v : goal.returns-in_default-v
unfolding storing storing_word storing_truth outcome_of
returns-in_default-v c = λ n. rw (ne_eqb _ _ c.if-k-eq7.false, no_truth _ _ _ c.in_default-v.not-Truth)

pub returns : goal.returns
unfolding storing storing_word storing_truth outcome_of
returns c = λ n. rw (ne_eqb _ _ c.if-k-eq7.false, c.in-Truth.is, yes-truth) (cond-all (λ (f : Effect). true ≡ is_done (outcome_of f)) (eqb c.args.k 8) _ _ refl refl)
