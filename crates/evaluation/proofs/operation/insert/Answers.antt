use Rattle.evaluation.specs.Value.{inserted_value}
use Rattle.evaluation.proofs.Cases.{no_word, yes-word}
use Rattle.evaluation.proofs.operation.insert.Goals as goal

pub returns-in-Word-Word-Word-Word : goal.returns-in-Word-Word-Word-Word
unfolding inserted_value
returns-in-Word-Word-Word-Word c = rw (c.in-Word-Word-Word-Word.is-0, yes-word, c.in-Word-Word-Word-Word.is-1, yes-word, c.in-Word-Word-Word-Word.is-2, yes-word, c.in-Word-Word-Word-Word.is-3, yes-word) c.insert_word.ensures

pub returns-in_default : goal.returns-in_default
unfolding inserted_value
returns-in_default c = rw (c.in_default.is-0, yes-word, c.in_default.is-1, yes-word, c.in_default.is-2, yes-word, no_word _ _ _ c.in_default.not-Word-3)

pub returns-in_default-2 : goal.returns-in_default-2
unfolding inserted_value
returns-in_default-2 c = rw (c.in_default.is-0, yes-word, c.in_default.is-1, yes-word, no_word _ _ _ c.in_default.not-Word-2)

pub returns-in_default-3 : goal.returns-in_default-3
unfolding inserted_value
returns-in_default-3 c = rw (c.in_default.is-0, yes-word, no_word _ _ _ c.in_default.not-Word-1)

pub returns-in_default-4 : goal.returns-in_default-4
unfolding inserted_value
returns-in_default-4 c = rw (no_word _ _ _ c.in_default.not-Word-0)
