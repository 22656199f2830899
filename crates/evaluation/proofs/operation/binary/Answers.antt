use Rattle.evaluation.specs.Value.{binary}
use Rattle.evaluation.proofs.Cases.{no_word, yes-word}
use Rattle.evaluation.proofs.operation.binary.Goals as goal

pub returns-in-Word-Word : goal.returns-in-Word-Word
unfolding binary
returns-in-Word-Word c = rw (c.in-Word-Word.is-0, yes-word, c.in-Word-Word.is-1, yes-word) c.binary_word.ensures

pub returns-in_default : goal.returns-in_default
unfolding binary
returns-in_default c = rw (c.in_default.is-0, yes-word, no_word _ _ _ c.in_default.not-Word-1)

pub returns-in_default-2 : goal.returns-in_default-2
unfolding binary
returns-in_default-2 c = rw (no_word _ _ _ c.in_default.not-Word-0)
