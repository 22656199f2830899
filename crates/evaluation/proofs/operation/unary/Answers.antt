use Rattle.evaluation.specs.Value.{unary}
use Rattle.evaluation.proofs.Cases.{no_word, yes-word}
use Rattle.evaluation.proofs.operation.unary.Goals as goal

pub returns-in-Word : goal.returns-in-Word
unfolding unary
returns-in-Word c = rw (c.in-Word.is, yes-word) c.unary_word.ensures

pub returns-in_default : goal.returns-in_default
unfolding unary
returns-in_default c = rw (no_word _ _ _ c.in_default.not-Word)
