use mathlib.Core.Path.{ap}
use Rattle.translation.specs.Strip.{answer_of, translation}
use Rattle.translation.proofs.answer.translate.Goals as goal

pub returns : goal.returns
unfolding translation
returns c = ap answer_of c.put_strip-outcome.ensures
