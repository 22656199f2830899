use Rattle.std.proofs.Common.{true, refl}
use Rattle.strip.specs.Entry.{kind_of}
use Rattle.strip.proofs.EntryStep.{step-word}
use Rattle.evaluation.specs.Machine.{effect_of}
use Rattle.evaluation.proofs.Progress.{makes}
use Rattle.evaluation.proofs.machine.Machine.constant.Goals as goal

pub returns : goal.returns
unfolding effect_of kind_of
returns c = λ s cs. makes _ _ _ cs s _ _ c.put.ensures.machine true 1 c.value.ensures refl (step-word _ _) refl _ _ (λ some. c.put.ensures.values) (λ t. refl)
