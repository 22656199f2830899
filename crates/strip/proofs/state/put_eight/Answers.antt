use mathlib.Core.Path.{◌∙◌}
use native.Mathlib.Omega.{arith}
use Rattle.strip.proofs.Write.{puts-part}
use Rattle.strip.proofs.States.{eight}
use Rattle.strip.proofs.state.put_eight.Goals as goal

pub returns : goal.returns
returns c = puts-part _ _ _ _ _ (c.copy_from_slice.ensures.after ∙ c.to_le_bytes.ensures ∙ eight _) (omega arith) (omega arith)
