use mathlib.Core.Path.{ap, ◌∙◌}
use lib.IntN.{ℤ, nat_abs}
use Rattle.evaluation.proofs.Signed.{read_back, signed_abs}
use Rattle.evaluation.proofs.word.s_abs.Goals as goal

pub returns : goal.returns
returns c = c.unsigned_abs.ensures.value ∙ ap (λ (z : ℤ). nat_abs z) (read_back _ c.args.x c.ranges.x.fits c.cast_signed.ensures) ∙ signed_abs c.args.x c.ranges.x.fits
