use mathlib.Core.Path.{ap₂, ◌∙◌}
use lib.Signed.{lt_z}
use Rattle.evaluation.proofs.Signed.{read_back, signed_less}
use Rattle.evaluation.proofs.word.s_less.Goals as goal

pub returns : goal.returns
returns c =
    ap₂ lt_z (read_back _ c.args.x c.ranges.x.fits c.cast_signed.ensures) (read_back _ c.args.y c.ranges.y.fits c.cast_signed-2.ensures)
    ∙ signed_less c.args.x c.args.y c.ranges.x.fits c.ranges.y.fits
