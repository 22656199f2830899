use Rattle.std.proofs.Common.{◌∙◌, le-ltb, lt-ltb}
use Rattle.spirv.proofs.Plans.{two-word, two-truth, two-entered}
use Rattle.spirv.proofs.page.Page.two.Goals as goal

pub returns-then-k-lt60 : goal.returns-then-k-lt60
returns-then-k-lt60 c = (rw (c.word_type.ensures, c.op_of-op.ensures, c.lent-set.ensures, c.look-y.ensures, c.look-x.ensures) at c.apply.ensures) ∙ two-entered _ _ _ _ _ _ (two-word _ _ _ _ _ c.requires (lt-ltb _ _ c.if-k-lt60.true))

pub returns : goal.returns
returns c = (rw (c.lent.ensures, c.op_of-op.ensures, c.lent-set.ensures, c.look-y.ensures, c.look-x.ensures) at c.apply-2.ensures) ∙ two-entered _ _ _ _ _ _ (two-truth _ _ _ _ _ c.requires (le-ltb _ _ c.if-k-lt60.false))
