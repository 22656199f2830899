use Rattle.translation.proofs.Write.{mask_fits}
use Rattle.translation.specs.Arms.{p2r_keep}
use Rattle.translation.proofs.insn.Insn.p2r_keep.Goals as goal

pub returns : goal.returns
unfolding p2r_keep
returns c = let b = c.bits.ensures in rw (← c.predicate_mask.ensures, ← b.0, mask_fits c.predicate_mask.result c.bits.result b.1)
