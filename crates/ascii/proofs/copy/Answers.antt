use Rattle.std.proofs.Common.{◌∙◌, arith}
use Rattle.ascii.proofs.Text.{part-sets}
use Rattle.ascii.proofs.copy.Goals as goal

pub returns : goal.returns
returns c = let n = c.copy_from_slice.ensures in let a = c.args in
    part-sets a.at _ a.out.now c.copy_from_slice.new.self (rw n.after c.requires) (rw n.after (omega arith)) ∙ rw n.after
