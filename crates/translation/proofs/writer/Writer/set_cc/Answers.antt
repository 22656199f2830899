use Rattle.translation.proofs.Carry.{set-cc}
use Rattle.translation.proofs.writer.Writer.set_cc.Goals as goal

pub returns : goal.returns
returns c = set-cc c.args.carry c.args.overflow c.u-zero.ensures c.two-z.ensures c.two-s.ensures c.truth-f.ensures c.store.ensures c.store-2.ensures c.unwrap_or.ensures c.store-3.ensures c.unwrap_or-2.ensures c.store-4.ensures
