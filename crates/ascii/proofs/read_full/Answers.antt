use Rattle.std.proofs.Common.{sym, subst, rules}
use Rattle.std.specs.Io.KnownBytes.{Consumes}
use Rattle.std.proofs.KnownBytes.{Consumes-trans}
use Rattle.ascii.proofs.Text.{part_more}
use Rattle.ascii.proofs.read_full.Goals as goal

pub loop-done-preserved : goal.loop-done-preserved
loop-done-preserved g c = let l = c.loop-done in let e = c.in-Ok.ensures in record {
  same = search rules;
  within = search rules;
  bytes = subst (Consumes _ _) (sym (part_more l.done _ c.in-Ok.n l.buffer c.read.new.buf l.invariant.within e.bound.0)) (Consumes-trans _ _ _ _ _ l.invariant.bytes e.bytes.0);
}
