use native.Mathlib.Omega.{arith}
use Rattle.translation.specs.Emit.{wrote}
use Rattle.translation.proofs.Write.{entry-short}
use Rattle.translation.proofs.writer.Writer.put.Goals as goal

pub put_entry-requires : goal.put_entry-requires
put_entry-requires c = let z = entry-short c.args.e in omega arith

pub overflow_add-self : goal.overflow_add-self
overflow_add-self c = let z = entry-short c.args.e in omega arith

pub returns : goal.returns
unfolding wrote
returns c = rw (← c.self.view_is) (record { is = rw (c.put_entry.ensures.is, c.entry_length.ensures) })
