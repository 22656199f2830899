use mathlib.Core.Path.{sym}
use native.Mathlib.Omega.{arith}
use Rattle.strip.specs.Entry.{ref_length}
use Rattle.strip.proofs.Encode.{encode-length}
use Rattle.strip.proofs.Write.{none, put}
use Rattle.strip.proofs.writer.write_entry.Goals as goal

pub returns-then-saturating_sub-n : goal.returns-then-saturating_sub-n
returns-then-saturating_sub-n c = let a = c.args in none (ref_length a.layout) _ a.at a.e _ (sym c.entry_length-n.ensures) (omega (arith, c.saturating_sub.ensures))

pub put_entry-requires : goal.put_entry-requires
put_entry-requires c = let a = c.args in omega (arith, c.entry_length-n.ensures, encode-length (ref_length a.layout) a.e)

pub returns : goal.returns
returns c = let a = c.args in put (ref_length a.layout) _ a.at a.e _ (sym c.entry_length-n.ensures) (omega (arith, c.entry_length-n.ensures, encode-length (ref_length a.layout) a.e)) c.put_entry.ensures
