use mathlib.Core.Path.{ap, ◌∙◌}
use native.Mathlib.Omega.{arith}
use borrow.Author.Rules.{rules}
use Rattle.strip.specs.Entry.{word_bytes}
use Rattle.host.proofs.MarkBytes.{bytes-start, bytes_next}
use Rattle.host.proofs.marks.write_marks.Goals as goal

pub loop-i-init : goal.loop-i-init
loop-i-init c = bytes-start

pub loop-i-preserved : goal.loop-i-preserved
loop-i-preserved c = let l = c.loop-i in bytes_next c.args.marks.now l.bytes c.copy_from_slice.new.self l.i _ (search rules) (search rules) (c.copy_from_slice.ensures.after ∙ c.to_le_bytes.ensures ∙ ap word_bytes (omega arith)) l.invariant
