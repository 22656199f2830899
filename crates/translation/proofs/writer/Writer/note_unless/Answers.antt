use Rattle.translation.specs.Arms.{note_unless}
use Rattle.translation.proofs.Follow.{by-act, by-no, by-ret, by-yes}
use Rattle.translation.proofs.writer.Writer.note_unless.Goals as goal

pub returns-then-on : goal.returns-then-on
unfolding note_unless
returns-then-on c = by-yes c.if-on.true by-ret

pub returns-else-on : goal.returns-else-on
unfolding note_unless
returns-else-on c = by-no c.if-on.false (by-act c.note.ensures by-ret)
