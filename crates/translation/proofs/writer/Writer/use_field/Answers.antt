use Rattle.translation.specs.Arms.{use_field}
use Rattle.translation.proofs.Follow.{by_call, by-no, by-op, by-ret, by-yes}
use Rattle.translation.proofs.writer.Writer.use_field.Goals as goal

pub returns-then-insert : goal.returns-then-insert
unfolding use_field
returns-then-insert c = by-yes c.if-insert.true (by-op c.four.ensures by-ret)

pub returns-else-insert : goal.returns-else-insert
unfolding use_field
returns-else-insert c = by-no c.if-insert.false (by_call c.extract.ensures by-ret)
