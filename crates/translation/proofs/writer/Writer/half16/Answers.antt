use Rattle.translation.specs.Helpers.{half16}
use Rattle.translation.proofs.writer.Writer.half16.Goals as goal

pub returns-then-high : goal.returns-then-high
unfolding half16
returns-then-high c = rw c.if-high.true c.field.ensures

pub returns-else-high : goal.returns-else-high
unfolding half16
returns-else-high c = rw c.if-high.false c.field-else-high.ensures
