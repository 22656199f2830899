use borrow.Author.Tests.{le-ltb, lt-ltb}
use Rattle.translation.specs.Helpers.{video_operand}
use Rattle.translation.proofs.Follow.{by-no, by-ret, by-yes}
use Rattle.translation.proofs.writer.Writer.video_operand.Goals as goal

pub returns-then-sel-lt4 : goal.returns-then-sel-lt4
unfolding video_operand
returns-then-sel-lt4 c = by-yes (lt-ltb _ _ c.if-sel-lt4.true) c.field.ensures

pub returns-then-sel-lt6 : goal.returns-then-sel-lt6
unfolding video_operand
returns-then-sel-lt6 c = by-no (le-ltb _ _ c.if-sel-lt4.false) (by-yes (lt-ltb _ _ c.if-sel-lt6.true) c.field-then-sel-lt6.ensures)

pub returns : goal.returns
unfolding video_operand
returns c = by-no (le-ltb _ _ c.if-sel-lt4.false) (by-no (le-ltb _ _ c.if-sel-lt6.false) by-ret)
