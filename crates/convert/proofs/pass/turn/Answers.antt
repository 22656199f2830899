use mathlib.Core.Path.{refl}
use Rattle.strip.proofs.Write.{same}
use Rattle.convert.proofs.Turns.{writes, tests}
use Rattle.convert.proofs.pass.turn.Goals as goal

pub put_entry-requires : goal.put_entry-requires
put_entry-requires c = c.requires.2 c.if-writing.true

pub shape_of-out-then-writing : goal.shape_of-out-then-writing
shape_of-out-then-writing c = same c.put_entry.ensures refl

pub returns-then-writing : goal.returns-then-writing
returns-then-writing c = writes _ _ _ _ _ c.if-writing.true c.put_entry.ensures

pub entry-requires : goal.entry-requires
entry-requires c = (c.requires.0, c.requires.1)

pub returns : goal.returns
returns c = tests _ _ _ _ _ _ c.if-writing.false c.entry.ensures
