use mathlib.Core.Path.{refl}
use Rattle.translation.specs.Strip.{length_of, number_of}
use Rattle.works.proofs.room.told.Goals as goal

pub returns-in-Ok : goal.returns-in-Ok
unfolding length_of number_of
returns-in-Ok c = rw c.in-Ok.is (refl, refl)

pub returns-in-Err : goal.returns-in-Err
unfolding length_of number_of
returns-in-Err c = rw c.in-Err.is (refl, c.from.ensures)
