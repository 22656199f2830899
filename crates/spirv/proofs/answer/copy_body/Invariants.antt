use Rattle.std.proofs.Common.{map, take}
use Rattle.spirv.specs.Page.{settled}
use Rattle.spirv.proofs.Tapes.{Copied}
use Rattle.spirv.proofs.answer.copy_body.Given as goal

abbrev pub invariant-loop-i : goal.invariant-loop-i
invariant-loop-i l = Copied (map (settled l.first) (take l.n l.buf)) l.initial.out l.at l.out l.i
