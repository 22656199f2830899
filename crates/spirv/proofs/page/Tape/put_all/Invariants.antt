use Rattle.std.proofs.Common.{◌≡◌, drop}
use Rattle.spirv.specs.Page.{puts}
use Rattle.spirv.proofs.page.Tape.put_all.Given as goal

abbrev pub invariant-loop-w : goal.invariant-loop-w
invariant-loop-w l = puts l.self (drop l.w-index l.words) ≡ puts l.initial.self l.words
