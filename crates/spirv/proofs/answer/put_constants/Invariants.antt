use Rattle.std.proofs.Common.{◌≡◌, ◌+◌, map}
use Rattle.spirv.specs.Instr.{all_words}
use Rattle.spirv.specs.Writer.{const_instrs}
use Rattle.spirv.specs.Page.{constant, puts}
use Rattle.spirv.proofs.Tapes.{consts_at}
use Rattle.spirv.proofs.answer.put_constants.Given as goal

abbrev pub invariant-loop-k : goal.invariant-loop-k
invariant-loop-k l = (l.id ≡ l.given.bound + l.k-index) × (puts l.words (consts_at l.given l.k-items l.id l.k-index) ≡ puts l.initial.words (all_words (const_instrs l.given l.given.bound (map constant l.k-items))))
