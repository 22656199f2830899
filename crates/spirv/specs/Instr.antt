-- Instructions of SPIR-V and their words (SPIR-V specification 2.3, 'Physical Layout of a SPIR-V Module and Instruction'): the first word of
-- an instruction has the number of its words in the upper half and the opcode in the lower half, and its operands follow.
use Rattle.std.specs.Prelude.{ℕ, zero, suc, ◌+◌, ◌-◌, ◌*◌, ◌/◌, ◌%◌, cond, List, [], ◌∷◌, ◌++◌, length, take, ◌==◌}
use Rattle.std.proofs.Math.Option.{Option, none, some, map}

pub record Instr : Type 0 where
  pub op : ℕ
  pub operands : List ℕ

abbrev pub instr : ℕ → List ℕ → Instr
instr op xs = record { op = op; operands = xs }

-- the words of an instruction
unfoldable pub words_of : Instr → List ℕ
words_of i = (suc (length i.operands) * 65536 + i.op) ∷ i.operands

unfoldable pub all_words : List Instr → List ℕ
all_words [] = []
all_words (i ∷ is) = words_of i ++ all_words is

abbrev pub grown : Instr → Option (List Instr) → Option (List Instr)
grown i o = map (λ is. i ∷ is) o

-- the instruction that the word h begins, before what stands after it; a count of 0 begins none
abbrev pub begun : ℕ → List ℕ → Option (List Instr) → Option (List Instr)
begun h ws o = cond (h / 65536 == 0) none (grown (instr (h % 65536) (take (h / 65536 - 1) ws)) o)

-- the instructions from word n of the list on; none where one is cut or begins with a count of 0
unfoldable pub instrs_from : ℕ → List ℕ → Option (List Instr)
instrs_from zero [] = some []
instrs_from (suc n) [] = none
instrs_from zero (h ∷ ws) = begun h ws (instrs_from (h / 65536 - 1) ws)
instrs_from (suc n) (w ∷ ws) = instrs_from n ws

abbrev pub instrs_of : List ℕ → Option (List Instr)
instrs_of ws = instrs_from 0 ws
