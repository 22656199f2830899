-- The state as instructions see it, and their operands.
use Rattle.std.specs.Prelude.{Bool, true, false, cond, ◌&&◌, List, [], ◌∷◌, ℕ, ◌+◌, ◌*◌, ◌^◌, eqb, leb, get_or, set}
use Rattle.std.specs.Bool.{xor}
use Rattle.evaluation.specs.declared.state.State.{State}
use Rattle.meaning.specs.Number.{extracted}
use Rattle.meaning.specs.Record.{Record, rb, rc, simm20, constant_slot, constant_word}

-- ---- cells

-- register 255 reads 0, and storing to it does nothing
unfoldable pub reg : State → ℕ → ℕ
reg s n = cond (eqb n 255) 0 (get_or s.regs n 0)

unfoldable pub set_reg : State → ℕ → ℕ → State
set_reg s n w = cond (eqb n 255) s (record { regs = set s.regs n w; preds = s.preds; flags = s.flags })

-- predicate 7 reads true, and storing to it does nothing
unfoldable pub pred : State → ℕ → Bool
pred s n = cond (eqb n 7) true (get_or s.preds n false)

unfoldable pub set_pred : State → ℕ → Bool → State
set_pred s n t = cond (eqb n 7) s (record { regs = s.regs; preds = set s.preds n t; flags = s.flags })

-- the flags Z, S, C, O are 0 to 3
unfoldable pub flag : State → ℕ → Bool
flag s n = get_or s.flags n false

unfoldable pub set_flag : State → ℕ → Bool → State
set_flag s n t = record { regs = s.regs; preds = s.preds; flags = set s.flags n t }

unfoldable pub set_flags : State → (z sign c o : Bool) → State
set_flags s z sign c o = record { regs = s.regs; preds = s.preds; flags = z ∷ sign ∷ c ∷ o ∷ [] }

-- Z and S of a result; C and O are cleared
unfoldable pub set_zs : Bool → State → ℕ → State
set_zs on s v = cond on (set_flags s (eqb v 0) (leb (2 ^ 31) v) false false) s

-- ---- operands

-- a predicate, negated or not
abbrev pub pred_if : State → ℕ → Bool → Bool
pred_if s n negated = xor (pred s n) negated

-- the lent word that an instruction names: word w of slot s is element s × 16,384 + w
abbrev pub constant_place : Record → ℕ
constant_place i = constant_slot i * 16384 + constant_word i

abbrev pub constant : List ℕ → Record → ℕ
constant ks i = get_or ks (constant_place i) 0

-- b: a register, a constant, or twenty signed bits
unfoldable pub operand_b : List ℕ → Record → State → ℕ
operand_b ks i s = cond (eqb i.form 0) (reg s (rb i)) (cond (eqb i.form 1) (constant ks i) (simm20 i))

-- b and c: in the constant form the opcode's value may swap them, so that the constant is c
unfoldable pub word_b : List ℕ → Record → Bool → State → ℕ
word_b ks i swap s = cond (eqb i.form 1 && swap) (reg s (rc i)) (operand_b ks i s)

unfoldable pub word_c : List ℕ → Record → Bool → State → ℕ
word_c ks i swap s = cond (eqb i.form 1 && swap) (constant ks i) (reg s (rc i))

-- the low or high half, its sign extended or not
abbrev pub half : Bool → Bool → ℕ → ℕ
half high sign x = extracted sign x (cond high 16 0) 16
