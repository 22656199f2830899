-- Turns of one kind after one another, of cell 0, 1 and so on.
use mathlib.Core.Path.{◌≡◌}
use mathlib.Core.List.{[], ◌∷◌}
use Prim.Native.Nat.{ℕ, zero, suc, ◌+◌}
use native.Mathlib.Numerals.{add-one}
use Rattle.translation.specs.Insn.{Insn}
use Rattle.translation.specs.Code.{Code}
use Rattle.translation.specs.Arms.{r2p_turn, r2p_turns, p2r_turn, p2r_turns}
use Rattle.translation.specs.Emit.{Buffer, Value, value, emits, Does}

-- after n turns, each of the last one's value
unfoldable pub chain : (ℕ → Code) → ℕ → Value → Value
chain f zero v = v
chain f (suc n) v = emits (f n) ((chain f n v).number ∷ []) (chain f n v).buffer

pub next-turn : (f : ℕ → Code) (k : ℕ) (v w m : Value) → w ≡ chain f k v → Does w.buffer m (f k) (w.number ∷ []) → m ≡ chain f (k + 1) v
unfolding chain
next-turn f k v w m h d = rw add-one (rw h at d.is)

pub r2p-seven : (i : Insn) (b : Buffer) (a : ℕ) (m : Value) → m ≡ chain (r2p_turn i) 7 (value b a) → Does b m (r2p_turns i) (a ∷ [])
unfolding chain emits r2p_turns
r2p-seven i b a m h = record { is = h }

pub p2r-seven : (i : Insn) (b : Buffer) (v : ℕ) (m : Value) → m ≡ chain (p2r_turn i) 7 (value b v) → Does b m (p2r_turns i) (v ∷ [])
unfolding chain emits p2r_turns
p2r-seven i b v m h = record { is = h }
