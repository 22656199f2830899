-- Truths as the exported functions take and answer them, a byte each.
use Rattle.std.specs.Prelude.{ℕ, Bool, cond, not, List, map, take, drop, eqb}

-- a byte is true where it is not 0
abbrev pub is_set : ℕ → Bool
is_set b = not (eqb b 0)

-- and a truth is answered as 1 or 0
abbrev pub truth_byte : Bool → ℕ
truth_byte t = cond t 1 0

-- the n truths from a place of a list of bytes on
abbrev pub truths_at : ℕ → ℕ → List ℕ → List Bool
truths_at n at bytes = map is_set (take n (drop at bytes))
