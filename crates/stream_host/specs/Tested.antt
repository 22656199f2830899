-- What the shape test block by block answers a C caller.
use Rattle.std.specs.Prelude.{ℕ, ◌+◌, max, cond, List, [], ◌∷◌, length, eqb, Result, Ok, Err}
use Rattle.strip.specs.declared.format.Layout.{Layout}
use Rattle.strip.specs.declared.format.UnknownLayout.{UnknownLayout}
use Rattle.strip.specs.declared.stream.Fed.{Fed}
use Rattle.strip.specs.Stream.{start_of, feed, at_end}
use Rattle.strip.specs.State.{state_length, state_bytes, state_of}

-- the number that is returned, and the state then
pub record Begun : Type 0 where
  pub number : ℕ
  pub state : List ℕ

abbrev pub begins : ℕ → List ℕ → Begun
begins number state = record { number = number; state = state }

-- no run is well-formed in a layout that there is not
unfoldable pub shape_begin : Result Layout UnknownLayout → List ℕ → Begun
shape_begin (Ok l) state = cond (eqb (length state) state_length) (begins 0 (state_bytes (start_of l))) (begins 7 state)
shape_begin (Err e) state = begins 7 state

-- the number that is returned, and what the state, the bytes passed and the strips are then
pub record Answer : Type 0 where
  pub number : ℕ
  pub state : List ℕ
  pub passed : ℕ
  pub strips : ℕ

abbrev pub returns : ℕ → List ℕ → ℕ → ℕ → Answer
returns number state passed strips = record { number = number; state = state; passed = passed; strips = strips }

abbrev pub told : Fed → Answer
told f = returns (cond (eqb f.stream.shape.left 0) 7 0) (state_bytes f.stream) f.bytes f.strips

unfoldable pub shape_block : List ℕ → List ℕ → ℕ → ℕ → Answer
shape_block state block passed strips = cond (eqb (length state) state_length) (told (feed (state_of state) block)) (returns 7 state passed strips)

unfoldable pub shape_end : List ℕ → ℕ
shape_end state = cond (at_end (state_of state)) 0 7

-- blocks handed over one after another: 7 where one was refused, the state at the end, and what was passed and what ended in all
abbrev pub after : Answer → Answer → Answer
after a b = returns (max a.number b.number) b.state (a.passed + b.passed) (a.strips + b.strips)

abbrev pub handed : List ℕ → List (List ℕ) → Answer
handed state [] = returns 0 state 0 0
handed state (block ∷ blocks) = after (shape_block state block 0 0) (handed (shape_block state block 0 0).state blocks)
