-- Records translated in turn into one room (01, demand 3): each gets what lies after the last accepted strip, or the whole room before there is one.
use Rattle.std.specs.Prelude.{Bool, true, false, cond, List, [], ◌∷◌, ◌++◌, ℕ, ◌+◌, get_or, take, drop, Ok, Err}
use Rattle.translation.specs.Strip.{Outcome, Decision, insn_of, strip, decision, length_of}

-- a room, and how many of its bytes accepted strips fill
pub record Room : Type 0 where
  pub bytes : List ℕ
  pub used : ℕ

-- a record, any bytes, and the use marks that it is given
pub record RecordAndMarks : Type 0 where
  pub bytes : List ℕ
  pub marks : List ℕ

abbrev pub is_written : Outcome → Bool
is_written (Ok n) = true
is_written (Err f) = false

-- what translating it into the rest of the room answers
abbrev pub turn_decision : RecordAndMarks → Room → Decision
turn_decision g r = decision g.bytes g.marks (drop r.used r.bytes)

-- the room after it
unfoldable pub turn : RecordAndMarks → Room → Room
turn g r = record { bytes = take r.used r.bytes ++ (turn_decision g r).out; used = r.used + length_of (turn_decision g r).outcome }

unfoldable pub in_turn : List RecordAndMarks → Room → Room
in_turn [] r = r
in_turn (g ∷ gs) r = in_turn gs (turn g r)

-- the records that are accepted
unfoldable pub accepted : List RecordAndMarks → Room → List (List ℕ)
accepted [] r = []
accepted (g ∷ gs) r = cond (is_written (turn_decision g r).outcome) (g.bytes ∷ accepted gs (turn g r)) (accepted gs (turn g r))

-- the strip of a record's bytes, and the strips of a list of them as one run
abbrev pub strip_at : List ℕ → List ℕ
strip_at l = strip (get_or l 0 0) (insn_of l)

unfoldable pub run_of : List (List ℕ) → List ℕ
run_of [] = []
run_of (l ∷ ls) = strip_at l ++ run_of ls
