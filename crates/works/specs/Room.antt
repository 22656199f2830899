-- Records translated in turn into one room, up to the first refusal: each gets what lies after the last accepted strip, and the use marks that
-- the one before left.
use Rattle.std.specs.Prelude.{ℕ, zero, suc, ◌+◌, ◌*◌, cond, List, ◌++◌, take, drop, ◌==◌}
use Rattle.translation.specs.Strip.{Answer, translation}
use Rattle.works.specs.declared.room.Turn.{Turn}

-- a room, how many of its bytes accepted strips fill, the use marks, and the number of the refusal, 0 where there is none
pub record Room : Type 0 where
  pub bytes : List ℕ
  pub used : ℕ
  pub marks : List ℕ
  pub number : ℕ

-- the room after an answer
abbrev pub room_after : Room → Answer → Room
room_after r a = record { bytes = take r.used r.bytes ++ a.out; used = r.used + a.length; marks = a.marks; number = a.number }

-- after a record; a refusal was the last one
unfoldable pub step : List ℕ → Room → Room
step l r = cond (r.number == 0) (room_after r (translation l r.marks (drop r.used r.bytes))) r

-- after the first n records of a list
unfoldable pub up_to : ℕ → List ℕ → Room → Room
up_to zero l r = r
up_to (suc n) l r = step (take 18 (drop (18 * n) l)) (up_to n l r)

-- the code's view: the room's bytes are lent
abbrev pub room_view : List ℕ → Turn → Room
room_view bytes t = record { bytes = bytes; used = t.used; marks = t.cbuf_used; number = t.number }
