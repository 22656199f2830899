-- A strip in the rest of a room.
use Rattle.std.proofs.Common.{◌≡◌, ℕ, suc, ◌+◌, ◌-◌, ◌*◌, ◌≤◌, List, ◌++◌, length, take, drop, refl, ap, ◌∙◌, append-nil, arith, length-append, length-drop, length-take-le, take_all, drop-drop}
use lib.Seq.{drop-length}
use Rattle.translation.specs.Strip.{Answer, translation}
use Rattle.translation.proofs.Shape.{fits}
use Rattle.works.specs.declared.room.Turn.{Turn}
use Rattle.works.specs.Room.{Room, room_after, step, up_to, room_view}

-- the rest of a room, as code names it, and the room with the rest put back
rest : (room : List ℕ) (n : ℕ) → take (length room - n) (drop n room) ≡ drop n room
rest room n = take_all (length room - n) (drop n room) (simp length-drop (omega arith))

put_rest : (room out : List ℕ) (n : ℕ) → n ≤ length room → take n room ++ (out ++ drop (length room - n) (drop n room)) ≡ take n room ++ out
put_rest room out n h =
    let e : n + (length room - n) ≡ length room = omega arith in
    ap (λ (x : List ℕ). take n room ++ (out ++ x)) (drop-drop (length room - n) n room ∙ ap (λ (k : ℕ). drop k room) e ∙ drop-length room)
    ∙ ap (λ (x : List ℕ). take n room ++ x) (append-nil out)

-- an answer that went into the rest
module _ {a : Answer} (l room : List ℕ) (t : Turn) (h : t.used ≤ length room) (e : a ≡ translation l t.cbuf_used (take (length room - t.used) (drop t.used room))) where
  rest-is : a ≡ translation l t.cbuf_used (drop t.used room)
  rest-is = e ∙ ap (translation l t.cbuf_used) (rest room t.used)

  pub rest-within : t.used + a.length ≤ length room
  unfolding translation
  rest-within =
      let d = length-drop t.used room in
      let w : a.length ≤ length (drop t.used room) = rw rest-is (fits l t.cbuf_used (drop t.used room)).within in
      omega arith

  rest-same : length a.out ≡ length (drop t.used room)
  unfolding translation
  rest-same = rw rest-is (fits l t.cbuf_used (drop t.used room)).same

  abbrev put : List ℕ
  put = take t.used room ++ (a.out ++ drop (length room - t.used) (drop t.used room))

  pub put-length : length put ≡ length room
  put-length =
      ap length (put_rest room a.out t.used h) ∙ length-append (take t.used room) a.out
      ∙ (let k = length-take-le t.used room h in let d = length-drop t.used room in omega (arith, rest-same))

  pub put_is : (w n : ℕ) → w ≡ a.length → n ≡ a.number
      → room_view put (record { used = t.used + w; cbuf_used = a.marks; number = n }) ≡ room_after (room_view room t) (translation l t.cbuf_used (drop t.used room))
  put_is w n p q = rw (p, q, put_rest room a.out t.used h) (ap (room_after (room_view room t)) rest-is)

-- ---- record after record
pub step-on : (l : List ℕ) (r : Room) → r.number ≡ 0 → step l r ≡ room_after r (translation l r.marks (drop r.used r.bytes))
unfolding step
step-on l r e = rw e refl

pub up_one : (n : ℕ) (l x : List ℕ) (r : Room) → x ≡ take 18 (drop (18 * n) l) → step x (up_to n l r) ≡ up_to (suc n) l r
unfolding up_to
up_one n l x r e = rw e refl

pub up_none : (l : List ℕ) (r : Room) → up_to 0 l r ≡ r
unfolding up_to
up_none l r = refl
