-- Demand 3: records translated in turn into one room, and what their strips can reach (T9).
use mathlib.Core.Path.{◌≡◌, refl, sym, ap, ◌∙◌, subst}
use mathlib.Core.Bool.{true, false}
use mathlib.Core.List.{List, [], ◌∷◌, ◌++◌, append_assoc}
use Prim.Native.Nat.{ℕ, ◌+◌, ◌≤◌}
use native.Mathlib.Omega.{arith}
use lib.ListN.{length, get_or, take, drop, length-append, length-drop, take-append-drop}
use lib.Seq.{take_at, length-take-le, drop-drop, drop-append-add}
use Rattle.strip.specs.Entry.{wide, Each}
use Rattle.strip.specs.Shape.{shape_ok}
use Rattle.evaluation.specs.declared.state.State.{State}
use Rattle.evaluation.specs.State.{loaded}
use Rattle.evaluation.specs.Machine.{evaluated}
use Rattle.reach.specs.declared.cells.Cells.{Cells}
use Rattle.reach.specs.Reach.{reached}
use Rattle.reach.proofs.Isolation.{Agree, Starts, isolation, stored_in, unchanged}
use Rattle.std.specs.Prelude.{Ok, Err}
use Rattle.translation.specs.Strip.{Outcome}
use Rattle.translation.specs.declared.answer.Refusal.{Refusal}
use Rattle.translation.specs.Strip.{strip, insn_of, admits, length_of}
use Rattle.translation.proofs.Shape.{Accepted, accepted as accepted-is}
use Rattle.translation.specs.Turn.{run_of, Room, RecordAndMarks, turn_decision, turn, in_turn, accepted}
use Rattle.meaning.proofs.Demand1.{refused-untouched}
use Rattle.meaning.proofs.Means.{strips-shaped}

-- ---- in turn

-- what lies before the used bytes stays, then come the strips of the accepted records, then what the room held there
pub record Filled (gs : List RecordAndMarks) (r : Room) : Type 0 where
  pub admitted : Each (λ l. admits l ≡ true) (accepted gs r)
  pub used : (in_turn gs r).used ≡ r.used + length (run_of (accepted gs r))
  pub fits : (in_turn gs r).used ≤ length r.bytes
  pub bytes : (in_turn gs r).bytes ≡ take r.used r.bytes ++ (run_of (accepted gs r) ++ drop (in_turn gs r).used r.bytes)

-- a refused record changes nothing
turn-refused : (g : RecordAndMarks) (r : Room) (f : Refusal) → (turn_decision g r).outcome ≡ Err f → turn g r ≡ r
unfolding turn length_of
turn-refused g r f e =
    let u : r.used + 0 ≡ r.used = omega arith in
    rw (e, (refused-untouched g.bytes g.marks (drop r.used r.bytes) f e).1, take-append-drop r.used r.bytes, u) refl

module _ (g : RecordAndMarks) (r : Room) (h : r.used ≤ length r.bytes) (n : ℕ) (e : (turn_decision g r).outcome ≡ Ok n) where
  a : (admits g.bytes ≡ true) × Accepted g.bytes g.marks (drop r.used r.bytes) n (turn_decision g r)
  a = accepted-is g.bytes g.marks (drop r.used r.bytes) n e

  -- what stands before the rest then: what stood there, and the strip
  placed : List ℕ
  placed = take r.used r.bytes ++ strip (get_or g.bytes 0 0) (insn_of g.bytes)

  placed-length : length placed ≡ r.used + n
  unfolding placed
  placed-length = rw (length-append (take r.used r.bytes) (strip (get_or g.bytes 0 0) (insn_of g.bytes)), length-take-le r.used r.bytes h, ← a.1.size) refl

  turn-used : (turn g r).used ≡ r.used + n
  unfolding turn length_of
  turn-used = rw e refl

  turn-bytes : (turn g r).bytes ≡ placed ++ drop (r.used + n) r.bytes
  unfolding turn placed length_of
  turn-bytes =
      ap (λ (x : List ℕ). take r.used r.bytes ++ x) (a.1.out ∙ ap (λ (x : List ℕ). strip (get_or g.bytes 0 0) (insn_of g.bytes) ++ x) (drop-drop n r.used r.bytes))
      ∙ sym (append_assoc (take r.used r.bytes) (strip (get_or g.bytes 0 0) (insn_of g.bytes)) (drop (r.used + n) r.bytes))

  room-left : r.used + n ≤ length r.bytes
  room-left = let l = a.1.fits in let d = length-drop r.used r.bytes in omega arith

  turn-length : length (turn g r).bytes ≡ length r.bytes
  turn-length =
      ap length turn-bytes ∙ length-append placed (drop (r.used + n) r.bytes)
      ∙ (let d = length-drop (r.used + n) r.bytes in let p = placed-length in let l = room-left in omega arith)

  turn-fits : (turn g r).used ≤ length (turn g r).bytes
  turn-fits = omega (arith, turn-used, turn-length, room-left)

  turn-front : take (turn g r).used (turn g r).bytes ≡ placed
  turn-front = rw (turn-used, turn-bytes) (take_at placed (drop (r.used + n) r.bytes) (r.used + n) placed-length)

  turn-rest : (y : ℕ) → drop ((turn g r).used + y) (turn g r).bytes ≡ drop ((turn g r).used + y) r.bytes
  turn-rest y =
      rw (turn-used, turn-bytes)
      (ap (λ (x : ℕ). drop (x + y) (placed ++ drop (r.used + n) r.bytes)) (sym placed-length)
      ∙ drop-append-add placed (drop (r.used + n) r.bytes) y
      ∙ drop-drop y (r.used + n) r.bytes)

  filled_more : (gs : List RecordAndMarks) → Filled gs (turn g r) → Filled (g ∷ gs) r
  unfolding accepted in_turn run_of placed
  filled_more gs f =
      let ls = accepted gs (turn g r) in
      let k = (in_turn gs (turn g r)).used in
      let s = strip (get_or g.bytes 0 0) (insn_of g.bytes) in
      let m = length-append s (run_of ls) in
      let z = a.1.size in
      record {
        admitted = rw e (a.0, f.admitted);
        used = rw e (omega (arith, f.used, turn-used));
        fits = omega (arith, f.fits, turn-length);
        bytes =
            f.bytes
            ∙ rw (e, turn-front, f.used, turn-rest (length (run_of ls)))
            (append_assoc (take r.used r.bytes) s (run_of ls ++ drop ((turn g r).used + length (run_of ls)) r.bytes)
            ∙ ap (λ (x : List ℕ). take r.used r.bytes ++ x) (sym (append_assoc s (run_of ls) (drop ((turn g r).used + length (run_of ls)) r.bytes))));
      }

filled-refused : (g : RecordAndMarks) (gs : List RecordAndMarks) (r : Room) (f : Refusal) → (turn_decision g r).outcome ≡ Err f → Filled gs r → Filled (g ∷ gs) r
unfolding accepted in_turn
filled-refused g gs r f e w =
    let q = turn-refused g r f e in
    let v = subst (λ (x : Room). Filled gs x) (sym q) w in
    let u : (turn g r).used ≡ r.used = ap (λ (x : Room). x.used) q in
    let l : length (turn g r).bytes ≡ length r.bytes = ap (λ (x : Room). length x.bytes) q in
    record {
      admitted = rw e v.admitted;
      used = rw e (omega (arith, v.used));
      fits = omega (arith, v.fits);
      bytes =
          rw e
          (v.bytes
          ∙ ap (λ (x : Room). take x.used x.bytes ++ (run_of (accepted gs (turn g r)) ++ drop (in_turn gs (turn g r)).used x.bytes)) q);
    }

filled : (gs : List RecordAndMarks) (r : Room) → r.used ≤ length r.bytes → Filled gs r
unfolding accepted in_turn run_of
filled [] r h = record { admitted = tt; used = omega arith; fits = h; bytes = sym (take-append-drop r.used r.bytes) }
filled (g ∷ gs) r h = go (turn_decision g r).outcome refl (filled gs r h) (λ n e. filled gs (turn g r) (turn-fits g r h n e))
  where
    go : (o : Outcome) → (turn_decision g r).outcome ≡ o → Filled gs r → ((n : ℕ) → (turn_decision g r).outcome ≡ Ok n → Filled gs (turn g r)) → Filled (g ∷ gs) r
    go (Ok n) e w ih = filled_more g r h n e gs (ih n e)
    go (Err f) e w ih = filled-refused g gs r f e w

-- ---- demand 3

module _ (room : List ℕ) (gs : List RecordAndMarks) where
  -- the room after all of them, the accepted records, and the run that their strips are
  abbrev start : Room
  start = record { bytes = room; used = 0 }

  abbrev pub filled_room : Room
  filled_room = in_turn gs start

  abbrev pub records : List (List ℕ)
  records = accepted gs start

  abbrev pub run : List ℕ
  run = take filled_room.used filled_room.bytes

  -- what demand 3 says, for every room and every list of records with any use marks
  pub record Demand3 : Type 0 where
    -- the accepted records are admitted ones, and their strips stand in the room as one run, in that order; after it the room is as it was
    pub admitted : Each (λ l. admits l ≡ true) records
    pub strips : run ≡ run_of records
    pub stands : filled_room.bytes ≡ run_of records ++ drop filled_room.used room
    -- that run passes the shape test
    pub shape : shape_ok wide run ≡ true
    -- starts that agree on the reach list, both accepted, agree at the end on the asked cells
    pub isolated : (asked : Cells) → length asked.slots ≡ 32 → (s t : State) (cs ds : List ℕ) → Starts run (reached run asked).cells s cs t ds
        → Agree asked (evaluated wide run s cs).state cs (evaluated wide run t ds).state ds
    -- every evaluation, refused or not, leaves each cell that no strip stores as it was
    pub unchanged : (s : State) (cs : List ℕ) (k n : ℕ) → 4 ≤ k → k ≤ 6 → stored_in run k n ≡ false → loaded (evaluated wide run s cs).state k n ≡ loaded s k n

pub demand3 : (room : List ℕ) (gs : List RecordAndMarks) → Demand3 room gs
demand3 room gs =
    let r : Room = record { bytes = room; used = 0 } in
    let w = filled gs r (omega arith) in
    let u : (in_turn gs r).used ≡ length (run_of (accepted gs r)) = omega (arith, w.used) in
    let t : take (in_turn gs r).used (in_turn gs r).bytes ≡ run_of (accepted gs r) = rw w.bytes (take_at (run_of (accepted gs r)) (drop (in_turn gs r).used room) (in_turn gs r).used (sym u)) in
    record {
      admitted = w.admitted;
      strips = t;
      stands = w.bytes;
      shape = rw t (strips-shaped (accepted gs r));
      isolated = λ asked h s t' cs ds. isolation (run room gs) asked h s t' cs ds;
      unchanged = λ s cs k n. unchanged (run room gs) s cs k n;
    }
