-- The code's pass over the entries of a run keeps what the table says of it.
use Rattle.std.specs.Prelude.{None}
use mathlib.Core.Path.{◌≡◌, refl, ap, ◌∙◌, sym}
use mathlib.Core.List.{List, [], ◌∷◌}
use mathlib.Core.Option.{Option, none}
use mathlib.Core.Option as O
use mathlib.Core.Bool.{Bool, true, false, cond, ◌&&◌, ◌||◌, false≢true, or-false}
use Prim.Native.Nat.{ℕ, suc, ◌+◌, ◌≤◌, ◌<◌}
use native.Mathlib.Omega.{arith}
use native.Mathlib.Numerals.{add-one}
use lib.Dec.{eqb, ltb}
use lib.ListN.{length, get_or, take, drop, length-set, drop_of_length-le}
use lib.Seq.{take-suc-set}
use borrow.Author.Tests.{eqb-true, ne_eqb, ltb-true, ltb-false}
use Rattle.strip.specs.declared.format.Body.{Body}
use Rattle.strip.specs.declared.reader.Entry.{Entry}
use Rattle.strip.specs.declared.shape.Shape.{Shape}
use Rattle.strip.specs.Format.{format_of}
use Rattle.strip.specs.Entry.{wide, kind_of, body_of, reads_from}
use Rattle.strip.specs.Shape.{is_open, is_end, joined, cut_at_ends, decode, all_ok, shape_ok}
use Rattle.strip.specs.Pass.{Ready, fresh, stepped, pass_from}
use Rattle.strip.proofs.EntryRead.{Turn}
use Rattle.strip.proofs.Pass.{pass_shape, pass-stop, pass-refused, pass-taken, ready-fresh, step-ready, left-falls}
use Rattle.evaluation.specs.Cells.{stores, loads}
use Rattle.strip.proofs.Steps.{end_is}
use Rattle.reach.specs.declared.cells.Cells.{Cells}
use Rattle.reach.specs.declared.walk.StripSummary.{StripSummary}
use Rattle.reach.specs.Reach.{any, reach_strips}
use Rattle.reach.specs.Rows.{Sized, RowSteps, Whole, Passed, in_row, lists, wipe_row, rows_stored_all, empty_summary as nothing, rows_ended, listed_no, load_place, store_place, rows_after, summary_after, any_below, in_table}
use Rattle.reach.proofs.Truths.{any_none, any-one, any-cong}
use Rattle.reach.proofs.Bits.{wipe-bit, wipe-sized, zero_bit}
use Rattle.reach.proofs.Lists.{loaded-sized, loaded-union, loaded-lists, stored-all-sized, stored-all-lists, same_lists, lists-first, any_snoc}
use Rattle.reach.proofs.TableReach.{loads_no, stores_no, load_is, store_is, mixed, rest, rest-begin, rest-entry, rest_end, Entered}

-- ---- one entry

-- column d of a table; the stored cells so far
abbrev pub column : List ℕ → ℕ → ℕ → Bool
column t d x = lists t x d

abbrev pub among : List ℕ → ℕ → ℕ → Bool
among cs m x = any (eqb x) (take m cs)

-- the arrays have their lengths
pub record Lengths (t : List ℕ) (s : StripSummary) : Type 0 where
  pub sized : Sized t
  pub room : length s.stored ≡ 64

-- only a kind with one reference is an open
not-open : (k : ℕ) (b : Body) → (format_of k).body ≡ b → (b ≡ Body.One → ⊥) → eqb k 100 ≡ false
unfolding format_of
not-open k b p ne = go (eqb k 100) refl
  where
    go : (q : Bool) → eqb k 100 ≡ q → q ≡ false
    go true e = absurd (ne (sym p ∙ ap (λ (j : ℕ). (format_of j).body) (eqb-true k 100 e)))
    go false e = refl

idle : (r : ℕ → Bool) (u : Bool) (i : ℕ → Bool) (o : Bool) (e : Entry) → ((y : ℕ) → loads_no y e ≡ false) → ((x : ℕ) → stores_no x e ≡ false) → is_open e ≡ false → Entered r r u u i i o o e
idle r u i o e loads stores opens = record {
  rows = λ x h. refl;
  union = sym (ap (λ (b : Bool). u || b) (any_none 298 _ (λ y h. ap (λ (b : Bool). b && r y) (loads y))) ∙ or-false u);
  stored_cells = λ x h. sym (ap (λ (b : Bool). i x || b) (stores x) ∙ or-false (i x));
  opened = sym (ap (λ (b : Bool). o || b) opens ∙ or-false o);
}

module _ (t : List ℕ) (s : StripSummary) (kept : Lengths t s) (few : s.count < 64) where
  load : (d : ℕ) → d < 298 → (j n : ℕ) → ltb (load_place j n) 298 && lists t (load_place j n) d ≡ any_below 298 (λ y. loads_no y (Entry.Cell j n) && lists t y d)
  load d l j n = go (ltb (load_place j n) 298) refl ∙ sym (any-cong 298 _ _ (λ y h. ap (λ (b : Bool). b && lists t y d) (load_is y h n j)))
    where
      go : (b : Bool) → ltb (load_place j n) 298 ≡ b → b && lists t (load_place j n) d ≡ any_below 298 (λ y. eqb y (load_place j n) && lists t y d)
      go true p = sym (any-one 298 (load_place j n) (column t d) (ltb-true (load_place j n) 298 p))
      go false p = let h = ltb-false (load_place j n) 298 p in sym (any_none 298 _ (λ y k. ap (λ (b : Bool). b && lists t y d) (ne_eqb y (load_place j n) (λ q. omega arith))))

  entered : (d : ℕ) → d < 298 → (e : Entry) → (format_of (kind_of e)).body ≡ body_of e → is_end e ≡ false
      → Entered (column t d) (column (rows_after t s e) d) (in_row t 298 d) (in_row (rows_after t s e) 298 d) (among s.stored s.count) (among (summary_after s e).stored (summary_after s e).count) s.block (summary_after s e).block e
  unfolding rows_after summary_after loads stores kind_of body_of
  entered d l (Entry.Bare k) b p = rw p (idle _ _ _ _ (Entry.Bare k) (λ y. refl) (λ x. refl) (not-open k Body.Bare b (λ q. let z : ◌≡◌ {A = ℕ} 0 1 = cc in omega arith)))
  entered d l (Entry.Word w) b p = idle _ _ _ _ (Entry.Word w) (λ y. refl) (λ x. refl) refl
  entered d l (Entry.Cell k n) b p = record {
    rows = λ x h. loaded-lists t (load_place k n) kept.sized x d h l;
    union = loaded-union t (load_place k n) kept.sized d l ∙ ap (λ (b : Bool). in_row t 298 d || b) (load d l k n);
    stored_cells = λ x h. sym (or-false (among s.stored s.count x));
    opened = sym (ap (λ (b : Bool). s.block || b) (not-open k Body.Cell b (λ q. let z : ◌≡◌ {A = ℕ} 0 1 = cc in omega arith)) ∙ or-false s.block);
  }
  entered d l (Entry.Store k n r) b p = record {
    rows = λ x h. refl;
    union = sym (ap (λ (b : Bool). in_row t 298 d || b) (any_none 298 _ (λ y h. refl)) ∙ or-false (in_row t 298 d));
    stored_cells = λ x h.
        rw (add-one, take-suc-set s.stored s.count (store_place k n) (omega (arith, kept.room)))
        (any_snoc (eqb x) (take s.count s.stored) (store_place k n) ∙ ap (λ (b : Bool). among s.stored s.count x || b) (sym (store_is x h n k r)));
    opened = sym (ap (λ (b : Bool). s.block || b) (not-open k Body.Store b (λ q. let z : ◌≡◌ {A = ℕ} 0 1 = cc in omega arith)) ∙ or-false s.block);
  }
  entered d l (Entry.One k a) b p = record {
    rows = λ x h. refl;
    union = sym (ap (λ (b : Bool). in_row t 298 d || b) (any_none 298 _ (λ y h. refl)) ∙ or-false (in_row t 298 d));
    stored_cells = λ x h. sym (or-false (among s.stored s.count x));
    opened = refl;
  }
  entered d l (Entry.Two k a b') b p = idle _ _ _ _ (Entry.Two k a b') (λ y. refl) (λ x. refl) (not-open k Body.Two b (λ q. let z : ◌≡◌ {A = ℕ} 0 1 = cc in omega arith))
  entered d l (Entry.Three k a b' c) b p = idle _ _ _ _ (Entry.Three k a b' c) (λ y. refl) (λ x. refl) (not-open k Body.Three b (λ q. let z : ◌≡◌ {A = ℕ} 0 1 = cc in omega arith))
  entered d l (Entry.Four k a b' c f) b p = idle _ _ _ _ (Entry.Four k a b' c f) (λ y. refl) (λ x. refl) (not-open k Body.Four b (λ q. let z : ◌≡◌ {A = ℕ} 0 1 = cc in omega arith))

  keeps : (e : Entry) → Lengths (rows_after t s e) (summary_after s e)
  unfolding rows_after summary_after rows_ended
  keeps (Entry.Bare k) = record { sized = go (eqb k 255); room = begun (eqb k 255) }
    where
      begun : (b : Bool) → length (cond b (nothing s.stored) s).stored ≡ 64
      begun true = kept.room
      begun false = kept.room

      go : (b : Bool) → Sized (cond b (wipe_row (rows_stored_all s.block t s.stored s.count) 298) t)
      go true = wipe-sized _ 298 (stored-all-sized s.block t s.stored s.count kept.sized)
      go false = kept.sized
  keeps (Entry.Word w) = kept
  keeps (Entry.Cell k n) = record { sized = loaded-sized t (load_place k n) kept.sized; room = kept.room }
  keeps (Entry.Store k n r) = record { sized = kept.sized; room = simp length-set kept.room }
  keeps (Entry.One k a) = record { sized = kept.sized; room = kept.room }
  keeps (Entry.Two k a b) = kept
  keeps (Entry.Three k a b c) = kept
  keeps (Entry.Four k a b c d) = kept

  -- the end of the strip
  ended-bit : (x d : ℕ) → d < 298 → in_row (rows_after t s (Entry.Bare 255)) x d ≡ cond (eqb x 298) false (in_row (rows_stored_all s.block t s.stored s.count) x d)
  unfolding rows_after rows_ended
  ended-bit x d l = wipe-bit (rows_stored_all s.block t s.stored s.count) 298 0 (stored-all-sized s.block t s.stored s.count kept.sized) (omega arith) x d l

  ended-row : (d : ℕ) → d < 298 → (x : ℕ) → x < 298 → lists (rows_after t s (Entry.Bare 255)) x d ≡ mixed (among s.stored s.count x) s.block (in_row t 298 d) (lists t x d)
  unfolding mixed
  ended-row d l x h =
      same_lists (rows_stored_all s.block t s.stored s.count) _ x d (ended-bit 299 x h) (ended-bit x d l ∙ rw (ne_eqb x 298 (λ q. omega arith)))
      ∙ stored-all-lists s.block t s.stored kept.sized d l s.count x h (omega (arith, kept.room))

  ended-rest : (t' : List ℕ) → t' ≡ rows_after t s (Entry.Bare 255) → (ss : List (List Entry)) (c : Cells) → Whole c → (d : ℕ) → d < 298
      → rest (column t d) (in_row t 298 d) (among s.stored s.count) s.block ((Entry.Bare 255 ∷ []) ∷ ss) c ≡ rest (column t' d) (in_row t' 298 d) (λ x. false) false ss c
  ended-rest t' p ss c w d l =
      rest_end (column t d) (column t' d) (in_row t 298 d) (among s.stored s.count) s.block (λ x h. ap (λ (z : List ℕ). lists z x d) p ∙ ended-row d l x h) ss c w
      ∙ ap (λ (u : Bool). rest (column t' d) u (λ x. false) false ss c) (sym (ap (λ (z : List ℕ). in_row z 298 d) p ∙ ended-bit 298 d l))

-- ---- the room for the cells that a strip stores: each entry takes one of those that may come
counted : (s : StripSummary) (e : Entry) → (summary_after s e).count ≤ suc s.count
unfolding summary_after
counted s (Entry.Bare k) = go (eqb k 255)
  where
    go : (b : Bool) → (cond b (nothing s.stored) s).count ≤ suc s.count
    go true = omega arith
    go false = omega arith
counted s (Entry.Word w) = omega arith
counted s (Entry.Cell k n) = omega arith
counted s (Entry.Store k n r) = omega arith
counted s (Entry.One k a) = omega arith
counted s (Entry.Two k a b) = omega arith
counted s (Entry.Three k a b c) = omega arith
counted s (Entry.Four k a b c d) = omega arith

room-step : (g : Shape) (s : StripSummary) (e : Entry) → Ready g → (format_of (kind_of e)).body ≡ body_of e → ((stepped g e).left ≡ 0 → ⊥) → s.count + g.left ≤ 64 → (summary_after s e).count + (stepped g e).left ≤ 64
unfolding summary_after
room-step g s e r body ok h = go (is_end e) refl
  where
    go : (b : Bool) → is_end e ≡ b → (summary_after s e).count + (stepped g e).left ≤ 64
    go true p = rw (end_is e body p) (omega (arith, (step-ready g (Entry.Bare 255) r (rw (end_is e body p) at ok)).values))
    go false p = omega (arith, left-falls g e r p, counted s e)

-- ---- a run

-- the strips that are left of a run; there are some
unfoldable pub strips : List ℕ → ℕ → Option (List (List Entry))
strips run at = cut_at_ends (reads_from wide 0 (drop at run))

unfoldable pub going : Option (List (List Entry)) → Bool
going none = false
going (O.some ss) = true

-- what the table says at a place of a well-formed run
pub record Reaching (run : List ℕ) (at : ℕ) (t : List ℕ) (s : StripSummary) : Type 0 where
  pub goes : going (strips run at) ≡ true
  pub holds : (c : Cells) → Whole c → (d : ℕ) → d < 298
      → rest (column t d) (in_row t 298 d) (among s.stored s.count) s.block (O.get_or (strips run at) []) c ≡ listed_no (reach_strips (O.get_or (decode wide run) []) c) d

-- what each turn of the loop keeps
pub record Passing (run : List ℕ) (at : ℕ) (t : List ℕ) (s : StripSummary) (g : Shape) : Type 0 where
  pub kept : Lengths t s
  pub ready : Ready g
  pub room : s.count + g.left ≤ 64
  pub shape : pass_from g (reads_from wide 0 (drop at run)) ≡ shape_ok wide run
  pub reaching : shape_ok wide run ≡ true → Reaching run at t s

pub passing-begin : (run t cs : List ℕ) → Sized t → ((i : ℕ) → get_or t i 0 ≡ 0) → length cs ≡ 64 → Passing run 0 t (nothing cs) fresh
unfolding strips going decode shape_ok
passing-begin run t cs sized zeros room = record {
  kept = record { sized = sized; room = room };
  ready = ready-fresh;
  room = omega arith;
  shape = pass_shape wide run;
  reaching = λ p. record {
    goes = go (cut_at_ends (reads_from wide 0 run)) p;
    holds = λ c w d h.
        ap (λ (u : Bool). rest (column t d) u (among cs 0) false (O.get_or (cut_at_ends (reads_from wide 0 run)) []) c) (zero_bit t zeros 298 d)
        ∙ rest-begin (column t d) d h (λ x l. lists-first t zeros x d) (O.get_or (cut_at_ends (reads_from wide 0 run)) []) c w;
  };
}
  where
    go : (o : Option (List (List Entry))) → all_ok o ≡ true → going o ≡ true
    go none h = absurd (false≢true h)
    go (O.some ss) h = refl

-- the run is refused
pub refused-run : (t run : List ℕ) → false ≡ shape_ok wide run → Passed t run false
refused-run t run p = record { shape = p; holds = λ q. absurd (false≢true q) }

module _ (run : List ℕ) (at : ℕ) (t : List ℕ) (s : StripSummary) (g : Shape) (passing : Passing run at t s g) where
  pub passing-stop : reads_from wide 0 (drop at run) ≡ None ∷ [] → false ≡ shape_ok wide run
  passing-stop p = pass-stop g _ p ∙ passing.shape

  pub passing-done : length run ≤ at → (b : Bool) → eqb g.left 64 ≡ b → Passed t run b
  unfolding pass_from strips cut_at_ends reads_from rest in_table
  passing-done h b e =
      let p : b ≡ shape_ok wide run = sym e ∙ ap (λ (rs : List ℕ). pass_from g (reads_from wide 0 rs)) (sym (drop_of_length-le run h)) ∙ passing.shape in
      record {
        shape = p;
        holds = λ ok. record {
          sized = passing.kept.sized;
          reach = λ c w d l.
              ap (λ (rs : List ℕ). rest (column t d) (in_row t 298 d) (among s.stored s.count) s.block (O.get_or (cut_at_ends (reads_from wide 0 rs)) []) c) (sym (drop_of_length-le run h))
              ∙ (passing.reaching (sym p ∙ ok)).holds c w d l;
        };
      }

  pub passing-room : s.count < 64
  passing-room = let l = passing.ready.left in let r = passing.room in omega arith

  module _ (e : Entry) (n : ℕ) (turn : Turn wide run at e n) where
    pub passing-refused : (stepped g e).left ≡ 0 → false ≡ shape_ok wide run
    passing-refused p = pass-refused g _ e n _ turn.reads p ∙ passing.shape

    here : strips run at ≡ joined e (strips run (at + n))
    unfolding strips cut_at_ends
    here = ap cut_at_ends turn.reads

    Follows : List ℕ → StripSummary → Option (List (List Entry)) → Option (List (List Entry)) → Type 0
    Follows t' s' o o' =
        (going o' ≡ true)
        × ((c : Cells) → Whole c → (d : ℕ) → d < 298
        → rest (column t d) (in_row t 298 d) (among s.stored s.count) s.block (O.get_or o []) c ≡ rest (column t' d) (in_row t' 298 d) (among s'.stored s'.count) s'.block (O.get_or o' []) c)

    module _ (t' : List ℕ) (s' : StripSummary) (st : RowSteps t s e t' s') where
      -- the entry ends its strip
      ends : is_end e ≡ true → (ss : List (List Entry)) → Follows t' s' (O.some ((e ∷ []) ∷ ss)) (O.some ss)
      unfolding Follows going summary_after
      ends p ss =
          let q = end_is e turn.body p in
          let summary-empty : s' ≡ nothing s.stored = st.summary ∙ ap (summary_after s) q in (
            refl,
            λ c w d l.
                ap (λ (z : Entry). rest (column t d) (in_row t 298 d) (among s.stored s.count) s.block ((z ∷ []) ∷ ss) c) q
                ∙ ended-rest t s passing.kept passing-room t' (st.rows ∙ ap (rows_after t s) q) ss c w d l
                ∙ ap (λ (z : StripSummary). rest (column t' d) (in_row t' 298 d) (among z.stored z.count) z.block ss c) (sym summary-empty),
          )

      -- the strip goes on
      goes_on : is_end e ≡ false → (es : List Entry) (ss : List (List Entry)) → Follows t' s' (O.some ((e ∷ es) ∷ ss)) (O.some (es ∷ ss))
      unfolding Follows going
      goes_on p es ss = (
        refl,
        λ c w d k.
            rw (st.rows, st.summary)
            (rest-entry (column t d) _ (in_row t 298 d) _ (among s.stored s.count) _ s.block _ e (entered t s passing.kept passing-room d k e turn.body p) es ss c),
      )

      next : (o : Option (List (List Entry))) (b : Bool) → is_end e ≡ b → going (joined e o) ≡ true → Follows t' s' (joined e o) o
      unfolding going
      next none b p h = absurd (false≢true h)
      next (O.some ss) true p h = rw p (ends p ss)
      next (O.some []) false p h = absurd (false≢true (rw p at h))
      next (O.some (es ∷ ss)) false p h = rw p (goes_on p es ss)

      reaching-step : Reaching run at t s → Reaching run (at + n) t' s'
      unfolding Follows
      reaching-step r =
          let k = next (strips run (at + n)) (is_end e) refl (ap going (sym here) ∙ r.goes) in
          record {
            goes = k.0;
            holds = λ c w d l.
                sym (k.1 c w d l)
                ∙ ap (λ (o : Option (List (List Entry))). rest (column t d) (in_row t 298 d) (among s.stored s.count) s.block (O.get_or o []) c) (sym here)
                ∙ r.holds c w d l;
          }

      pub passing_step : (g' : Shape) → g' ≡ stepped g e → (g'.left ≡ 0 → ⊥) → Passing run (at + n) t' s' g'
      passing_step g' is ok =
          let any : (stepped g e).left ≡ 0 → ⊥ = rw is at ok in
          record {
            kept = rw (st.rows, st.summary) (keeps t s passing.kept passing-room e);
            ready = rw is (step-ready g e passing.ready any);
            room = rw (is, st.summary) (room-step g s e passing.ready turn.body any passing.room);
            shape = rw is (pass-taken g _ e n _ turn.reads any ∙ passing.shape);
            reaching = λ p. reaching-step (passing.reaching p);
          }
