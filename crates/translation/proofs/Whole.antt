-- What the code writes for a record is its strip, and the mark that it raises gives its marks: nothing is ever cut off.
use mathlib.Core.Path.{◌≡◌, refl, sym, ap, ◌∙◌}
use mathlib.Core.Bool.{Bool, true, false, cond}
use mathlib.Core.List.{List, [], ◌∷◌, ◌++◌, append_assoc, append-nil}
use Prim.Native.Nat.{ℕ, ◌+◌, ◌≤◌, ◌<◌}
use native.Mathlib.Omega.{arith}
use lib.Dec.{eqb}
use lib.ListN.{length, take, drop, length-append}
use lib.Seq.{sets, sets-eq, take-append_seam}
use borrow.Author.Tests.{le-leb, lt-leb}
use Rattle.strip.specs.declared.reader.Entry.{Entry}
use Rattle.strip.specs.Entry.{kind_of, refs_of, wide, immediate_of, encode}
use Rattle.strip.specs.Shape.{strip_bytes}
use Rattle.strip.proofs.Write.{sets-append}
use Rattle.translation.specs.Insn.{Insn}
use Rattle.translation.specs.Code.{Built, build}
use Rattle.translation.specs.Helpers.{p}
use Rattle.translation.specs.Arms.{arm_of}
use Rattle.translation.specs.Marks.{raise, uses}
use Rattle.translation.specs.Emit.{Buffer, Value, wrote, emits, start}
use Rattle.translation.specs.Strip.{guard, guard_not, never_runs, block, guarded, entries_of, strip, marked, refused, fitted}
use Rattle.translation.specs.Whole.{writes}
use Rattle.std.specs.Prelude.{Ok}
use Rattle.translation.specs.declared.answer.Refusal.TheVariants.{NoRoom}
use Rattle.translation.proofs.Fits.{bytes-append, roomy, next-bound, Mark, last, raised_mark, Fit, fits}
use Rattle.translation.proofs.Arms.{arm-sized, guard-sized}
use Rattle.translation.proofs.Marked.{clear, none-used, raise-none, one-used}

-- ---- a buffer that holds bytes from its front on
pub record Holds (l : List ℕ) (b : Buffer) (xs : List ℕ) : Type 0 where
  pub list : b.list ≡ sets l 0 xs
  pub at : b.at ≡ length xs

hold-entry : (l xs : List ℕ) (b : Buffer) (e : Entry) → Holds l b xs → length xs + length (encode wide e) ≤ 255 → Holds l (wrote e b) (xs ++ encode wide e)
unfolding wrote
hold-entry l xs b e h k = record {
  list = rw h.list (sets-append xs (encode wide e) l 0 b.at (omega (arith, h.at)));
  at = omega (arith, h.at, length-append xs (encode wide e));
}

hold-fit : (l xs : List ℕ) (b : Buffer) (m : Value) (es : List Entry) (r n : ℕ) (k : Mark) → Holds l b xs → Fit b m es r n k → Holds l m.buffer (xs ++ strip_bytes wide es)
hold-fit l xs b m es r n k h f = record {
  list = f.list ∙ rw h.list (sets-append xs (strip_bytes wide es) l 0 b.at (omega (arith, h.at)));
  at = omega (arith, f.at, h.at, length-append xs (strip_bytes wide es));
}

-- from l the code comes to b: it holds the bytes xs, and its mark takes the marks m to f m
pub record Holding (l : List ℕ) (b : Buffer) (xs : List ℕ) (f : List ℕ → List ℕ) : Type 0 where
  pub holds : Holds l b xs
  pub short : length xs ≤ 255
  pub mark : (m : List ℕ) → raise m b.slot b.need ≡ f m

wrote-slot : (e : Entry) (b : Buffer) → (wrote e b).slot ≡ b.slot
unfolding wrote
wrote-slot e b = refl

wrote-need : (e : Entry) (b : Buffer) → (wrote e b).need ≡ b.need
unfolding wrote
wrote-need e b = refl

wrote-next : (e : Entry) (b : Buffer) → (wrote e b).next ≡ b.next
unfolding wrote
wrote-next e b = refl

bare-size : (k : ℕ) → length (encode wide (Entry.Bare k)) ≡ 1
unfolding encode kind_of immediate_of refs_of
bare-size k = refl

open-size : (a : ℕ) → length (encode wide (Entry.One 100 a)) ≡ 3
unfolding encode kind_of immediate_of refs_of
open-size a = refl

last-bytes : (es : List Entry) (e : Entry) → strip_bytes wide (es ++ (e ∷ [])) ≡ strip_bytes wide es ++ encode wide e
unfolding strip_bytes
last-bytes es e = bytes-append es (e ∷ []) ∙ ap (λ (x : List ℕ). strip_bytes wide es ++ x) (append-nil (encode wide e))

end-bytes : strip_bytes wide (Entry.Bare 255 ∷ []) ≡ encode wide (Entry.Bare 255)
unfolding strip_bytes
end-bytes = append-nil (encode wide (Entry.Bare 255))

module _ (k : ℕ) (i : Insn) (l : List ℕ) where
  g : Built
  g = build (p (guard i) (guard_not i)) [] 0

  arm : ℕ → List Entry
  arm n = (build (arm_of k i) [] n).entries

  at-start : Holds l (start l) []
  at-start = record { list = refl; at = refl }

  -- the arm, after bytes that were written
  arm-fit : (b : Buffer) (xs : List ℕ) → Holds l b xs → length xs ≤ 8 → b.next ≤ 2
      → Fit b (emits (arm_of k i) [] b) (build (arm_of k i) [] b.next).entries (build (arm_of k i) [] b.next).result (build (arm_of k i) [] b.next).next (last (arm_of k i) (raised_mark b))
  arm-fit b xs h small few =
      fits (arm_of k i) [] b (omega (arith, h.at, roomy (arm_of k i) [] b.next, (arm-sized k i).room))
      (omega (arith, next-bound (arm_of k i) [] b.next, (arm-sized k i).bound))

  never : Holding l (wrote (Entry.Bare 255) (start l)) (encode wide (Entry.Bare 255)) (λ m. m)
  unfolding wrote
  never = record { holds = record { list = refl; at = omega (arith, bare-size 255) }; short = omega (arith, bare-size 255); mark = raise-none }

  plain : Holding l (wrote (Entry.Bare 255) (emits (arm_of k i) [] (start l)).buffer) (strip_bytes wide (arm 0) ++ encode wide (Entry.Bare 255)) (uses (arm_of k i))
  unfolding arm
  plain =
      let f = arm-fit (start l) [] at-start (omega arith) (omega arith) in
      let xs = strip_bytes wide (build (arm_of k i) [] 0).entries in
      let z : length xs ≤ 245 = omega (arith, roomy (arm_of k i) [] 0, (arm-sized k i).room) in
      record {
        holds = hold-entry l xs _ (Entry.Bare 255) (hold-fit l [] (start l) _ _ _ _ _ at-start f) (omega (arith, bare-size 255));
        short = omega (arith, length-append xs (encode wide (Entry.Bare 255)), bare-size 255);
        mark = λ m. rw (wrote-slot, wrote-need, f.slot, f.need) (sym (one-used (arm_of k i) m (arm-sized k i).marks));
      }

  -- after the guard and its open
  opened : (m : Value) → Holds l m.buffer (strip_bytes wide g.entries) → m.number ≡ g.result → m.buffer.next ≡ g.next → raised_mark m.buffer ≡ clear
      → Holding l (wrote (Entry.Bare 255) (wrote (Entry.Bare 101) (emits (arm_of k i) [] (wrote (Entry.One 100 m.number) m.buffer)).buffer))
      ((((strip_bytes wide g.entries ++ encode wide (Entry.One 100 g.result)) ++ strip_bytes wide (arm g.next)) ++ encode wide (Entry.Bare 101)) ++ encode wide (Entry.Bare 255)) (uses (arm_of k i))
  unfolding g arm
  opened m h er en em =
      let gr : length (strip_bytes wide g.entries) ≤ 5 = omega (arith, roomy (p (guard i) (guard_not i)) [] 0, (guard-sized (guard i) (guard_not i)).room) in
      let gb : g.next ≤ 2 = omega (arith, next-bound (p (guard i) (guard_not i)) [] 0, (guard-sized (guard i) (guard_not i)).bound) in
      let e = Entry.One 100 m.number in
      let o = wrote e m.buffer in
      let x0 = strip_bytes wide g.entries ++ encode wide e in
      let ho = hold-entry l (strip_bytes wide g.entries) m.buffer e h (omega (arith, open-size m.number)) in
      let on : o.next ≡ g.next = wrote-next e m.buffer ∙ en in
      let om : raised_mark o ≡ clear = rw (wrote-slot, wrote-need) em in
      let lo : length x0 ≤ 8 = omega (arith, length-append (strip_bytes wide g.entries) (encode wide e), open-size m.number) in
      let f = arm-fit o x0 ho lo (omega arith) in
      let x1 = strip_bytes wide (build (arm_of k i) [] o.next).entries in
      let z : length x1 ≤ 245 = omega (arith, roomy (arm_of k i) [] o.next, (arm-sized k i).room) in
      let hf = hold-fit l x0 o _ _ _ _ _ ho f in
      let l1 : length (x0 ++ x1) ≤ 253 = omega (arith, length-append x0 x1) in
      let hc = hold-entry l (x0 ++ x1) _ (Entry.Bare 101) hf (omega (arith, bare-size 101)) in
      let x2 = (x0 ++ x1) ++ encode wide (Entry.Bare 101) in
      let l2 : length x2 ≤ 254 = omega (arith, length-append (x0 ++ x1) (encode wide (Entry.Bare 101)), bare-size 101) in
      let he = hold-entry l x2 _ (Entry.Bare 255) hc (omega (arith, bare-size 255)) in
      let M = (emits (arm_of k i) [] o).buffer in
      let sl = wrote-slot (Entry.Bare 255) (wrote (Entry.Bare 101) M) ∙ wrote-slot (Entry.Bare 101) M ∙ f.slot ∙ ap (λ (w : Mark). (last (arm_of k i) w).slot) om in
      let ne = wrote-need (Entry.Bare 255) (wrote (Entry.Bare 101) M) ∙ wrote-need (Entry.Bare 101) M ∙ f.need ∙ ap (λ (w : Mark). (last (arm_of k i) w).need) om in
      rw (← er, ← on)
      (record {
        holds = he;
        short = omega (arith, length-append x2 (encode wide (Entry.Bare 255)), bare-size 255);
        mark = λ m. rw (sl, ne) (sym (one-used (arm_of k i) m (arm-sized k i).marks));
      })

  in_block : Holding l
      (wrote (Entry.Bare 255) (wrote (Entry.Bare 101) (emits (arm_of k i) [] (wrote (Entry.One 100 (emits (p (guard i) (guard_not i)) [] (start l)).number) (emits (p (guard i) (guard_not i)) [] (start l)).buffer)).buffer))
      ((((strip_bytes wide g.entries ++ encode wide (Entry.One 100 g.result)) ++ strip_bytes wide (arm g.next)) ++ encode wide (Entry.Bare 101)) ++ encode wide (Entry.Bare 255)) (uses (arm_of k i))
  unfolding g
  in_block =
      let c = p (guard i) (guard_not i) in
      let f = fits c [] (start l) (omega (arith, roomy c [] 0, (guard-sized (guard i) (guard_not i)).room)) (omega (arith, next-bound c [] 0, (guard-sized (guard i) (guard_not i)).bound)) in
      let e : raised_mark (emits c [] (start l)).buffer ≡ last c clear = rw (f.slot, f.need) in
      opened (emits c [] (start l)) (hold-fit l [] (start l) _ _ _ _ _ at-start f) f.number f.next (e ∙ (none-used c [] clear (let z = (guard-sized (guard i) (guard_not i)).marks in omega arith)).1)

  block-bytes : strip_bytes wide (block g (arm_of k i) ++ (Entry.Bare 255 ∷ [])) ≡ (((strip_bytes wide g.entries ++ encode wide (Entry.One 100 g.result)) ++ strip_bytes wide (arm g.next)) ++ encode wide (Entry.Bare 101)) ++ encode wide (Entry.Bare 255)
  unfolding arm strip_bytes
  block-bytes =
      let o : Entry = Entry.One 100 g.result in
      let es = (build (arm_of k i) [] g.next).entries in
      last-bytes (block g (arm_of k i)) (Entry.Bare 255)
      ∙ ap (λ (x : List ℕ). x ++ encode wide (Entry.Bare 255))
      (bytes-append g.entries (o ∷ (es ++ (Entry.Bare 101 ∷ [])))
      ∙ ap (λ (x : List ℕ). strip_bytes wide g.entries ++ (encode wide o ++ x)) (last-bytes es (Entry.Bare 101))
      ∙ sym (append_assoc (strip_bytes wide g.entries) (encode wide o) (strip_bytes wide es ++ encode wide (Entry.Bare 101)))
      ∙ sym (append_assoc (strip_bytes wide g.entries ++ encode wide o) (strip_bytes wide es) (encode wide (Entry.Bare 101))))

  pub whole : Holding l (writes k i (start l)) (strip k i) (marked k i)
  unfolding writes strip entries_of marked guarded g arm
  whole = go (never_runs i) (eqb (guard i) 7)
    where
      go : (dead always : Bool) → Holding l
          (cond dead (wrote (Entry.Bare 255) (start l))
          (cond always (wrote (Entry.Bare 255) (emits (arm_of k i) [] (start l)).buffer)
          (wrote (Entry.Bare 255) (wrote (Entry.Bare 101) (emits (arm_of k i) [] (wrote (Entry.One 100 (emits (p (guard i) (guard_not i)) [] (start l)).number) (emits (p (guard i) (guard_not i)) [] (start l)).buffer)).buffer))))
          (strip_bytes wide (cond dead [] (cond always (build (arm_of k i) [] 0).entries (block (build (p (guard i) (guard_not i)) [] 0) (arm_of k i))) ++ (Entry.Bare 255 ∷ [])))
          (λ m. cond dead m (uses (arm_of k i) m))
      go true always = rw end-bytes never
      go false true = rw (last-bytes (build (arm_of k i) [] 0).entries (Entry.Bare 255)) plain
      go false false = rw block-bytes in_block

-- ---- the room

-- what the buffer holds after a whole strip
pub record Done (k : ℕ) (i : Insn) (b : Buffer) : Type 0 where
  pub bytes : take b.at b.list ≡ strip k i
  pub at : b.at ≡ length (strip k i)
  pub mark : (m : List ℕ) → raise m b.slot b.need ≡ marked k i m

pub done : (k : ℕ) (i : Insn) (a b : Buffer) → a ≡ start a.list → length a.list ≡ 264 → b ≡ writes k i a → Done k i b
done k i a b s n e =
    let w : Holding a.list b (strip k i) (marked k i) = rw (e, s) (whole k i a.list) in
    record {
      bytes = rw (w.holds.at, w.holds.list, sets-eq (strip k i) a.list 0 (omega (arith, w.short))) (take-append_seam (strip k i) (drop (0 + length (strip k i)) a.list));
      at = w.holds.at;
      mark = w.mark;
    }

pub no_room : (k : ℕ) (i : Insn) (m out : List ℕ) → length out < length (strip k i) → refused NoRoom m out ≡ fitted k i m out
unfolding fitted
no_room k i m out h = rw (lt-leb (length (strip k i)) (length out) h)

pub accepts : (k : ℕ) (i : Insn) (m out : List ℕ) → length (strip k i) ≤ length out
    → record { outcome = Ok (length (strip k i)); marks = marked k i m; out = strip k i ++ drop (length (strip k i)) out } ≡ fitted k i m out
unfolding fitted
accepts k i m out h = rw (le-leb (length (strip k i)) (length out) h)
