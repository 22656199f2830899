-- Every strip of a translation is well-formed (T5): it passes the shape test, and its bytes are the encoding of its entries.
use mathlib.Core.Path.{◌≡◌, refl, sym, ap}
use mathlib.Core.Bool.{Bool, true, false, cond, false≢true}
use mathlib.Core.List.{List, [], ◌∷◌, ◌++◌, append-nil}
use mathlib.Core.Option.{Option, none, some}
use Prim.Native.Nat.{ℕ, ◌≤◌}
use native.Mathlib.Omega.{arith}
use lib.Dec.{eqb, leb}
use lib.ListN.{length, get_or, take, drop, length-append, length-drop}
use lib.Seq.{take_at}
use borrow.Author.Tests.{leb-true}
use Rattle.strip.specs.declared.reader.Entry.TheVariants as Entry
use Rattle.strip.specs.Entry.{wide}
use Rattle.strip.specs.Shape.{names, ends_once, strip_ok, decode, shape_ok, strip_bytes, run_bytes}
use Rattle.strip.proofs.Tests.{and_left}
use Rattle.strip.proofs.Run.{strips-run, strips-shape}
use Rattle.translation.specs.Insn.{Insn}
use Rattle.translation.specs.Code.{Code, build}
use Rattle.translation.specs.Helpers.{p}
use Rattle.translation.specs.Arms.{arm_of}
use Rattle.translation.specs.Strip.{Decision, guard, guard_not, never_runs, block, guarded, entries_of, strip, marked, insn_of, first_refusal, is_none, admits, refused, fitted, answered, decision, length_of}
use Rattle.translation.specs.Turn.{is_written}
use Rattle.std.specs.Prelude.{Ok}
use Rattle.translation.specs.declared.answer.Refusal.{Refusal}
use Rattle.translation.specs.declared.answer.Refusal.TheVariants.{NoRoom}
use Rattle.translation.proofs.Fits.{bounded}
use Rattle.translation.proofs.Arms.{arm-sized, arm-range, guard-sized, guard-kind, guard-range}
use Rattle.translation.proofs.Typed.{typed, made, no-refs, sound}
use Rattle.translation.proofs.InRange.{in_range, ranged, bits-lt}
use Rattle.translation.proofs.WellFormed.{Piece, WellFormed, plain, in_block}

-- what typed code with numbers in range builds is well-formed
piece : (c : Code) (before : List ℕ) → typed [] c ≡ true → in_range c ≡ true → Piece before (build c [] (length before)).entries
piece c before t r =
    let s = sound c before [] [] tt t in
    record { inside = s.inside; bodies = s.bodies; numbers = ranged c [] (length before) r; refs = s.refs }

-- T5: the strip of every kind and word is well-formed
pub strip-well-formed : (k : ℕ) (i : Insn) → WellFormed (entries_of k i)
unfolding entries_of guarded
strip-well-formed k i = go (never_runs i) (eqb (guard i) 7)
  where
    go : (dead always : Bool) → WellFormed (cond dead [] (cond always (build (arm_of k i) [] 0).entries (block (build (p (guard i) (guard_not i)) [] 0) (arm_of k i))) ++ (Entry.Bare 255 ∷ []))
    go true always = plain [] (record { inside = refl; bodies = refl; numbers = refl; refs = no-refs [] }) (omega arith)
    go false true =
        plain (build (arm_of k i) [] 0).entries (piece (arm_of k i) [] (arm-sized k i).typed (arm-range k i))
        (omega (arith, bounded (arm_of k i) [] 0, (arm-sized k i).bound))
    go false false =
        let c = p (guard i) (guard_not i) in
        let g = build c [] 0 in
        let s = sound c [] [] [] tt (guard-sized (guard i) (guard_not i)).typed in
        let t : names (made g.entries) 2 g.result ≡ true = rw (← guard-kind (guard i) (guard_not i)) s.result in
        in_block g.entries (build (arm_of k i) [] g.next).entries g.result
        (piece c [] (guard-sized (guard i) (guard_not i)).typed (guard-range (guard i) (guard_not i) (bits-lt i 16 3)))
        t
        (rw s.next (piece (arm_of k i) (made g.entries) (arm-sized k i).typed (arm-range k i)))
        (omega (arith, bounded c [] 0, (guard-sized (guard i) (guard_not i)).bound, bounded (arm_of k i) [] g.next, (arm-sized k i).bound))

-- its bytes pass the shape test, and reading them finds its entries
strip-run : (k : ℕ) (i : Insn) → strip k i ≡ run_bytes wide (entries_of k i ∷ [])
unfolding strip run_bytes
strip-run k i = sym (append-nil (strip_bytes wide (entries_of k i)))

pub strip-shape : (k : ℕ) (i : Insn) → shape_ok wide (strip k i) ≡ true
strip-shape k i =
    let o = strip-well-formed k i in
    rw (strip-run k i) (strips-shape wide (entries_of k i ∷ []) (o.formed, tt) (rw o.passes refl))

pub strip-decodes : (k : ℕ) (i : Insn) → decode wide (strip k i) ≡ some (entries_of k i ∷ [])
unfolding strip_ok
strip-decodes k i =
    let o = strip-well-formed k i in
    rw (strip-run k i) (strips-run wide (entries_of k i ∷ []) (record { ends = and_left (ends_once (entries_of k i)) _ o.passes; formed = o.formed }, tt))

-- ---- for every record, marks and room

-- what an accepted translation hands back
pub record Accepted (l m room : List ℕ) (n : ℕ) (r : Decision) : Type 0 where
  pub size : n ≡ length (strip (get_or l 0 0) (insn_of l))
  pub fits : n ≤ length room
  pub marks : r.marks ≡ marked (get_or l 0 0) (insn_of l) m
  pub out : r.out ≡ strip (get_or l 0 0) (insn_of l) ++ drop n room

pub accepted : (l m out : List ℕ) (n : ℕ) → (decision l m out).outcome ≡ Ok n → (admits l ≡ true) × Accepted l m out n (decision l m out)
unfolding decision fitted admits length_of
accepted l m out n h = go (first_refusal l) h
  where
    s : List ℕ
    s = strip (get_or l 0 0) (insn_of l)

    Case : Bool → Decision → Type 0
    Case b r = r.outcome ≡ Ok n → (b ≡ true) × Accepted l m out n r

    no : (b : Bool) (f : Refusal) → Case b (refused f m out)
    no b f e = absurd (false≢true (ap is_written e))

    full : Decision
    full = record { outcome = Ok (length s); marks = marked (get_or l 0 0) (insn_of l) m; out = s ++ drop (length s) out }

    if-fits : (f : Bool) → (f ≡ true → length s ≤ length out) → Case true (cond f full (refused NoRoom m out))
    if-fits true w = λ x. let q : length s ≡ n = ap length_of x in (refl, record { size = sym q; fits = rw (← q) (w refl); marks = refl; out = ap (λ (j : ℕ). s ++ drop j out) q })
    if-fits false w = no true NoRoom

    go : (a : Option Refusal) → Case (is_none a) (answered a (get_or l 0 0) (insn_of l) m out)
    go none = if-fits (leb (length s) (length out)) (leb-true (length s) (length out))
    go (some r) = no false r

-- the bytes of an accepted record are one strip that passes the shape test: that of its entries
pub accepted-strip : (l m out : List ℕ) (n : ℕ) → (decision l m out).outcome ≡ Ok n → take n (decision l m out).out ≡ strip (get_or l 0 0) (insn_of l)
accepted-strip l m out n h = let a = (accepted l m out n h).1 in rw a.out (take_at (strip (get_or l 0 0) (insn_of l)) (drop n out) n (sym a.size))

pub accepted-shape : (l m out : List ℕ) (n : ℕ) → (decision l m out).outcome ≡ Ok n → shape_ok wide (take n (decision l m out).out) ≡ true
accepted-shape l m out n h = rw (accepted-strip l m out n h) (strip-shape (get_or l 0 0) (insn_of l))

-- an answer keeps the room's length, and what it writes fits
pub record Fitting (out : List ℕ) (a : Decision) : Type 0 where
  pub same : length a.out ≡ length out
  pub within : length_of a.outcome ≤ length out

refused-fits : (r : Refusal) (m out : List ℕ) → Fitting out (refused r m out)
unfolding length_of
refused-fits r m out = record { same = refl; within = omega arith }

fitted-fits : (k : ℕ) (i : Insn) (m out : List ℕ) → Fitting out (fitted k i m out)
unfolding fitted length_of
fitted-fits k i m out = by (leb (length (strip k i)) (length out)) refl
  where
    by : (b : Bool) → leb (length (strip k i)) (length out) ≡ b → Fitting out (fitted k i m out)
    by true e = let h : length (strip k i) ≤ length out = leb-true _ _ e in rw e (record { same = rw (length-append, length-drop) (omega arith); within = h })
    by false e = rw e (refused-fits NoRoom m out)

pub fits : (l m out : List ℕ) → Fitting out (decision l m out)
unfolding decision
fits l m out = go (first_refusal l)
  where
    go : (a : Option Refusal) → Fitting out (answered a (get_or l 0 0) (insn_of l) m out)
    go none = fitted-fits (get_or l 0 0) (insn_of l) m out
    go (some r) = refused-fits r m out
