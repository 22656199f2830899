-- Demand 1 of the translation: what 01 admits is translated where there is room for it; a refusal leaves marks and room as they were. That nothing else
-- is translated, and what an accepted translation hands back, is `accepted` of the crate translation.
use mathlib.Core.Path.{◌≡◌, refl, ap}
use mathlib.Core.Bool.{Bool, true, false, cond, false≢true, true≢false}
use mathlib.Core.List.{List, ◌++◌}
use mathlib.Core.Option.{Option, none, some}
use Prim.Native.Nat.{ℕ, ◌≤◌}
use borrow.Author.Tests.{le-leb}
use lib.Dec.{leb}
use lib.ListN.{length, get_or, drop}
use Rattle.std.specs.Prelude.{Ok, Err}
use Rattle.translation.specs.Strip.{Outcome}
use Rattle.translation.specs.declared.answer.Refusal.{Refusal}
use Rattle.translation.specs.declared.answer.Refusal.TheVariants.{NoRoom}
use Rattle.translation.specs.Strip.{Decision, strip, marked, insn_of, first_refusal, is_none, admits, refused, fitted, answered, decision, number_of, length_of, answer_of, translation}
use Rattle.translation.specs.Turn.{is_written}

-- the record's strip at the front of the room, with its length and its marks
abbrev translated : List ℕ → List ℕ → List ℕ → Decision
translated l m out =
    record { outcome = Ok (length (strip (get_or l 0 0) (insn_of l))); marks = marked (get_or l 0 0) (insn_of l) m; out = strip (get_or l 0 0) (insn_of l) ++ drop (length (strip (get_or l 0 0) (insn_of l))) out }

pub admitted-translated : (l m out : List ℕ) → admits l ≡ true → length (strip (get_or l 0 0) (insn_of l)) ≤ length out → decision l m out ≡ translated l m out
unfolding decision fitted admits
admitted-translated l m out h w = go (first_refusal l) h
  where
    go : (a : Option Refusal) → is_none a ≡ true → answered a (get_or l 0 0) (insn_of l) m out ≡ translated l m out
    go none x = rw (le-leb (length (strip (get_or l 0 0) (insn_of l))) (length out) w) refl
    go (some r) x = absurd (false≢true x)

pub refused-untouched : (l m out : List ℕ) (f : Refusal) → (decision l m out).outcome ≡ Err f → ((decision l m out).marks ≡ m) × ((decision l m out).out ≡ out)
unfolding decision fitted
refused-untouched l m out f = go (first_refusal l)
  where
    Case : Decision → Type 0
    Case r = r.outcome ≡ Err f → (r.marks ≡ m) × (r.out ≡ out)

    if-fits : (b : Bool) → Case (cond b (translated l m out) (refused NoRoom m out))
    if-fits true = λ x. absurd (true≢false (ap is_written x))
    if-fits false = λ x. (refl, refl)

    go : (a : Option Refusal) → Case (answered a (get_or l 0 0) (insn_of l) m out)
    go none = if-fits (leb (length (strip (get_or l 0 0) (insn_of l))) (length out))
    go (some r) = λ x. (refl, refl)

-- ---- the same of the answers, in 01's numbers

pub admitted-answered : (l m out : List ℕ) → admits l ≡ true → length (strip (get_or l 0 0) (insn_of l)) ≤ length out → translation l m out
    ≡ record { number = 0; length = length (strip (get_or l 0 0) (insn_of l)); marks = marked (get_or l 0 0) (insn_of l) m; out = strip (get_or l 0 0) (insn_of l) ++ drop (length (strip (get_or l 0 0) (insn_of l))) out }
unfolding translation number_of length_of
admitted-answered l m out h w = ap answer_of (admitted-translated l m out h w)

pub refused-answered : (l m out : List ℕ) → ((translation l m out).number ≡ 0 → ⊥) → translation l m out ≡ record { number = (translation l m out).number; length = 0; marks = m; out = out }
unfolding translation number_of length_of
refused-answered l m out h = go (decision l m out).outcome refl
  where
    go : (o : Outcome) → (decision l m out).outcome ≡ o → translation l m out ≡ record { number = (translation l m out).number; length = 0; marks = m; out = out }
    go (Ok n) e = absurd (h (ap number_of e))
    go (Err f) e = let u = refused-untouched l m out f e in rw (e, u.0, u.1)
