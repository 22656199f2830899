-- The room of 256 bytes is enough: every admitted record's line has its strip, and no line says `refused 6`.
use Prim.Native.Nat.{ℕ, ◌≤◌}
use mathlib.Core.Path.{◌≡◌}
use mathlib.Core.List.{List, ◌++◌}
use mathlib.Core.Option.{Option, none, some}
use native.Mathlib.Omega.{arith}
use borrow.Author.Tests.{le-leb}
use lib.ListN.{length, drop, get_or, replicate}
use lib.Seq.{take-append_seam}
use Rattle.translation.specs.Insn.{Insn}
use Rattle.translation.specs.Strip.{strip, marked, insn_of, refusal_number, first_refusal, fitted, answered, decision}
use Rattle.std.specs.Prelude.{Ok, Err}
use Rattle.translation.specs.declared.answer.Refusal.{Refusal}
use Rattle.translation.specs.declared.answer.Refusal.TheVariants.{NoRoom}
use Rattle.translation.proofs.Refusals.{number_or_zero, first-below-6}
use Rattle.translation.proofs.Whole.{whole}
use Rattle.strip_printer.specs.Line.{hex_of, text_of, answer_to}

abbrev room : List ℕ
room = replicate 256 0

module _ (k : ℕ) (i : Insn) (m : List ℕ) where
  pub room-enough : fitted k i m room ≡ record { outcome = Ok (length (strip k i)); marks = marked k i m; out = strip k i ++ drop (length (strip k i)) room }
  unfolding fitted
  room-enough = rw (le-leb (length (strip k i)) (length room) (omega (arith, (whole k i room).short)))

  pub strip-printed : text_of (fitted k i m room).outcome (fitted k i m room).out ≡ hex_of (strip k i)
  unfolding text_of
  strip-printed = rw (room-enough, take-append_seam)

-- a record's answer is never a refusal for want of room
module _ (l m : List ℕ) where
  pub never-six : (answer_to l m).outcome ≡ Err NoRoom → ⊥
  unfolding answer_to decision refusal_number
  never-six = go (first_refusal l) (first-below-6 l)
    where
      go : (a : Option Refusal) → number_or_zero a ≤ 5 → (answered a (get_or l 0 0) (insn_of l) m room).outcome ≡ Err NoRoom → ⊥
      go none h = rw (room-enough (get_or l 0 0) (insn_of l) m) (λ e. let z : ◌≡◌ {A = ℕ} 0 1 = cc in omega arith)
      go (some r) h = λ e. let q : r ≡ NoRoom = cc in let k : number_or_zero (some NoRoom) ≤ 5 = rw q at h in omega (arith, k)
