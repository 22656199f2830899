-- A record translated and its strip evaluated: the refusals are 01's, and the state is that of the meaning.
use Rattle.evaluation.specs.Machine.{Outcome as EvaluationOutcome}
use mathlib.Core.Path.{◌≡◌, refl, sym, ap, ◌∙◌}
use mathlib.Core.Bool.{Bool, true, false, cond, not, ◌&&◌}
use mathlib.Core.List.{List, [], ◌∷◌}
use mathlib.Core.Option.{Option, none, some}
use Prim.Native.Nat.{ℕ, zero, suc, ◌-◌, ◌^◌, ◌≤◌, ◌<◌}
use native.Mathlib.Omega.{arith}
use lib.Dec.{eqb, ltb, leb}
use lib.ListN.{length, get_or, take}
use mir.Val.{Val}
use denote.Array.{each}
use denote.Shadow.{shadow}
use denote.Builtin.{u32}
use borrow.Author.Tests.{le-leb}
use Rattle.strip.specs.Entry.{wide}
use Rattle.evaluation.specs.declared.state.State.{State}
use Rattle.evaluation.specs.Machine.{refusal_told, told, returns, ends, answer_of as evaluation_answer, evaluation}
use Rattle.evaluation.specs.declared.machine.Evaluated.{Evaluated}
use Rattle.translation.specs.declared.answer.Translated.{Translated}
use Rattle.std.specs.Prelude.{Ok, Err}
use Rattle.translation.specs.Strip.{Outcome}
use Rattle.translation.specs.declared.answer.Refusal.{Refusal}
use Rattle.translation.specs.declared.answer.Refusal.TheVariants.{BadLength, UnknownKind, UnknownForm, SystemValueMov, ByteThree, NoRoom}
use Rattle.translation.specs.Insn as T
use Rattle.translation.specs.Strip as S
use Rattle.translation.specs.Strip.{insn_of, known, system_value_mov, byte_three, first_refusal, is_none, admits, refusal_number, number_of as outcome_number, Decision, fitted, answered, decision, answer_of, translation}
use Rattle.translation.specs.Whole.{decision_of as translated}
use Rattle.translation.proofs.Stays.{Proper}
use Rattle.translation.proofs.Decided.{decided}
use Rattle.translation.proofs.Refusals.{number_or_zero, tested, refusal-tested}
use Rattle.translation.proofs.Shape.{accepted, accepted-strip}
use Rattle.translation.proofs.Whole.{whole}
use Rattle.meaning.specs.Record.{Record, record_of, bits}
use Rattle.meaning.specs.Interpret.{refusal_of, refusal, unlent, named_word, interpretation}
use Rattle.meaning.specs.Meaning.{opcode, never_runs, meaning}
use Rattle.translation.specs.Turn.{strip_at}
use Rattle.meaning.proofs.Order.{not-leb}
use Rattle.meaning.proofs.Reading.{insn, kind-same, insn-same}
use Rattle.meaning.proofs.Guard.{never-same}
use Rattle.meaning.proofs.Helper.{asked}
use Rattle.meaning.proofs.Means.{record_answer, record-means}

-- ---- the refusals of a record are the translator's

refusal-of : (i : Record) → refusal_of i
    ≡ number_or_zero (tested true (known i.kind) (ltb 2 i.form) (S.never_runs (insn i)) (system_value_mov i.kind (insn i)) (byte_three i.kind (insn i)))
unfolding refusal_of refusal_number known system_value_mov byte_three T.bits
refusal-of i =
    rw (← not-leb i.form 2, ← never-same i)
    (go (leb 1 i.kind && leb i.kind 30) (leb i.form 2) (never_runs i) (eqb i.kind 1 && opcode i 61640) (eqb i.kind 24 && (eqb (bits i 10 2) 1 && eqb (bits i 41 2) 3)))
  where
    go : (b c d e f : Bool) → cond b (cond c (cond d 0 (cond e 4 (cond f 5 0))) 3) 2 ≡ number_or_zero (tested true b (not c) d e f)
    go false c d e f = refl
    go true false d e f = refl
    go true true true e f = refl
    go true true false true f = refl
    go true true false false true = refl
    go true true false false false = refl

-- of all bytes, the number that the meanings give is that of the translator's first refusal
pub refusal_is : (l : List ℕ) → refusal l ≡ number_or_zero (first_refusal l)
unfolding refusal refusal_number
refusal_is l =
    rw (refusal-tested l, refusal-of (record_of l), kind-same l)
    (ap (λ (x : T.Insn). cond (eqb (length l) 18) (number_or_zero (tested true k (ltb 2 x.form) (S.never_runs x) (system_value_mov (get_or l 0 0) x) (byte_three (get_or l 0 0) x))) 1) (insn-same l)
    ∙ go (eqb (length l) 18) k (ltb 2 (insn_of l).form) (S.never_runs (insn_of l)) (system_value_mov (get_or l 0 0) (insn_of l)) (byte_three (get_or l 0 0) (insn_of l)))
  where
    k : Bool
    k = known (get_or l 0 0)

    go : (a b c d e f : Bool) → cond a (number_or_zero (tested true b c d e f)) 1 ≡ number_or_zero (tested a b c d e f)
    go true b c d e f = refl
    go false b c d e f = refl

-- so both admit the same records
pub admits-same : (l : List ℕ) → admits l ≡ eqb (refusal l) 0
unfolding admits refusal_number
admits-same l = rw (refusal_is l) (go (first_refusal l))
  where
    go : (a : Option Refusal) → is_none a ≡ eqb (number_or_zero a) 0
    go none = refl
    go (some BadLength) = refl
    go (some UnknownKind) = refl
    go (some UnknownForm) = refl
    go (some SystemValueMov) = refl
    go (some ByteThree) = refl
    go (some NoRoom) = refl

-- in a room of 255 bytes or more no strip is too long, so the translator's number is the record's
pub number_is : (l m out : List ℕ) → 255 ≤ length out → outcome_number (decision l m out).outcome ≡ refusal l
unfolding decision fitted outcome_number
number_is l m out h = rw (refusal_is l) (go (first_refusal l))
  where
    go : (a : Option Refusal) → outcome_number (answered a (get_or l 0 0) (insn_of l) m out).outcome ≡ number_or_zero a
    go none = rw (le-leb (length (strip_at l)) (length out) (omega (arith, (whole (get_or l 0 0) (insn_of l) out).short))) refl
    go (some r) = refl

-- ---- the answer

module _ (l : List ℕ) (s : State) (ks : List ℕ) where
  refused-with : (f : Refusal) → refusal_number f ≡ refusal l → returns (refusal_number f) [] s ≡ interpretation l s ks
  unfolding interpretation refusal_number
  refused-with BadLength e = rw (← e) refl
  refused-with UnknownKind e = rw (← e) refl
  refused-with UnknownForm e = rw (← e) refl
  refused-with SystemValueMov e = rw (← e) refl
  refused-with ByteThree e = rw (← e) refl
  refused-with NoRoom e = rw (← e) refl

  evaluated-with : Proper ks s → admits l ≡ true → 0 ≡ refusal l → evaluation wide (strip_at l) s ks ≡ interpretation l s ks
  unfolding interpretation record_answer named_word told refusal_told
  evaluated-with w h e = rw (← e, record-means ks l s w h) (go (unlent ks (record_of l) s))
    where
      go : (b : Bool)
          → evaluation_answer (cond b (ends (Err (asked (record_of l))) s) (ends (Ok tt) (meaning ks (record_of l) s)))
          ≡ cond b (returns 9 (named_word (record_of l)) s) (returns 0 [] (meaning ks (record_of l) s))
      go true = refl
      go false = refl

-- what the code learns of an evaluation
pub evaluated-told : (e : Evaluated) (o : EvaluationOutcome) (run : List ℕ) (s : State) (ks : List ℕ) → e.outcome ≡ o → evaluation_answer e ≡ evaluation wide run s ks
    → returns (told o).number (told o).carried e.state ≡ evaluation wide run s ks
evaluated-told e o run s ks q h = ap (λ (x : EvaluationOutcome). returns (told x).number (told x).carried e.state) (sym q) ∙ h

-- and of a translation into a room of 256 bytes
module _ (l m out out' : List ℕ) (t : Translated) (h : length out ≡ 256) (h' : answer_of (translated t out') ≡ translation l m out) where
  e : translated t out' ≡ decision l m out
  e = decided t out' l m out h'

  outcome-is : (o : Outcome) → t.outcome ≡ o → (decision l m out).outcome ≡ o
  outcome-is o q = sym (ap (λ (a : Decision). a.outcome) e) ∙ q

  number-told : (o : Outcome) → t.outcome ≡ o → outcome_number o ≡ refusal l
  number-told o q = ap outcome_number (sym (outcome-is o q)) ∙ number_is l m out (omega (arith, h))

  pub written-fits : (n : ℕ) → t.outcome ≡ Ok n → n ≤ 256
  written-fits n q = omega (arith, h, (accepted l m out n (outcome-is (Ok n) q)).1.fits)

  written-strip : (n : ℕ) → t.outcome ≡ Ok n → take n out' ≡ strip_at l
  written-strip n q = ap (λ (a : Decision). take n a.out) e ∙ accepted-strip l m out n (outcome-is (Ok n) q)

  pub refused-interpreted : (s : State) (ks : List ℕ) (f : Refusal) → t.outcome ≡ Err f → returns (refusal_number f) [] s ≡ interpretation l s ks
  unfolding outcome_number
  refused-interpreted s ks f q = refused-with l s ks f (number-told (Err f) q)

  -- the run is the room's part from 0 to n
  pub written-interpreted : (s : State) (ks : List ℕ) → Proper ks s → (n : ℕ) → t.outcome ≡ Ok n
      → evaluation wide (take (n - 0) out') s ks ≡ interpretation l s ks
  unfolding outcome_number
  written-interpreted s ks w n q =
      let z : n - 0 ≡ n = omega arith in
      rw (z, written-strip n q) (evaluated-with l s ks w (accepted l m out n (outcome-is (Ok n) q)).0 (number-told (Ok n) q))

-- ---- what the type of a state says: a register is a word

pub array-words : (xs : List ℕ) (us : List Val) → shadow (each u32.Denot u32.own_val xs us) → (n : ℕ) → get_or xs n 0 < 2 ^ 32
array-words [] us h n = omega arith
array-words (x ∷ xs) [] h n = absurd h
array-words (x ∷ xs) (u ∷ us) h zero = h.0.1
array-words (x ∷ xs) (u ∷ us) h (suc n) = array-words xs us h.1 n
