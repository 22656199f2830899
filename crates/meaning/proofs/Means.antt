-- Demand 2: every strip has its record's meaning (T6, T7), and a run of strips those of its records, one after another (T7b).
use Rattle.std.specs.Prelude.{Err}
use Rattle.evaluation.specs.Machine.{Outcome}
use mathlib.Core.Path.{◌≡◌, refl, sym, ap, ◌∙◌, subst}
use mathlib.Core.Bool.{Bool, true, false, cond, not, ◌&&◌, and-false}
use mathlib.Core.List.{List, [], ◌∷◌, ◌++◌, map}
use mathlib.Core.Option.{some}
use Prim.Native.Nat.{ℕ}
use native.Mathlib.Omega.{arith}
use lib.ListN.{get_or}
use Rattle.std.specs.Prelude.{Ok}
use Rattle.strip.specs.declared.reader.Entry.{Entry}
use Rattle.strip.specs.Entry.{wide, Each, Formed}
use Rattle.strip.specs.Shape.{all, ends_once, strip_ok, shape_ok, strip_bytes, run_bytes}
use Rattle.strip.proofs.Tests.{and_left}
use Rattle.strip.proofs.Run.{Strip, strips-run, strips-shape}
use Rattle.evaluation.specs.declared.state.State.{State}
use Rattle.evaluation.specs.declared.machine.Evaluated.{Evaluated}
use Rattle.evaluation.specs.Machine.{is_done, begun, ends, onward, entries_from, strips_from, restored, evaluated, value_at}
use Rattle.evaluation.proofs.Flat.{evaluated-strips}
use Rattle.evaluation.proofs.Laws.{restored-twice}
use Rattle.evaluation.proofs.Words.{Sized, undefined-sized}
use Rattle.reach.specs.declared.cells.Cells.{Cells}
use Rattle.reach.specs.Reach.{reach_strips, reached}
use Rattle.translation.specs.Insn as T
use Rattle.translation.specs.Arms.{arm_of}
use Rattle.translation.specs.Strip as S
use Rattle.translation.specs.Strip.{entries_of, strip, insn_of, known, byte_three, admits}
use Rattle.translation.proofs.Refusals.{admitted-known}
use Rattle.translation.proofs.Arms.{arm-range}
use Rattle.translation.proofs.Shape.{strip-well-formed, strip-shape, strip-decodes}
use Rattle.meaning.specs.Record.{Record, record_of}
use Rattle.meaning.specs.Operand.{pred}
use Rattle.meaning.specs.Meaning.{runs, meant, meaning, reads_when_run, reads, lent}
use Rattle.meaning.specs.Interpret.{unlent, meanings}
use Rattle.translation.specs.Turn.{strip_at, run_of}
use Rattle.meaning.proofs.Reading.{insn, kind-same, insn-same}
use Rattle.translation.proofs.Sem.{Ran, ran, halted, sem}
use Rattle.translation.proofs.Evaluated.{predicate_at, strip_answer, strip-evaluated}
use Rattle.meaning.proofs.Helper.{asked, final}
use Rattle.translation.proofs.Stays.{Proper, Stays, stays}
use Rattle.meaning.proofs.Guard.{never-same, runs-sometimes}
use Rattle.meaning.proofs.EveryArm.{arm-does, arm-missing}

-- ---- one record

-- what evaluating a record's strip answers: 9 with the word that the record names where that is not lent, else its meaning
unfoldable pub record_answer : List ℕ → Record → State → Evaluated
record_answer ks i s = cond (unlent ks i s) (ends (Err (asked i)) s) (ends (Ok tt) (meaning ks i s))

final-answer : (s t : State) (r : Ran) → final r ≡ some t → strip_answer s r ≡ ends (Ok tt) t
final-answer s t (ran u v) e = let q : u ≡ t = cc in rw q refl
final-answer s t (halted r u) e = let z : ◌≡◌ {A = ℕ} 0 1 = cc in absurd (omega arith)

final-stays : (cs : List ℕ) (t : State) (r : Ran) → final r ≡ some t → Stays cs r → Proper cs t
final-stays cs t (ran u v) e p = let q : u ≡ t = cc in rw (← q) p.0
final-stays cs t (halted r u) e p = let z : ◌≡◌ {A = ℕ} 0 1 = cc in absurd (omega arith)

module _ (cs : List ℕ) (i : Record) (s : State) (w : Proper cs s) (hk : known i.kind ≡ true) (hb : S.never_runs (insn i) ≡ false → byte_three i.kind (insn i) ≡ false) where
  abbrev arm : Ran
  arm = sem cs (arm_of i.kind (insn i)) [] s

  -- where the record runs its guard is none that never holds: its arm is supported, and it reads what its arm reads
  runs-supported : runs i s ≡ true → byte_three i.kind (insn i) ≡ false
  runs-supported r = hb (rw (← never-same i) (runs-sometimes i s r))

  runs-reads : runs i s ≡ true → reads_when_run i ≡ reads i
  unfolding reads
  runs-reads r = rw (runs-sometimes i s r) refl

  -- T6 and T7: 9 where its guard holds and a word that it reads is not lent, else exactly the state of the meaning; never 7, never 8
  pub strip-means : evaluated wide (strip i.kind (insn i)) s cs ≡ record_answer cs i s
  unfolding record_answer unlent meaning pred predicate_at T.bits T.bit
  strip-means = strip-evaluated cs i.kind (insn i) s ∙ go (runs i s) (reads i && not (lent cs i)) refl refl
    where
      go : (b m : Bool) → runs i s ≡ b → reads i && not (lent cs i) ≡ m
          → cond b (strip_answer s arm) (ends (Ok tt) s) ≡ cond (b && m) (ends (Err (asked i)) s) (ends (Ok tt) (cond b (meant cs i s) s))
      go false m r e = refl
      go true true r e = rw (arm-missing cs i s hk (rw (runs-reads r) e)) refl
      go true false r e = final-answer s (meant cs i s) arm (arm-does cs i s w hk (runs-supported r) (rw (runs-reads r) e))

  -- the meaning is again a state of words
  pub meaning-proper : unlent cs i s ≡ false → Proper cs (meaning cs i s)
  unfolding unlent meaning value_at
  meaning-proper = go (runs i s) refl
    where
      no-values : (l : ℕ) → Sized (value_at [] l)
      no-values l = undefined-sized

      go : (b : Bool) → runs i s ≡ b → b && (reads i && not (lent cs i)) ≡ false → Proper cs (cond b (meant cs i s) s)
      go true r e = final-stays cs (meant cs i s) arm (arm-does cs i s w hk (runs-supported r) (rw (runs-reads r) e)) (stays cs (arm_of i.kind (insn i)) [] s (arm-range i.kind (insn i)) w no-values)
      go false r e = w

-- of a record's bytes
pub admits-known : (l : List ℕ) → admits l ≡ true
    → (known (record_of l).kind ≡ true) × (S.never_runs (insn (record_of l)) ≡ false → byte_three (record_of l).kind (insn (record_of l)) ≡ false)
admits-known l h = rw (kind-same l) (subst (λ (x : T.Insn). (known (get_or l 0 0) ≡ true) × (S.never_runs x ≡ false → byte_three (get_or l 0 0) x ≡ false)) (sym (insn-same l)) (admitted-known l h))

strip-at : (l : List ℕ) → strip (record_of l).kind (insn (record_of l)) ≡ strip_at l
strip-at l = rw (kind-same l) (ap (strip (get_or l 0 0)) (insn-same l))

pub record-means : (cs l : List ℕ) (s : State) → Proper cs s → admits l ≡ true → evaluated wide (strip_at l) s cs ≡ record_answer cs (record_of l) s
record-means cs l s w h = let a = admits-known l h in ap (λ (x : List ℕ). evaluated wide x s cs) (sym (strip-at l)) ∙ strip-means cs (record_of l) s w a.0 a.1

-- ---- a run

answer-unlent : (cs : List ℕ) (i : Record) (s : State) → unlent cs i s ≡ true → record_answer cs i s ≡ ends (Err (asked i)) s
unfolding record_answer
answer-unlent cs i s e = rw e refl

answer-lent : (cs : List ℕ) (i : Record) (s : State) → unlent cs i s ≡ false → record_answer cs i s ≡ ends (Ok tt) (meaning cs i s)
unfolding record_answer
answer-lent cs i s e = rw e refl

-- a strip's refusal returns the start of the run, not its own
restored-on : (s : State) (r : Evaluated) (f : State → Evaluated) → restored s (onward r f) ≡ restored s (onward (restored s (onward r (λ t. ends (Ok tt) t))) f)
restored-on s r f = go r.outcome refl
  where
    go : (o : Outcome) → r.outcome ≡ o → restored s (cond (is_done o) (f r.state) r) ≡ restored s (onward (restored s (cond (is_done o) (ends (Ok tt) r.state) r)) f)
    go (Ok u) e = refl
    go (Err q) e = rw e refl

abbrev pub entries_at : List ℕ → List Entry
entries_at l = entries_of (get_or l 0 0) (insn_of l)

strips-bytes : (ls : List (List ℕ)) → run_of ls ≡ run_bytes wide (map entries_at ls)
unfolding run_of run_bytes strip
strips-bytes [] = refl
strips-bytes (l ∷ ls) = ap (λ (x : List ℕ). strip_bytes wide (entries_at l) ++ x) (strips-bytes ls)

strips-formed : (ls : List (List ℕ)) → Each (Each (Formed wide)) (map entries_at ls)
strips-formed [] = tt
strips-formed (l ∷ ls) = ((strip-well-formed (get_or l 0 0) (insn_of l)).formed, strips-formed ls)

strips-pass : (ls : List (List ℕ)) → all strip_ok (map entries_at ls) ≡ true
strips-pass [] = refl
strips-pass (l ∷ ls) = rw (strip-well-formed (get_or l 0 0) (insn_of l)).passes (strips-pass ls)

strips-ended : (ls : List (List ℕ)) → Each (Strip wide) (map entries_at ls)
unfolding strip_ok
strips-ended [] = tt
strips-ended (l ∷ ls) = let o = strip-well-formed (get_or l 0 0) (insn_of l) in (record { ends = and_left (ends_once (entries_at l)) _ o.passes; formed = o.formed }, strips-ended ls)

-- the strips of any records, one after another, are a run that passes the shape test
pub strips-shaped : (ls : List (List ℕ)) → shape_ok wide (run_of ls) ≡ true
strips-shaped ls = rw (strips-bytes ls) (strips-shape wide (map entries_at ls) (strips-formed ls) (strips-pass ls))

pub strips-from : (cs : List ℕ) (s : State) (ls : List (List ℕ)) → evaluated wide (run_of ls) s cs ≡ restored s (strips_from cs s (map entries_at ls))
strips-from cs s ls = evaluated-strips s cs wide (run_of ls) (map entries_at ls) (rw (strips-bytes ls) (strips-run wide (map entries_at ls) (strips-ended ls))) (strips-shaped ls)

pub strips-reached : (asked : Cells) (ls : List (List ℕ)) → reached (run_of ls) asked ≡ record { cells = reach_strips (map entries_at ls) asked; outcome = Ok tt }
unfolding reached
strips-reached asked ls = rw (strips-shaped ls, strips-bytes ls, strips-run wide (map entries_at ls) (strips-ended ls)) refl

-- one strip is a run of one
one-strip : (cs : List ℕ) (s : State) (l : List ℕ) → restored s (onward (entries_from cs (begun s) (entries_at l)) (λ t. ends (Ok tt) t)) ≡ evaluated wide (strip_at l) s cs
unfolding strips_from
one-strip cs s l = sym (evaluated-strips s cs wide (strip_at l) (entries_at l ∷ []) (strip-decodes (get_or l 0 0) (insn_of l)) (strip-shape (get_or l 0 0) (insn_of l)))

-- the answers of records, one after another: the first refusal ends them, and the state beside it is the one before that record
unfoldable pub record_answers : List ℕ → List (List ℕ) → State → Evaluated
record_answers ks [] s = ends (Ok tt) s
record_answers ks (l ∷ ls) s = onward (record_answer ks (record_of l) s) (λ t. record_answers ks ls t)

module _ (cs : List ℕ) where
  answers-from : (ls : List (List ℕ)) (s : State) → Proper cs s → Each (λ l. admits l ≡ true) ls → restored s (strips_from cs s (map entries_at ls)) ≡ restored s (record_answers cs ls s)
  unfolding strips_from record_answers
  answers-from [] s w h = refl
  answers-from (l ∷ ls) s w h =
      let i = record_of l in
      let a = admits-known l h.0 in
      restored-on s (entries_from cs (begun s) (entries_at l)) (λ t. strips_from cs t (map entries_at ls))
      ∙ ap (λ (r : Evaluated). restored s (onward r (λ t. strips_from cs t (map entries_at ls)))) (one-strip cs s l ∙ record-means cs l s w h.0)
      ∙ go (unlent cs i s) (λ e. answers-from ls (meaning cs i s) (meaning-proper cs i s w a.0 a.1 e) h.1) refl
    where
      go : (b : Bool) → (unlent cs (record_of l) s ≡ false → restored (meaning cs (record_of l) s) (strips_from cs (meaning cs (record_of l) s) (map entries_at ls)) ≡ restored (meaning cs (record_of l) s) (record_answers cs ls (meaning cs (record_of l) s)))
          → unlent cs (record_of l) s ≡ b
          → restored s (onward (record_answer cs (record_of l) s) (λ t. strips_from cs t (map entries_at ls))) ≡ restored s (onward (record_answer cs (record_of l) s) (λ t. record_answers cs ls t))
      go true ih e = rw (answer-unlent cs (record_of l) s e) refl
      go false ih e =
          let t = meaning cs (record_of l) s in
          rw (answer-lent cs (record_of l) s e)
          (sym (restored-twice s t (strips_from cs t (map entries_at ls))) ∙ ap (restored s) (ih e) ∙ restored-twice s t (record_answers cs ls t))

  -- T7b: strips one after another do what their records mean, one after another; the first word that is not lent refuses the run
  pub run-answers : (ls : List (List ℕ)) (s : State) → Proper cs s → Each (λ l. admits l ≡ true) ls → evaluated wide (run_of ls) s cs ≡ restored s (record_answers cs ls s)
  run-answers ls s w h = strips-from cs s ls ∙ answers-from ls s w h

  -- every word that the record reads is lent
  abbrev pub Lent : List ℕ → Type 0
  Lent l = reads (record_of l) && not (lent cs (record_of l)) ≡ false

  -- then the state after the run is that of the meanings
  answers-lent : (ls : List (List ℕ)) (s : State) → Each Lent ls → record_answers cs ls s ≡ ends (Ok tt) (meanings cs ls s)
  unfolding record_answers meanings unlent
  answers-lent [] s h = refl
  answers-lent (l ∷ ls) s h = rw (answer-lent cs (record_of l) s (rw h.0 (and-false (runs (record_of l) s)))) (answers-lent ls (meaning cs (record_of l) s) h.1)

  pub run-means : (ls : List (List ℕ)) (s : State) → Proper cs s → Each (λ l. admits l ≡ true) ls → Each Lent ls → evaluated wide (run_of ls) s cs ≡ ends (Ok tt) (meanings cs ls s)
  run-means ls s w h r = run-answers ls s w h ∙ ap (restored s) (answers-lent ls s r)
