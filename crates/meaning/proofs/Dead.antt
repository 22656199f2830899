-- Dead words (#104): a record whose guard never holds is admitted, whatever its opcode value and its size codes are. Its strip is the end alone, its
-- marks stay as they are, and it does nothing, wherever it stands in a run.
use mathlib.Core.Path.{◌≡◌, refl, sym, ap, ◌∙◌}
use mathlib.Core.Bool.{true, false, cond, false≢true}
use mathlib.Core.List.{List, [], ◌∷◌, ◌++◌, map}
use mathlib.Core.Option.{Option, none, some}
use Prim.Native.Nat.{ℕ, ◌≤◌}
use native.Mathlib.Omega.{arith}
use borrow.Author.Tests.{le-leb}
use lib.ListN.{length, get_or}
use Rattle.strip.specs.declared.reader.Entry.TheVariants as Entry
use Rattle.strip.specs.Entry.{wide, kind_of, refs_of, immediate_of, encode}
use Rattle.strip.specs.Shape.{strip_bytes}
use Rattle.evaluation.specs.declared.state.State.{State}
use Rattle.evaluation.specs.declared.machine.Evaluated.{Evaluated}
use Rattle.evaluation.specs.Machine.{is_done, begun, outcome_of, taken_effect, effect_of, bare_effect, applied, entries_from, strips_from, restored, evaluated, returns}
use Rattle.reach.specs.declared.cells.Cells.{Cells}
use Rattle.reach.specs.Reach.{stores_listed, rule, reach_strips, reached}
use Rattle.translation.specs.declared.answer.Refusal.{Refusal}
use Rattle.translation.specs.Insn as T
use Rattle.translation.specs.Strip as S
use Rattle.translation.specs.Strip.{insn_of, guarded, entries_of, strip, marked, known, first_refusal, is_none, admits, fitted, decision, refusal_number, number_of, length_of, translation}
use Rattle.translation.specs.Turn.{strip_at, run_of}
use Rattle.translation.proofs.Refusals.{never-admitted}
use Rattle.meaning.specs.Record.{record_of}
use Rattle.meaning.specs.Meaning.{never_runs, meaning, reads}
use Rattle.meaning.specs.Interpret.{unlent, interpretation}
use Rattle.meaning.proofs.Reading.{kind-same, insn-same}
use Rattle.meaning.proofs.Guard.{never-same, never-runs}
use Rattle.meaning.proofs.Means.{entries_at, strips-from, strips-reached}
use Rattle.meaning.proofs.Demand1.{admitted-answered}
use Rattle.meaning.proofs.Interpreting.{refusal_is}

module _ (l : List ℕ) where
  -- none of the refusals 1 to 3 holds, and the guard is predicate 7 negated; nothing is said of the opcode's value, of the size codes, of the rest of the word
  pub record Never : Type 0 where
    pub size : length l ≡ 18
    pub kind : (1 ≤ (record_of l).kind) × ((record_of l).kind ≤ 30)
    pub form : (record_of l).form ≤ 2
    pub guard : never_runs (record_of l) ≡ true

  pub record Dead : Type 0 where
    -- its strip is the end alone, which needs one byte of room; the marks stay
    pub admitted : admits l ≡ true
    pub strip : strip_at l ≡ 255 ∷ []
    pub translated : (m : List ℕ) (b : ℕ) (out : List ℕ) → translation l m (b ∷ out) ≡ record { number = 0; length = 1; marks = m; out = 255 ∷ out }
    pub no_room : (m : List ℕ) → translation l m [] ≡ record { number = 6; length = 0; marks = m; out = [] }
    -- it changes nothing and reads no constant
    pub means : (cs : List ℕ) (s : State) → meaning cs (record_of l) s ≡ s
    pub reads_none : reads (record_of l) ≡ false
    pub interpreted : (s : State) (cs : List ℕ) → interpretation l s cs ≡ returns 0 [] s
    -- between any other records its strip changes neither what a run does nor what reaches its asked cells
    pub run-alike : (before after : List (List ℕ)) (s : State) (cs : List ℕ) → evaluated wide (run_of (before ++ (l ∷ after))) s cs ≡ evaluated wide (run_of (before ++ after)) s cs
    pub reach-alike : (before after : List (List ℕ)) (asked : Cells) → reached (run_of (before ++ (l ∷ after))) asked ≡ reached (run_of (before ++ after)) asked

  module _ (h : Never) where
    never : S.never_runs (insn_of l) ≡ true
    never = ap S.never_runs (sym (insn-same l)) ∙ sym (never-same (record_of l)) ∙ h.guard

    is-admitted : admits l ≡ true
    unfolding known
    is-admitted =
        never-admitted l h.size (rw (← kind-same l, le-leb 1 (record_of l).kind h.kind.0, le-leb (record_of l).kind 30 h.kind.1) refl)
        (rw (ap (λ (x : T.Insn). x.form) (sym (insn-same l))) h.form) never

    no-refusal : first_refusal l ≡ none
    unfolding admits
    no-refusal = go (first_refusal l) is-admitted
      where
        go : (a : Option Refusal) → is_none a ≡ true → a ≡ none
        go none e = refl
        go (some r) e = absurd (false≢true e)

    entries : entries_at l ≡ Entry.Bare 255 ∷ []
    unfolding entries_of guarded
    entries = rw never refl

    strip-is : strip_at l ≡ 255 ∷ []
    unfolding strip strip_bytes encode kind_of immediate_of refs_of
    strip-is = rw entries refl

    marks_stay : (m : List ℕ) → marked (get_or l 0 0) (insn_of l) m ≡ m
    unfolding marked
    marks_stay m = rw never refl

    no-room-is : (m : List ℕ) → translation l m [] ≡ record { number = 6; length = 0; marks = m; out = [] }
    unfolding translation decision fitted number_of length_of refusal_number
    no-room-is m = rw (no-refusal, strip-is) refl

    stays : (cs : List ℕ) (s : State) → meaning cs (record_of l) s ≡ s
    unfolding meaning
    stays cs s = rw (never-runs (record_of l) h.guard s) refl

    no-constant : reads (record_of l) ≡ false
    unfolding reads
    no-constant = rw h.guard refl

    interpreted-is : (s : State) (cs : List ℕ) → interpretation l s cs ≡ returns 0 [] s
    unfolding interpretation unlent
    interpreted-is s cs = rw (refusal_is l, no-refusal, never-runs (record_of l) h.guard s, stays cs s) refl

    strips-idle : (before after : List (List ℕ)) (s : State) (cs : List ℕ) → strips_from cs s (map entries_at (before ++ (l ∷ after))) ≡ strips_from cs s (map entries_at (before ++ after))
    unfolding strips_from entries_from begun outcome_of taken_effect effect_of bare_effect applied
    strips-idle [] after s cs = rw entries refl
    strips-idle (r ∷ before) after s cs =
        let e = entries_from cs (begun s) (entries_at r) in
        ap (λ (x : Evaluated). cond (is_done e.outcome) x e) (strips-idle before after e.state cs)

    reach-idle : (before after : List (List ℕ)) (c : Cells) → reach_strips (map entries_at (before ++ (l ∷ after))) c ≡ reach_strips (map entries_at (before ++ after)) c
    unfolding reach_strips rule stores_listed
    reach-idle [] after c = rw entries refl
    reach-idle (r ∷ before) after c = ap (rule (entries_at r)) (reach-idle before after c)

    pub dead : Dead
    dead = record {
      admitted = is-admitted;
      strip = strip-is;
      translated = λ m b out. admitted-answered l m (b ∷ out) is-admitted (rw strip-is (omega arith)) ∙ rw (strip-is, marks_stay m) refl;
      no_room = no-room-is;
      means = stays;
      reads_none = no-constant;
      interpreted = interpreted-is;
      run-alike = λ before after s cs. strips-from cs s (before ++ (l ∷ after)) ∙ ap (restored s) (strips-idle before after s cs) ∙ sym (strips-from cs s (before ++ after));
      reach-alike = λ before after asked. strips-reached asked (before ++ (l ∷ after)) ∙ rw (reach-idle before after asked) (sym (strips-reached asked (before ++ after)));
    }
