-- Demand 1 for evaluation: a run is answered 7 exactly where the shape test refuses it, 9 alone carries numbers, and a refusal, whichever it is,
-- returns the start.
use Rattle.std.proofs.Common.{◌≡◌, ℕ, Bool, true, false, cond, eqb, List, [], ◌∷◌, length, sym, refl, ap, ◌∙◌, true≢false}
use mathlib.Core.Option.{get_or}
use mathlib.Core.Bool.{false≢true}
use Rattle.strip.specs.declared.reader.Entry.{Entry}
use Rattle.strip.specs.Shape.{decode, shape_ok}
use Rattle.evaluation.specs.declared.state.State.{State}
use Rattle.std.specs.Prelude.{Ok, Err}
use Rattle.evaluation.specs.declared.machine.Refusal.TheVariants.{BadShape, UndefinedValue, NoConstant}
use Rattle.evaluation.specs.declared.machine.Evaluated.{Evaluated}
use Rattle.evaluation.specs.Machine.{Outcome, Effect, Push, SetReg, SetPred, SetFlag, Enter, Pass, Finish, Refuse, Midway, begun, refusal_told, told, is_done, entering, bare_effect, cell_effect, one_effect, four_effect, effect_of, muted, taken_effect, outcome_of, applied, ends, entries_from, strips_from, restored, returns, evaluated, evaluation}
use Rattle.evaluation.proofs.Laws.{cond-all, with-truth, store-all, address-cases}

-- ---- the numbers that an answer carries
carries : (o : Outcome) → length (told o).carried ≡ cond (eqb (told o).number 9) 3 0
unfolding told refusal_told
carries (Ok u) = refl
carries (Err BadShape) = refl
carries (Err UndefinedValue) = refl
carries (Err (NoConstant slot vec comp)) = refl

-- ---- no entry refuses with 7
abbrev Not7 : Outcome → Type 0
Not7 o = eqb (told o).number 7 ≡ false

abbrev Fits : Effect → Type 0
Fits f = Not7 (outcome_of f)

muted-fits : (f : Effect) → Fits (muted f)
unfolding muted outcome_of told
muted-fits (Push v) = refl
muted-fits (SetReg n w) = refl
muted-fits (SetPred n t) = refl
muted-fits (SetFlag n t) = refl
muted-fits (Enter t) = refl
muted-fits Pass = refl
muted-fits Finish = refl
muted-fits (Refuse r) = refl

effect-fits : (m : Midway) (e : Entry) (cs : List ℕ) → Fits (effect_of m e cs)
unfolding effect_of bare_effect cell_effect one_effect entering four_effect outcome_of told refusal_told
effect-fits m (Entry.Bare k) cs = cond-all Fits (eqb k 2) _ _ refl (cond-all Fits (eqb k 3) _ _ refl (cond-all Fits (eqb k 255) _ _ refl refl))
effect-fits m (Entry.Word w) cs = refl
effect-fits m (Entry.Cell k n) cs = cond-all Fits (eqb k 10) _ _ refl (cond-all Fits (eqb k 110) _ _ refl refl)
effect-fits m (Entry.Store k n r) cs = store-all Fits k n refl (λ w. refl) (λ t. refl) (λ t. refl) _
effect-fits m (Entry.One k a) cs =
    cond-all Fits (eqb k 12) _ _ refl (cond-all Fits (eqb k 80) _ _ refl (cond-all Fits (eqb k 100) _ _ (with-truth Fits (Refuse UndefinedValue) _ (λ t. Enter t) refl (λ t. refl)) refl))
effect-fits m (Entry.Two k a b) cs = refl
effect-fits m (Entry.Three k a b c) cs = refl
effect-fits m (Entry.Four k a b c d) cs = cond-all Fits (eqb k 11) _ _ (address-cases Fits refl (λ slot vec comp. refl) (λ v. refl) _ _ _ _ (length cs)) refl

step_fits : (m : Midway) (e : Entry) (cs : List ℕ) → Fits (taken_effect m e cs)
unfolding taken_effect
step_fits m e cs = cond-all Fits m.skip _ _ (muted-fits (effect_of m e cs)) (effect-fits m e cs)

module _ (cs : List ℕ) where
  abbrev Fit : Evaluated → Type 0
  Fit r = Not7 r.outcome

  entries_fit : (m : Midway) (es : List Entry) → Fit (entries_from cs m es)
  unfolding entries_from told
  entries_fit m [] = refl
  entries_fit m (e ∷ es) = cond-all Fit (is_done (outcome_of (taken_effect m e cs))) _ _ (entries_fit (applied m (taken_effect m e cs)) es) (step_fits m e cs)

  strips-fit : (s : State) (ss : List (List Entry)) → Fit (strips_from cs s ss)
  unfolding strips_from told
  strips-fit s [] = refl
  strips-fit s (es ∷ ss) = cond-all Fit (is_done (entries_from cs (begun s) es).outcome) _ _ (strips-fit (entries_from cs (begun s) es).state ss) (entries_fit (begun s) es)

  stored-all-fit : (s : State) (r : Evaluated) → Fit r → Fit (restored s r)
  stored-all-fit s r h = cond-all Fit (is_done r.outcome) _ _ h h

  -- ---- for every layout, run, state and lent list
  module _ (len : ℕ) (run : List ℕ) (s : State) where
    -- a well-formed run is never answered 7
    pub well-formed-not-7 : shape_ok len run ≡ true → (evaluation len run s cs).number ≡ 7 → ⊥
    unfolding evaluated
    well-formed-not-7 ok is =
        let fit : Fit (evaluated len run s cs) = rw ok (stored-all-fit s _ (strips-fit s (get_or (decode len run) []))) in
        false≢true (sym fit ∙ ap (λ (n : ℕ). eqb n 7) is)

    pub well-formed-passes : shape_ok len run ≡ true → (evaluated len run s cs).outcome ≡ Err BadShape → ⊥
    unfolding told refusal_told
    well-formed-passes ok is = well-formed-not-7 ok (ap (λ (o : Outcome). (told o).number) is)

    -- any other always is, with the starting state
    pub bad-shape-7 : shape_ok len run ≡ false → evaluation len run s cs ≡ returns 7 [] s
    unfolding evaluated told refusal_told
    bad-shape-7 bad = rw bad

    -- 9 carries three numbers, every other answer none
    pub nine-carries-three : length (evaluation len run s cs).carried ≡ cond (eqb (evaluation len run s cs).number 9) 3 0
    nine-carries-three = carries (evaluated len run s cs).outcome

    -- a refusal, whichever it is, returns the starting state
    pub refused-keeps-start : is_done (evaluated len run s cs).outcome ≡ false → (evaluated len run s cs).state ≡ s
    unfolding evaluated
    refused-keeps-start =
        cond-all Start (shape_ok len run) _ _ (restored-start (strips_from cs s (get_or (decode len run) []))) (λ h. refl)
      where
        Start : Evaluated → Type 0
        Start r = is_done r.outcome ≡ false → r.state ≡ s

        restored-start : (r : Evaluated) → Start (restored s r)
        restored-start r = go (is_done r.outcome) refl
          where
            go : (b : Bool) → is_done r.outcome ≡ b → Start (cond b r (ends r.outcome s))
            go true p h = absurd (true≢false (sym p ∙ h))
            go false p h = refl
