-- The entries of a strip are refused with 8 and 9 alone.
use Rattle.std.specs.Prelude.{Ok, Err}
use Rattle.evaluation.specs.Machine.{Outcome}
use Rattle.std.proofs.Common.{ℕ, eqb, List, [], ◌∷◌, length}
use Rattle.strip.specs.declared.reader.Entry.{Entry}
use Rattle.strip.specs.declared.reader.Entry.TheVariants as Of
use Rattle.evaluation.specs.declared.machine.Refusal.TheVariants.{BadShape, UndefinedValue, NoConstant}
use Rattle.evaluation.specs.declared.machine.Evaluated.{Evaluated}
use Rattle.evaluation.specs.Machine.{Effect, Push, SetReg, SetPred, SetFlag, Enter, Pass, Finish, Refuse, storing, storing_word, storing_truth, entering, bare_effect, cell_effect, one_effect, four_effect, effect_of, muted, taken_effect, outcome_of, applied, is_done, entries_from}
use Rattle.evaluation.specs.Machine as Eval
use Rattle.evaluation.proofs.Laws.{cond-all, with-word, with-truth, address-cases}

-- an outcome of entries
abbrev pub Met : Outcome → Type 0
Met (Ok u) = Unit {0}
Met (Err BadShape) = ⊥
Met (Err UndefinedValue) = Unit {0}
Met (Err (NoConstant slot vec comp)) = Unit {0}

abbrev pub Meets : Effect → Type 0
Meets f = Met (outcome_of f)

module _ (cs : List ℕ) where
  pub effect-meets : (m : Eval.Midway) (e : Entry) → Meets (effect_of m e cs)
  unfolding effect_of outcome_of bare_effect cell_effect one_effect four_effect storing storing_word storing_truth entering
  effect-meets m (Of.Bare k) = cond-all Meets (eqb k 2) _ _ tt (cond-all Meets (eqb k 3) _ _ tt (cond-all Meets (eqb k 255) _ _ tt tt))
  effect-meets m (Of.Word w) = tt
  effect-meets m (Of.Cell k n) = cond-all Meets (eqb k 10) _ _ tt (cond-all Meets (eqb k 110) _ _ tt tt)
  effect-meets m (Of.Store k n r) =
      cond-all Meets (eqb k 7) _ _ (with-word Meets (Refuse UndefinedValue) _ _ tt (λ x. tt))
      (with-truth Meets (Refuse UndefinedValue) _ _ tt (λ t. cond-all Meets (eqb k 8) _ _ tt tt))
  effect-meets m (Of.One k a) =
      cond-all Meets (eqb k 12) _ _ tt (cond-all Meets (eqb k 80) _ _ tt (cond-all Meets (eqb k 100) _ _ (with-truth Meets (Refuse UndefinedValue) _ _ tt (λ t. tt)) tt))
  effect-meets m (Of.Two k a b) = tt
  effect-meets m (Of.Three k a b c) = tt
  effect-meets m (Of.Four k a b c d) = cond-all Meets (eqb k 11) _ _ (address-cases Meets tt (λ slot vec comp. tt) (λ i. tt) _ _ _ _ (length cs)) tt

  muted-meets : (f : Effect) → Meets f → Meets (muted f)
  unfolding muted outcome_of
  muted-meets (Push v) h = tt
  muted-meets (SetReg n w) h = tt
  muted-meets (SetPred n t) h = tt
  muted-meets (SetFlag n t) h = tt
  muted-meets (Enter t) h = tt
  muted-meets Pass h = tt
  muted-meets Finish h = tt
  muted-meets (Refuse r) h = tt

  -- entries never refuse the shape
  pub entries-meet : (es : List Entry) (m : Eval.Midway) → Met (entries_from cs m es).outcome
  unfolding entries_from taken_effect
  entries-meet [] m = tt
  entries-meet (e ∷ es) m =
      cond-all (λ (r : Evaluated). Met r.outcome) (is_done (outcome_of (taken_effect m e cs))) _ _ (entries-meet es (applied m (taken_effect m e cs)))
      (cond-all Meets m.skip _ _ (muted-meets (effect_of m e cs) (effect-meets m e)) (effect-meets m e))
