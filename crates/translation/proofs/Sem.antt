-- Code run on values: what a helper does to the state, and what it hands back. What is built of closed code does the same, entry by entry.
use Rattle.std.specs.Prelude.{Err}
use mathlib.Core.Path.{◌≡◌, refl, ap, ◌∙◌}
use mathlib.Core.Bool.{Bool, true, false, cond, ◌||◌, false≢true}
use mathlib.Core.List.{List, [], ◌∷◌, ◌++◌, append_assoc}
use Prim.Native.Nat.{ℕ, zero, suc, ◌+◌, ◌≤◌, ◌<◌}
use native.Mathlib.Omega.{arith}
use lib.Dec.{eqb, ltb}
use lib.ListN.{length, length-append, get_or-append}
use lib.Seq.{get_or-append_seam}
use borrow.Author.Tests.{ltb-true, lt-ltb, eqb-true, not-true}
use Rattle.strip.specs.declared.reader.Entry.{Entry}
use Rattle.strip.specs.Entry.{refs_of, Each}
use Rattle.strip.proofs.Tests.{and_left, and_right}
use Rattle.evaluation.specs.declared.value.Value.{Value}
use Rattle.evaluation.specs.declared.value.Value.TheVariants.{Undefined, Truth}
use Rattle.evaluation.specs.declared.state.State.{State}
use Rattle.evaluation.specs.declared.machine.Refusal.{Refusal}
use Rattle.evaluation.specs.declared.machine.Refusal.TheVariants.{BadShape, UndefinedValue}
use Rattle.evaluation.specs.State.{stored_reg, stored_pred, stored_flag}
use Rattle.evaluation.specs.Machine.{Effect, Push, SetReg, SetPred, SetFlag, Enter, Pass, Finish, Refuse, Midway, storing_word, storing_truth, storing, bare_effect, cell_effect, one_effect, four_effect, value_at, effect_of, taken_effect, outcome_of, pushed, applied, ends, entries_from}
use Rattle.evaluation.proofs.Laws.{cond-all, with-word, with-truth, address-all}
use Rattle.translation.specs.Code.{Code, ret, op, act, call, mark, ite, renamed, at, ats, Built, prefixed, build}
use Rattle.translation.proofs.Fits.{bound, next-bound}
use Rattle.translation.proofs.Typed.{gives_value, gives_none, within, closed, length_last}

-- ---- running code

pub data Ran : Type 0 where
  -- the state after it, and the result
  ran : State → Value → Ran
  -- a refusal, and the state at it
  halted : Refusal → State → Ran

-- a strip midway, outside of a skipped block
abbrev pub mid : State → List Value → Midway
mid s vs = record { state = s; values = vs; skip = false }

-- on with the value that an effect makes
abbrev pub pushing : Effect → State → (Value → Ran) → Ran
pushing (Push v) s f = f v
pushing (SetReg n w) s f = halted BadShape s
pushing (SetPred n t) s f = halted BadShape s
pushing (SetFlag n t) s f = halted BadShape s
pushing (Enter t) s f = halted BadShape s
pushing Pass s f = halted BadShape s
pushing Finish s f = halted BadShape s
pushing (Refuse r) s f = halted r s

-- on with the state after an effect that makes none
abbrev pub acting : Effect → State → (State → Ran) → Ran
acting (Push v) s f = halted BadShape s
acting (SetReg n w) s f = f (stored_reg s n w)
acting (SetPred n t) s f = f (stored_pred s n t)
acting (SetFlag n t) s f = f (stored_flag s n t)
acting (Enter t) s f = halted BadShape s
acting Pass s f = f s
acting Finish s f = halted BadShape s
acting (Refuse r) s f = halted r s

abbrev pub followed : Ran → (State → Value → Ran) → Ran
followed (ran s v) f = f s v
followed (halted r s) f = halted r s

abbrev pub values_at : List Value → List ℕ → List Value
values_at vs [] = []
values_at vs (l ∷ ls) = value_at vs l ∷ values_at vs ls

-- levels stand for values; `effect_of` says what an entry does, as in an evaluation
abbrev pub sem : List ℕ → Code → List Value → State → Ran
sem cs (ret l) vs s = ran s (value_at vs l)
sem cs (op e k) vs s = pushing (effect_of (mid s vs) e cs) s (λ v. sem cs k (vs ++ (v ∷ [])) s)
sem cs (act e k) vs s = acting (effect_of (mid s vs) e cs) s (λ t. sem cs k vs t)
sem cs (call c ls k) vs s = followed (sem cs c (values_at vs ls) s) (λ t v. sem cs k (vs ++ (v ∷ [])) t)
sem cs (mark n u k) vs s = sem cs k vs s
sem cs (ite true c d) vs s = sem cs c vs s
sem cs (ite false c d) vs s = sem cs d vs s

-- ---- what an entry of closed code may do

abbrev pub Pushes : Effect → Type 0
Pushes (Push v) = Unit {0}
Pushes (SetReg n w) = ⊥
Pushes (SetPred n t) = ⊥
Pushes (SetFlag n t) = ⊥
Pushes (Enter t) = ⊥
Pushes Pass = ⊥
Pushes Finish = ⊥
Pushes (Refuse r) = Unit {0}

abbrev pub Acts : Effect → Type 0
Acts (Push v) = ⊥
Acts (SetReg n w) = Unit {0}
Acts (SetPred n t) = Unit {0}
Acts (SetFlag n t) = Unit {0}
Acts (Enter t) = ⊥
Acts Pass = Unit {0}
Acts Finish = ⊥
Acts (Refuse r) = Unit {0}

bare-pushes : (a b : Bool) → a || b ≡ true → (x y z : Effect) → Pushes x → Pushes y → Pushes (cond a x (cond b y z))
bare-pushes true b h x y z p q = p
bare-pushes false true h x y z p q = q
bare-pushes false false h x y z p q = absurd (false≢true h)

pub pushes : (m : Midway) (e : Entry) (cs : List ℕ) → gives_value e ≡ true → Pushes (effect_of m e cs)
unfolding effect_of bare_effect cell_effect one_effect four_effect
pushes m (Entry.Bare k) cs h = bare-pushes (eqb k 2) (eqb k 3) h (Push (Truth true)) (Push (Truth false)) (cond (eqb k 255) Finish Pass) tt tt
pushes m (Entry.Word w) cs h = tt
pushes m (Entry.Cell k n) cs h = rw (not-true (eqb k 110) h) (cond-all Pushes (eqb k 10) _ _ tt tt)
pushes m (Entry.Store k n r) cs h = absurd (false≢true h)
pushes m (Entry.One k a) cs h = rw (not-true (eqb k 100) h) (cond-all Pushes (eqb k 12) _ _ tt (cond-all Pushes (eqb k 80) _ _ tt tt))
pushes m (Entry.Two k a b) cs h = tt
pushes m (Entry.Three k a b c) cs h = tt
pushes m (Entry.Four k a b c d) cs h = cond-all Pushes (eqb k 11) _ _ (address-all Pushes (λ r. tt) (λ v. tt) _ _ _ _ _) tt

pub acts : (m : Midway) (e : Entry) (cs : List ℕ) → gives_none e ≡ true → Acts (effect_of m e cs)
unfolding effect_of cell_effect storing storing_word storing_truth
acts m (Entry.Bare k) cs h = absurd (false≢true h)
acts m (Entry.Word w) cs h = absurd (false≢true h)
acts m (Entry.Cell k n) cs h = rw (eqb-true k 110 h) tt
acts m (Entry.Store k n r) cs h =
    cond-all Acts (eqb k 7) _ _
    (with-word Acts (Refuse UndefinedValue) (value_at m.values r) _ tt (λ x. tt))
    (with-truth Acts (Refuse UndefinedValue) (value_at m.values r) _ tt (λ t. cond-all Acts (eqb k 8) _ _ tt tt))
acts m (Entry.One k a) cs h = absurd (false≢true h)
acts m (Entry.Two k a b) cs h = absurd (false≢true h)
acts m (Entry.Three k a b c) cs h = absurd (false≢true h)
acts m (Entry.Four k a b c d) cs h = absurd (false≢true h)

-- ---- levels, and what they stand for among the values of a strip

abbrev Levels : List Value → List ℕ → List Value → Type 0
Levels all [] [] = Unit {0}
Levels all [] (v ∷ vs) = ⊥
Levels all (r ∷ rs) [] = ⊥
Levels all (r ∷ rs) (v ∷ vs) = (r < length all) × (value_at all r ≡ v) × Levels all rs vs

-- one list of values goes on from another
pub record Longer (all more : List Value) : Type 0 where
  pub grows : length all ≤ length more
  pub keeps : (r : ℕ) → r < length all → value_at more r ≡ value_at all r

longer-refl : (all : List Value) → Longer all all
longer-refl all = record { grows = omega arith; keeps = λ r h. refl }

longer-trans : {a b c : List Value} → Longer a b → Longer b c → Longer a c
longer-trans {a} {b} p q = record { grows = omega (arith, p.grows, q.grows); keeps = λ r h. q.keeps r (omega (arith, p.grows)) ∙ p.keeps r h }

longer-last : (all : List Value) (v : Value) → Longer all (all ++ (v ∷ []))
unfolding value_at
longer-last all v = record { grows = rw (length-append all (v ∷ [])) (omega arith); keeps = λ r h. get_or-append all (v ∷ []) Undefined r h }

module _ (all : List Value) where
  level-at : (rs : List ℕ) (vs : List Value) → Levels all rs vs → (l : ℕ) → l < length rs → (at rs l < length all) × (value_at all (at rs l) ≡ value_at vs l)
  unfolding value_at
  level-at [] [] e l h = absurd (omega arith)
  level-at [] (v ∷ vs) e l h = absurd e
  level-at (r ∷ rs) [] e l h = absurd e
  level-at (r ∷ rs) (v ∷ vs) e zero h = (e.0, e.1)
  level-at (r ∷ rs) (v ∷ vs) e (suc l) h = level-at rs vs e.2 l (omega arith)

  level-each : (rs : List ℕ) (vs : List Value) → Levels all rs vs → (ls : List ℕ) → within (length rs) ls ≡ true → Each (λ l. value_at all (at rs l) ≡ value_at vs l) ls
  level-each rs vs e [] h = tt
  level-each rs vs e (l ∷ ls) h =
      ((level-at rs vs e l (ltb-true l (length rs) (and_left (ltb l (length rs)) _ h))).1, level-each rs vs e ls (and_right (ltb l (length rs)) _ h))

  level-ats : (rs : List ℕ) (vs : List Value) → Levels all rs vs → (ls : List ℕ) → within (length rs) ls ≡ true → Levels all (ats rs ls) (values_at vs ls)
  level-ats rs vs e [] h = tt
  level-ats rs vs e (l ∷ ls) h =
      let x = level-at rs vs e l (ltb-true l (length rs) (and_left (ltb l (length rs)) _ h)) in
      (x.0, x.1, level-ats rs vs e ls (and_right (ltb l (length rs)) _ h))

  level-last : (rs : List ℕ) (vs : List Value) (r : ℕ) (v : Value) → Levels all rs vs → r < length all → value_at all r ≡ v → Levels all (rs ++ (r ∷ [])) (vs ++ (v ∷ []))
  level-last [] [] r v e h q = (h, q, tt)
  level-last [] (w ∷ vs) r v e h q = absurd e
  level-last (n ∷ rs) [] r v e h q = absurd e
  level-last (n ∷ rs) (w ∷ vs) r v e h q = (e.0, e.1, level-last rs vs r v e.2 h q)

level-more : (all more : List Value) → Longer all more → (rs : List ℕ) (vs : List Value) → Levels all rs vs → Levels more rs vs
level-more all more g [] [] e = tt
level-more all more g [] (v ∷ vs) e = e
level-more all more g (r ∷ rs) [] e = e
level-more all more g (r ∷ rs) (v ∷ vs) e = (omega (arith, e.0, g.grows), g.keeps r e.0 ∙ e.1, level-more all more g rs vs e.2)

-- an entry with its levels replaced does what it does on the levels
effect-renamed : (s : State) (all vs : List Value) (rs : List ℕ) (e : Entry) (cs : List ℕ) → Each (λ l. value_at all (at rs l) ≡ value_at vs l) (refs_of e)
    → effect_of (mid s all) (renamed (at rs) e) cs ≡ effect_of (mid s vs) e cs
unfolding effect_of refs_of
effect-renamed s all vs rs (Entry.Bare k) cs h = refl
effect-renamed s all vs rs (Entry.Word w) cs h = refl
effect-renamed s all vs rs (Entry.Cell k n) cs h = refl
effect-renamed s all vs rs (Entry.Store k n r) cs h = rw h.0
effect-renamed s all vs rs (Entry.One k a) cs h = rw h.0
effect-renamed s all vs rs (Entry.Two k a b) cs h = rw (h.0, h.1.0)
effect-renamed s all vs rs (Entry.Three k a b c) cs h = rw (h.0, h.1.0, h.1.1.0)
effect-renamed s all vs rs (Entry.Four k a b c d) cs h = rw (h.0, h.1.0, h.1.1.0, h.1.1.1.0)

-- ---- what is built does the same

module _ (cs : List ℕ) where
  -- from the values `all` to more of them
  pub record Gone (s : State) (all : List Value) (b : Built) (t : State) (v : Value) : Type 0 where
    pub values : List Value
    pub longer : Longer all values
    pub goes : (rest : List Entry) → entries_from cs (mid s all) (b.entries ++ rest) ≡ entries_from cs (mid t values) rest
    pub next : b.next ≡ length values
    pub within : b.result < length values
    pub result : value_at values b.result ≡ v

  abbrev pub Follows : State → List Value → Built → Ran → Type 0
  Follows s all b (ran t v) = Gone s all b t v
  Follows s all b (halted r t) = (rest : List Entry) → entries_from cs (mid s all) (b.entries ++ rest) ≡ ends (Err r) t

  -- entries, and then what is built
  follows-prefixed : (s t : State) (all more : List Value) (xs : List Entry) (b : Built) → Longer all more
      → ((rest : List Entry) → entries_from cs (mid s all) (xs ++ rest) ≡ entries_from cs (mid t more) rest) → (r : Ran) → Follows t more b r → Follows s all (prefixed xs b) r
  follows-prefixed s t all more xs b g h (ran u v) f = record {
    values = f.values;
    longer = longer-trans g f.longer;
    goes = λ rest. rw (append_assoc xs b.entries rest) (h (b.entries ++ rest) ∙ f.goes rest);
    next = f.next;
    within = f.within;
    result = f.result;
  }
  follows-prefixed s t all more xs b g h (halted r u) f = λ rest. rw (append_assoc xs b.entries rest) (h (b.entries ++ rest) ∙ f rest)

  module _ (s : State) (all : List Value) (e : Entry) where
    step_push : (v : Value) → effect_of (mid s all) e cs ≡ Push v → length all < 64 → (rest : List Entry) → entries_from cs (mid s all) (e ∷ rest) ≡ entries_from cs (mid s (all ++ (v ∷ []))) rest
    unfolding entries_from taken_effect outcome_of applied pushed
    step_push v q h rest = rw (q, lt-ltb (length all) 64 h) refl

    step-refuse : (r : Refusal) → effect_of (mid s all) e cs ≡ Refuse r → (rest : List Entry) → entries_from cs (mid s all) (e ∷ rest) ≡ ends (Err r) s
    unfolding entries_from taken_effect outcome_of
    step-refuse r q rest = rw q refl

    step-reg : (n w : ℕ) → effect_of (mid s all) e cs ≡ SetReg n w → (rest : List Entry) → entries_from cs (mid s all) (e ∷ rest) ≡ entries_from cs (mid (stored_reg s n w) all) rest
    unfolding entries_from taken_effect outcome_of applied
    step-reg n w q rest = rw q refl

    step-pred : (n : ℕ) (t : Bool) → effect_of (mid s all) e cs ≡ SetPred n t → (rest : List Entry) → entries_from cs (mid s all) (e ∷ rest) ≡ entries_from cs (mid (stored_pred s n t) all) rest
    unfolding entries_from taken_effect outcome_of applied
    step-pred n t q rest = rw q refl

    step-flag : (n : ℕ) (t : Bool) → effect_of (mid s all) e cs ≡ SetFlag n t → (rest : List Entry) → entries_from cs (mid s all) (e ∷ rest) ≡ entries_from cs (mid (stored_flag s n t) all) rest
    unfolding entries_from taken_effect outcome_of applied
    step-flag n t q rest = rw q refl

    step-pass : effect_of (mid s all) e cs ≡ Pass → (rest : List Entry) → entries_from cs (mid s all) (e ∷ rest) ≡ entries_from cs (mid s all) rest
    unfolding entries_from taken_effect outcome_of applied
    step-pass q rest = rw q refl

  value-last : (all : List Value) (v : Value) → value_at (all ++ (v ∷ [])) (length all) ≡ v
  unfolding value_at
  value-last all v = get_or-append_seam all v [] Undefined

  pub follows : (c : Code) (rs : List ℕ) (vs all : List Value) (s : State) → closed (length rs) c ≡ true → Levels all rs vs → length all + bound c ≤ 64
      → Follows s all (build c rs (length all)) (sem cs c vs s)
  unfolding build closed
  follows (ret l) rs vs all s h e n =
      let x = level-at all rs vs e l (ltb-true l (length rs) h) in
      record { values = all; longer = longer-refl all; goes = λ rest. refl; next = refl; within = x.0; result = x.1 }
  follows (op e k) rs vs all s h lv n = go (effect_of (mid s vs) e cs) refl (pushes (mid s vs) e cs (and_left (gives_value e) _ h)) (λ v. follows k (rs ++ (length all ∷ [])) (vs ++ (v ∷ [])) (all ++ (v ∷ [])) s)
    where
      same : effect_of (mid s all) (renamed (at rs) e) cs ≡ effect_of (mid s vs) e cs
      same = effect-renamed s all vs rs e cs (level-each all rs vs lv (refs_of e) (and_left (within (length rs) (refs_of e)) _ (and_right (gives_value e) _ h)))

      rest-closed : closed (length (rs ++ (length all ∷ []))) k ≡ true
      rest-closed = rw (length_last rs (length all)) (and_right (within (length rs) (refs_of e)) _ (and_right (gives_value e) _ h))

      levels : (v : Value) → Levels (all ++ (v ∷ [])) (rs ++ (length all ∷ [])) (vs ++ (v ∷ []))
      levels v = level-last (all ++ (v ∷ [])) rs vs (length all) v (level-more all (all ++ (v ∷ [])) (longer-last all v) rs vs lv) (rw (length_last all v) (omega arith)) (value-last all v)

      go : (f : Effect) → effect_of (mid s vs) e cs ≡ f → Pushes f
          → ((v : Value) → closed (length (rs ++ (length all ∷ []))) k ≡ true → Levels (all ++ (v ∷ [])) (rs ++ (length all ∷ [])) (vs ++ (v ∷ [])) → length (all ++ (v ∷ [])) + bound k ≤ 64
          → Follows s (all ++ (v ∷ [])) (build k (rs ++ (length all ∷ [])) (length (all ++ (v ∷ [])))) (sem cs k (vs ++ (v ∷ [])) s))
          → Follows s all (prefixed (renamed (at rs) e ∷ []) (build k (rs ++ (length all ∷ [])) (suc (length all)))) (pushing f s (λ v. sem cs k (vs ++ (v ∷ [])) s))
      go (Push v) q p ih =
          let x = ih v rest-closed (levels v) (rw (length_last all v) (omega arith)) in
          follows-prefixed s s all (all ++ (v ∷ [])) (renamed (at rs) e ∷ []) (build k (rs ++ (length all ∷ [])) (suc (length all))) (longer-last all v) (step_push s all (renamed (at rs) e) v (same ∙ q) (omega arith)) (sem cs k (vs ++ (v ∷ [])) s) (rw (← length_last all v) x)
      go (SetReg i w) q p ih = absurd p
      go (SetPred i t) q p ih = absurd p
      go (SetFlag i t) q p ih = absurd p
      go (Enter t) q p ih = absurd p
      go Pass q p ih = absurd p
      go Finish q p ih = absurd p
      go (Refuse r) q p ih = λ rest. step-refuse s all (renamed (at rs) e) r (same ∙ q) ((build k (rs ++ (length all ∷ [])) (suc (length all))).entries ++ rest)
  follows (act e k) rs vs all s h lv n = go (effect_of (mid s vs) e cs) refl (acts (mid s vs) e cs (and_left (gives_none e) _ h)) (λ t. follows k rs vs all t (and_right (within (length rs) (refs_of e)) _ (and_right (gives_none e) _ h)) lv (omega arith))
    where
      same : effect_of (mid s all) (renamed (at rs) e) cs ≡ effect_of (mid s vs) e cs
      same = effect-renamed s all vs rs e cs (level-each all rs vs lv (refs_of e) (and_left (within (length rs) (refs_of e)) _ (and_right (gives_none e) _ h)))

      go : (f : Effect) → effect_of (mid s vs) e cs ≡ f → Acts f → ((t : State) → Follows t all (build k rs (length all)) (sem cs k vs t))
          → Follows s all (prefixed (renamed (at rs) e ∷ []) (build k rs (length all))) (acting f s (λ t. sem cs k vs t))
      go (Push v) q p ih = absurd p
      go (SetReg i w) q p ih = follows-prefixed s (stored_reg s i w) all all (renamed (at rs) e ∷ []) (build k rs (length all)) (longer-refl all) (step-reg s all (renamed (at rs) e) i w (same ∙ q)) (sem cs k vs (stored_reg s i w)) (ih (stored_reg s i w))
      go (SetPred i t) q p ih = follows-prefixed s (stored_pred s i t) all all (renamed (at rs) e ∷ []) (build k rs (length all)) (longer-refl all) (step-pred s all (renamed (at rs) e) i t (same ∙ q)) (sem cs k vs (stored_pred s i t)) (ih (stored_pred s i t))
      go (SetFlag i t) q p ih = follows-prefixed s (stored_flag s i t) all all (renamed (at rs) e ∷ []) (build k rs (length all)) (longer-refl all) (step-flag s all (renamed (at rs) e) i t (same ∙ q)) (sem cs k vs (stored_flag s i t)) (ih (stored_flag s i t))
      go (Enter t) q p ih = absurd p
      go Pass q p ih = follows-prefixed s s all all (renamed (at rs) e ∷ []) (build k rs (length all)) (longer-refl all) (step-pass s all (renamed (at rs) e) (same ∙ q)) (sem cs k vs s) (ih s)
      go Finish q p ih = absurd p
      go (Refuse r) q p ih = λ rest. step-refuse s all (renamed (at rs) e) r (same ∙ q) ((build k rs (length all)).entries ++ rest)
  follows (call c ls k) rs vs all s h lv n =
      go (sem cs c (values_at vs ls) s)
      (follows c (ats rs ls) (values_at vs ls) all s (rw (length-ats rs ls) (and_left (closed (length ls) c) _ (and_right (within (length rs) ls) _ h))) (level-ats all rs vs lv ls (and_left (within (length rs) ls) _ h)) (omega arith))
      (λ t more r v. follows k (rs ++ (r ∷ [])) (vs ++ (v ∷ [])) more t)
    where
      b : Built
      b = build c (ats rs ls) (length all)

      length-ats : (rs ls : List ℕ) → length (ats rs ls) ≡ length ls
      length-ats rs [] = refl
      length-ats rs (l ∷ ls) = ap suc (length-ats rs ls)

      go : (r : Ran) → Follows s all (build c (ats rs ls) (length all)) r
          → ((t : State) (more : List Value) (r : ℕ) (v : Value) → closed (length (rs ++ (r ∷ []))) k ≡ true → Levels more (rs ++ (r ∷ [])) (vs ++ (v ∷ [])) → length more + bound k ≤ 64 → Follows t more (build k (rs ++ (r ∷ [])) (length more)) (sem cs k (vs ++ (v ∷ [])) t))
          → Follows s all (prefixed (build c (ats rs ls) (length all)).entries (build k (rs ++ ((build c (ats rs ls) (length all)).result ∷ [])) (build c (ats rs ls) (length all)).next)) (followed r (λ t v. sem cs k (vs ++ (v ∷ [])) t))
      go (ran t v) f ih =
          let b = build c (ats rs ls) (length all) in
          let closes : closed (length (rs ++ (b.result ∷ []))) k ≡ true = rw (length_last rs b.result) (and_right (closed (length ls) c) _ (and_right (within (length rs) ls) _ h)) in
          let x = ih t f.values b.result v closes (level-last f.values rs vs b.result v (level-more all f.values f.longer rs vs lv) f.within f.result) (omega (arith, f.next, next-bound c (ats rs ls) (length all))) in
          follows-prefixed s t all f.values b.entries (build k (rs ++ (b.result ∷ [])) b.next) f.longer f.goes (sem cs k (vs ++ (v ∷ [])) t) (rw f.next x)
      go (halted r t) f ih = λ rest. rw (append_assoc (build c (ats rs ls) (length all)).entries (build k (rs ++ ((build c (ats rs ls) (length all)).result ∷ [])) (build c (ats rs ls) (length all)).next).entries rest) (f ((build k (rs ++ ((build c (ats rs ls) (length all)).result ∷ [])) (build c (ats rs ls) (length all)).next).entries ++ rest))
  follows (mark i u k) rs vs all s h lv n = again (sem cs k vs s) (follows k rs vs all s h lv n)
    where
      again : (r : Ran) → Follows s all (build k rs (length all)) r → Follows s all (build k rs (length all)) r
      again r f = f
  follows (ite true c d) rs vs all s h lv n = follows c rs vs all s (and_left (closed (length rs) c) _ h) lv (omega arith)
  follows (ite false c d) rs vs all s h lv n = follows d rs vs all s (and_right (closed (length rs) c) _ h) lv (omega arith)
