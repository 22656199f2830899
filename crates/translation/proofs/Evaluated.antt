-- A record's strip, evaluated: nothing where its guard fails, else what its arm does when it is run on values.
use Rattle.std.specs.Prelude.{Ok, Err}
use mathlib.Core.Path.{◌≡◌, refl, ap, ◌∙◌, subst}
use mathlib.Core.Bool.{Bool, true, false, cond, not, xor}
use mathlib.Core.List.{List, [], ◌∷◌, ◌++◌, append_assoc}
use Prim.Native.Nat.{ℕ, suc, ◌≤◌, ◌<◌}
use native.Mathlib.Omega.{arith}
use lib.Dec.{eqb}
use lib.ListN.{length, get_or}
use borrow.Author.Tests.{lt-ltb, eqb-false}
use Rattle.strip.specs.declared.reader.Entry.{Entry}
use Rattle.strip.specs.Entry.{refs_of, wide}
use Rattle.strip.proofs.Tests.{and_left, and_right}
use Rattle.evaluation.specs.declared.value.Value.{Value}
use Rattle.evaluation.specs.declared.value.Value.TheVariants.{Truth}
use Rattle.evaluation.specs.declared.state.State.{State}
use Rattle.evaluation.specs.declared.machine.Evaluated.{Evaluated}
use Rattle.evaluation.specs.Value.{with_truth, negated}
use Rattle.evaluation.specs.State.{loaded}
use Rattle.evaluation.specs.Machine.{Effect, Push, SetReg, SetPred, SetFlag, Enter, Pass, Finish, Refuse, Midway, begun, entering, bare_effect, cell_effect, one_effect, value_at, effect_of, muted, taken_effect, outcome_of, applied, ends, onward, entries_from, strips_from, restored, evaluated}
use Rattle.evaluation.proofs.Flat.{evaluated-strips}
use Rattle.translation.specs.Insn.{Insn}
use Rattle.translation.specs.Code.{Code, ret, op, act, call, mark, ite, renamed, at, ats, Built, build}
use Rattle.translation.specs.Helpers.{logical_not_if, predicate, p}
use Rattle.translation.specs.Arms.{arm_of}
use Rattle.translation.specs.Strip.{guard, guard_not, never_runs, block, guarded, entries_of, strip}
use Rattle.translation.proofs.Fits.{next-bound}
use Rattle.translation.proofs.Typed.{gives_value, gives_none, within, closed}
use Rattle.translation.proofs.Arms.{arm-sized, guard-sized}
use Rattle.translation.proofs.InRange.{bits-lt}
use Rattle.translation.proofs.Shape.{strip-shape, strip-decodes}
use Rattle.translation.proofs.Sem.{Ran, ran, halted, mid, Pushes, Acts, pushes, acts, sem, Gone, Follows, follows}

-- ---- a skipped block

abbrev skipped : State → List Value → Midway
skipped s vs = record { state = s; values = vs; skip = true }

mutes-push : (f : Effect) → Pushes f → muted f ≡ Pass
unfolding muted
mutes-push (Push v) p = refl
mutes-push (SetReg n w) p = absurd p
mutes-push (SetPred n t) p = absurd p
mutes-push (SetFlag n t) p = absurd p
mutes-push (Enter t) p = absurd p
mutes-push Pass p = refl
mutes-push Finish p = absurd p
mutes-push (Refuse r) p = refl

mutes-act : (f : Effect) → Acts f → muted f ≡ Pass
unfolding muted
mutes-act (Push v) p = absurd p
mutes-act (SetReg n w) p = refl
mutes-act (SetPred n t) p = refl
mutes-act (SetFlag n t) p = refl
mutes-act (Enter t) p = absurd p
mutes-act Pass p = refl
mutes-act Finish p = absurd p
mutes-act (Refuse r) p = refl

gives-renamed : (f : ℕ → ℕ) (e : Entry) → (gives_value (renamed f e) ≡ gives_value e) × (gives_none (renamed f e) ≡ gives_none e)
gives-renamed f (Entry.Bare k) = (refl, refl)
gives-renamed f (Entry.Word w) = (refl, refl)
gives-renamed f (Entry.Cell k n) = (refl, refl)
gives-renamed f (Entry.Store k n r) = (refl, refl)
gives-renamed f (Entry.One k a) = (refl, refl)
gives-renamed f (Entry.Two k a b) = (refl, refl)
gives-renamed f (Entry.Three k a b c) = (refl, refl)
gives-renamed f (Entry.Four k a b c d) = (refl, refl)

module _ (cs : List ℕ) (s : State) (vs : List Value) where
  step_skip : (e : Entry) (rest : List Entry) → muted (effect_of (skipped s vs) e cs) ≡ Pass → entries_from cs (skipped s vs) (e ∷ rest) ≡ entries_from cs (skipped s vs) rest
  unfolding entries_from taken_effect outcome_of applied
  step_skip e rest q = rw q refl

  skips : (c : Code) (m : ℕ) → closed m c ≡ true → (rs : List ℕ) (n : ℕ) (rest : List Entry) → entries_from cs (skipped s vs) ((build c rs n).entries ++ rest) ≡ entries_from cs (skipped s vs) rest
  unfolding build closed
  skips (ret l) m h rs n rest = refl
  skips (op e k) m h rs n rest =
      let g : gives_value (renamed (at rs) e) ≡ true = (gives-renamed (at rs) e).0 ∙ and_left (gives_value e) _ h in
      step_skip (renamed (at rs) e) ((build k (rs ++ (n ∷ [])) (suc n)).entries ++ rest) (mutes-push _ (pushes (skipped s vs) (renamed (at rs) e) cs g))
      ∙ skips k (suc m) (and_right (within m (refs_of e)) _ (and_right (gives_value e) _ h)) (rs ++ (n ∷ [])) (suc n) rest
  skips (act e k) m h rs n rest =
      let g : gives_none (renamed (at rs) e) ≡ true = (gives-renamed (at rs) e).1 ∙ and_left (gives_none e) _ h in
      step_skip (renamed (at rs) e) ((build k rs n).entries ++ rest) (mutes-act _ (acts (skipped s vs) (renamed (at rs) e) cs g))
      ∙ skips k m (and_right (within m (refs_of e)) _ (and_right (gives_none e) _ h)) rs n rest
  skips (call c ls k) m h rs n rest =
      let b = build c (ats rs ls) n in
      let t = and_right (within m ls) _ h in
      ap (entries_from cs (skipped s vs)) (append_assoc b.entries (build k (rs ++ (b.result ∷ [])) b.next).entries rest)
      ∙ skips c (length ls) (and_left (closed (length ls) c) _ t) (ats rs ls) n ((build k (rs ++ (b.result ∷ [])) b.next).entries ++ rest)
      ∙ skips k (suc m) (and_right (closed (length ls) c) _ t) (rs ++ (b.result ∷ [])) b.next rest
  skips (mark i u k) m h rs n rest = skips k m h rs n rest
  skips (ite true c d) m h rs n rest = skips c m (and_left (closed m c) _ h) rs n rest
  skips (ite false c d) m h rs n rest = skips d m (and_right (closed m c) _ h) rs n rest

-- ---- the ends of a strip

module _ (cs : List ℕ) (s : State) (vs : List Value) where
  at-end : entries_from cs (mid s vs) (Entry.Bare 255 ∷ []) ≡ ends (Ok tt) s
  unfolding entries_from taken_effect outcome_of applied effect_of bare_effect begun
  at-end = refl

  at-close : entries_from cs (mid s vs) (Entry.Bare 101 ∷ Entry.Bare 255 ∷ []) ≡ ends (Ok tt) s
  unfolding entries_from taken_effect outcome_of applied effect_of bare_effect begun
  at-close = refl

  past-close : entries_from cs (skipped s vs) (Entry.Bare 101 ∷ Entry.Bare 255 ∷ []) ≡ ends (Ok tt) s
  unfolding entries_from taken_effect outcome_of applied effect_of bare_effect begun muted
  past-close = refl

  at_open : (g : ℕ) (t : Bool) (rest : List Entry) → value_at vs g ≡ Truth t → entries_from cs (mid s vs) (Entry.One 100 g ∷ rest) ≡ entries_from cs (record { state = s; values = vs; skip = not t }) rest
  unfolding entries_from taken_effect outcome_of applied effect_of one_effect entering with_truth
  at_open g t rest q = rw q refl

-- what a strip does where its arm does r, from the state s
abbrev pub strip_answer : State → Ran → Evaluated
strip_answer s (ran t v) = ends (Ok tt) t
strip_answer s (halted r t) = ends (Err r) s

-- entries after which the strip ends
module _ (cs : List ℕ) (s : State) where
  ended : (all : List Value) (b : Built) (rest : List Entry) → ((t : State) (vs : List Value) → entries_from cs (mid t vs) rest ≡ ends (Ok tt) t) → (r : Ran) → Follows cs s all b r
      → restored s (onward (entries_from cs (mid s all) (b.entries ++ rest)) (λ t. ends (Ok tt) t)) ≡ strip_answer s r
  ended all b rest last (ran t v) f = rw (f.goes rest, last t f.values) refl
  ended all b rest last (halted r t) f = rw (f rest) refl

-- ---- the guard

-- predicate 7 is true
unfoldable pub predicate_at : State → ℕ → Bool
predicate_at s k = cond (eqb k 7) true (get_or s.preds k false)

-- the record runs: its guard, a predicate, negated or not
abbrev pub guard_holds : Insn → State → Bool
guard_holds i s = xor (predicate_at s (guard i)) (guard_not i)

always : (s : State) (k : ℕ) → eqb k 7 ≡ true → predicate_at s k ≡ true
unfolding predicate_at
always s k e = rw e refl

-- no state lets a record run whose guard never holds
pub never-holds : (i : Insn) (s : State) → never_runs i ≡ true → guard_holds i s ≡ false
unfolding never_runs xor
never-holds i s h = rw (always s (guard i) (and_left (eqb (guard i) 7) _ h), and_right (eqb (guard i) 7) _ h) refl

module _ (cs : List ℕ) (s : State) where
  not-sem : (n t : Bool) → sem cs (logical_not_if n) (Truth t ∷ []) s ≡ ran s (Truth (xor t n))
  unfolding logical_not_if effect_of one_effect negated with_truth value_at xor
  not-sem true true = refl
  not-sem true false = refl
  not-sem false true = refl
  not-sem false false = refl

  pub predicate-sem : (k : ℕ) → k < 8 → sem cs (predicate k) [] s ≡ ran s (Truth (predicate_at s k))
  unfolding predicate effect_of bare_effect cell_effect loaded value_at predicate_at
  predicate-sem k h = go (eqb k 7) refl
    where
      go : (b : Bool) → eqb k 7 ≡ b
          → sem cs (ite b (op (Entry.Bare 2) (ret 0)) (op (Entry.Cell 5 k) (ret 0))) [] s ≡ ran s (Truth (cond b true (get_or s.preds k false)))
      go true e = refl
      go false e = let d = eqb-false k 7 e in rw (lt-ltb k 7 (omega arith)) refl

  pub p-sem : (k : ℕ) (n : Bool) → k < 8 → sem cs (p k n) [] s ≡ ran s (Truth (xor (predicate_at s k) n))
  unfolding p value_at
  p-sem k n h = rw (predicate-sem k h, not-sem n (predicate_at s k)) refl

-- ---- the strip

module _ (cs : List ℕ) (k : ℕ) (i : Insn) (s : State) where
  arm-follows : (all : List Value) → length all ≤ 5 → Follows cs s all (build (arm_of k i) [] (length all)) (sem cs (arm_of k i) [] s)
  arm-follows all h = follows cs (arm_of k i) [] [] all s (arm-sized k i).closed tt (omega (arith, (arm-sized k i).bound))

  -- after a guard that holds the arm runs, after one that fails nothing does
  after_open : (g : Built) (vs : List Value) (t : Bool) → g.next ≡ length vs → length vs ≤ 5
      → restored s (onward (entries_from cs (record { state = s; values = vs; skip = not t }) ((build (arm_of k i) [] g.next).entries ++ (Entry.Bare 101 ∷ Entry.Bare 255 ∷ []))) (λ u. ends (Ok tt) u))
      ≡ cond t (strip_answer s (sem cs (arm_of k i) [] s)) (ends (Ok tt) s)
  after_open g vs true q h = rw q (ended cs s vs (build (arm_of k i) [] (length vs)) (Entry.Bare 101 ∷ Entry.Bare 255 ∷ []) (λ u ws. at-close cs u ws) (sem cs (arm_of k i) [] s) (arm-follows vs h))
  after_open g vs false q h = rw (skips cs s vs (arm_of k i) 0 (arm-sized k i).closed [] g.next (Entry.Bare 101 ∷ Entry.Bare 255 ∷ []), past-close cs s vs) refl

  guard-follows : Gone cs s [] (build (p (guard i) (guard_not i)) [] 0) s (Truth (guard_holds i s))
      → restored s (onward (entries_from cs (mid s []) (block (build (p (guard i) (guard_not i)) [] 0) (arm_of k i) ++ (Entry.Bare 255 ∷ []))) (λ u. ends (Ok tt) u))
      ≡ cond (guard_holds i s) (strip_answer s (sem cs (arm_of k i) [] s)) (ends (Ok tt) s)
  guard-follows w =
      let g = build (p (guard i) (guard_not i)) [] 0 in
      let arm = (build (arm_of k i) [] g.next).entries in
      let rest = Entry.One 100 g.result ∷ (arm ++ (Entry.Bare 101 ∷ Entry.Bare 255 ∷ [])) in
      let shape : block g (arm_of k i) ++ (Entry.Bare 255 ∷ []) ≡ g.entries ++ rest =
      append_assoc g.entries (Entry.One 100 g.result ∷ (arm ++ (Entry.Bare 101 ∷ []))) (Entry.Bare 255 ∷ [])
      ∙ ap (λ (x : List Entry). g.entries ++ (Entry.One 100 g.result ∷ x)) (append_assoc arm (Entry.Bare 101 ∷ []) (Entry.Bare 255 ∷ [])) in
      rw (shape, w.goes rest, at_open cs s w.values g.result (guard_holds i s) (arm ++ (Entry.Bare 101 ∷ Entry.Bare 255 ∷ [])) w.result)
      (after_open g w.values (guard_holds i s) w.next (omega (arith, w.next, next-bound (p (guard i) (guard_not i)) [] 0, (guard-sized (guard i) (guard_not i)).bound)))

  pub strip-evaluated : evaluated wide (strip k i) s cs ≡ cond (guard_holds i s) (strip_answer s (sem cs (arm_of k i) [] s)) (ends (Ok tt) s)
  unfolding strips_from entries_of guarded never_runs begun xor
  strip-evaluated = evaluated-strips s cs wide (strip k i) (entries_of k i ∷ []) (strip-decodes k i) (strip-shape k i) ∙ go (never_runs i) (eqb (guard i) 7) refl refl
    where
      go : (dead seven : Bool) → never_runs i ≡ dead → eqb (guard i) 7 ≡ seven
          → restored s (onward (entries_from cs (mid s []) (cond dead [] (cond seven (build (arm_of k i) [] 0).entries (block (build (p (guard i) (guard_not i)) [] 0) (arm_of k i))) ++ (Entry.Bare 255 ∷ []))) (λ u. ends (Ok tt) u))
          ≡ cond (guard_holds i s) (strip_answer s (sem cs (arm_of k i) [] s)) (ends (Ok tt) s)
      go true seven d a = rw (never-holds i s d, at-end cs s []) refl
      go false true d a = let n : guard_not i ≡ false = rw a at d in rw (n, always s (guard i) a) (ended cs s [] (build (arm_of k i) [] 0) (Entry.Bare 255 ∷ []) (λ u ws. at-end cs u ws) (sem cs (arm_of k i) [] s) (arm-follows [] (omega arith)))
      go false false d a =
          let c = p (guard i) (guard_not i) in
          let f = follows cs c [] [] [] s (guard-sized (guard i) (guard_not i)).closed tt (omega (arith, (guard-sized (guard i) (guard_not i)).bound)) in
          guard-follows (subst (λ (r : Ran). Follows cs s [] (build c [] 0) r) (p-sem cs s (guard i) (guard_not i) (bits-lt i 16 3)) f)
