-- A strip's body and its entries go side by side.
use Rattle.std.specs.Prelude.{Ok}
use Rattle.std.proofs.Common.{◌≡◌, ℕ, suc, ◌+◌, ◌<◌, ◌≤◌, Bool, true, false, cond, not, ◌&&◌, eqb, ltb, List, [], ◌∷◌, ◌++◌, length, sym, refl, ap, ◌∙◌, subst, append-nil, arith, ltb-true, lt-ltb, eq-eqb, ne_eqb, eqb-true}
use mathlib.Core.Bool.{false≢true}
use Rattle.strip.specs.declared.reader.Entry.{Entry}
use Rattle.strip.specs.declared.reader.Entry.TheVariants as Of
use Rattle.strip.specs.Format.{format_of}
use Rattle.strip.specs.Entry.{kind_of, refs_of}
use Rattle.strip.specs.Shape.{is_open, is_close, is_end, end_alone, makes}
use Rattle.strip.proofs.Tests.{and_left, and_right}
use Rattle.evaluation.specs.declared.value.Value.{Value}
use Rattle.evaluation.specs.declared.value.Value.TheVariants.{Undefined, Word, Truth, Slot, Address}
use Rattle.evaluation.specs.declared.state.State.{State}
use Rattle.evaluation.specs.declared.machine.Refusal.TheVariants.{BadShape, UndefinedValue, NoConstant}
use Rattle.evaluation.specs.Value.{with_truth}
use Rattle.evaluation.specs.State.{stored_reg, stored_pred, stored_flag}
use Rattle.evaluation.specs.Machine.{Effect, Push, SetReg, SetPred, SetFlag, Enter, Pass, Finish, Refuse, is_done, storing, storing_word, storing_truth, entering, bare_effect, cell_effect, one_effect, four_effect, value_at, effect_of, muted, taken_effect, outcome_of, pushed, begun, applied, ends, entries_from}
use Rattle.evaluation.specs.Machine as Eval
use Rattle.evaluation.proofs.Laws.{cond-all, with-word, with-truth, address-all}
use Rattle.spirv.specs.Instr.{Instr, instr}
use Rattle.spirv.specs.Reading.{Holds, Env, bind, joined, values_of, Jump, Undef, with_one, merging, branching, jumping, act_of, Running, Seeking, Ended, labels, when_free, onward, read_from}
use Rattle.spirv.specs.declared.plan.Name.{Name}
use Rattle.spirv.specs.Writer.{Given, name, name_at, id_at, Plan, Silent, Known, Made, Stores, Opens, Closes, plan_of, Midway, midway, instrs_by, after, stepped, body_from}
use Rattle.spirv.specs.Claim.{after_first, stop_of, Agree}
use Rattle.spirv.proofs.Walk.{nothing_left, blocks, open_is, bare-is, Straight, straight}
use Rattle.spirv.proofs.Names.{rel-at, rel-push, rel_bind, rel-next, bind-same, bind-other}
use Rattle.spirv.proofs.Typing.{has_kind, Kinds, kinds-length, kinds-push, named-there, Grows, grows}
use Rattle.spirv.proofs.Refusals.{Meets, effect-meets}
use Rattle.spirv.proofs.Entries.{World, Fits, Fair, answering, pushing, setting, Simulates, entry-sim}

-- ---- a skipped block

-- the entry is the end
unfoldable finishes : Entry → Bool
finishes (Of.Bare k) = eqb k 255
finishes (Of.Word w) = false
finishes (Of.Cell k n) = false
finishes (Of.Store k n r) = false
finishes (Of.One k a) = false
finishes (Of.Two k a b) = false
finishes (Of.Three k a b c) = false
finishes (Of.Four k a b c d) = false

finishes-end : (e : Entry) → is_end e ≡ false → finishes e ≡ false
unfolding finishes kind_of
finishes-end (Of.Bare k) p = p
finishes-end (Of.Word w) p = refl
finishes-end (Of.Cell k n) p = refl
finishes-end (Of.Store k n r) p = refl
finishes-end (Of.One k a) p = refl
finishes-end (Of.Two k a b) p = refl
finishes-end (Of.Three k a b c) p = refl
finishes-end (Of.Four k a b c d) p = refl

abbrev Mute : Effect → Type 0
Mute f = muted f ≡ Pass

-- (evaluation/proofs/Progress.antt has this law, not pub)
muted-is : (m : Eval.Midway) (e : Entry) (cs : List ℕ) → muted (effect_of m e cs) ≡ cond (finishes e) Finish Pass
unfolding muted effect_of bare_effect cell_effect one_effect four_effect storing storing_word storing_truth entering finishes
muted-is m (Of.Bare k) cs = go (eqb k 2) refl (eqb k 3) refl (eqb k 255) refl
  where
    go : (a : Bool) → eqb k 2 ≡ a → (b : Bool) → eqb k 3 ≡ b → (c : Bool) → eqb k 255 ≡ c → muted (bare_effect k) ≡ cond (eqb k 255) Finish Pass
    go true a b q c r = let is = eqb-true k 2 a in rw is
    go false a true b c r = let is = eqb-true k 3 b in rw is
    go false a false b true r = rw (a, b, r)
    go false a false b false r = rw (a, b, r)
muted-is m (Of.Word w) cs = refl
muted-is m (Of.Cell k n) cs = cond-all Mute (eqb k 10) _ _ refl (cond-all Mute (eqb k 110) _ _ refl refl)
muted-is m (Of.Store k n r) cs =
    cond-all Mute (eqb k 7) _ _ (with-word Mute _ _ _ refl (λ w. refl)) (with-truth Mute _ _ _ refl (λ t. cond-all Mute (eqb k 8) _ _ refl refl))
muted-is m (Of.One k a) cs = cond-all Mute (eqb k 12) _ _ refl (cond-all Mute (eqb k 80) _ _ refl (cond-all Mute (eqb k 100) _ _ (with-truth Mute _ _ _ refl (λ t. refl)) refl))
muted-is m (Of.Two k a b) cs = refl
muted-is m (Of.Three k a b c) cs = refl
muted-is m (Of.Four k a b c d) cs = cond-all Mute (eqb k 11) _ _ (address-all Mute (λ r. refl) (λ v. refl) _ _ _ _ (length cs)) refl

-- midway, running or in a skipped block
abbrev pub at : State → List Value → Eval.Midway
at s vs = record { state = s; values = vs; skip = false }

abbrev past : State → List Value → Eval.Midway
past s vs = record { state = s; values = vs; skip = true }

module _ (g : Given) (cs : List ℕ) where
  seek-past : (s : State) (env : Env) (w : Midway) (l : ℕ) (p : Plan) (is : List Instr) → Straight p → read_from cs (instrs_by w p ++ is) s env (Seeking l) ≡ read_from cs is s env (Seeking l)
  unfolding instrs_by read_from labels
  seek-past s env w l Silent is h = refl
  seek-past s env w l (Known n) is h = refl
  seek-past s env w l (Made op t xs b) is h = refl
  seek-past s env w l (Stores p v) is h = refl
  seek-past s env w l (Opens c) is h = absurd h
  seek-past s env w l Closes is h = absurd h

  merge-stays : (w : Midway) (p : Plan) → Straight p → (after w p).merge ≡ w.merge
  unfolding after
  merge-stays w Silent h = refl
  merge-stays w (Known n) h = refl
  merge-stays w (Made op t xs b) h = refl
  merge-stays w (Stores p v) h = refl
  merge-stays w (Opens c) h = absurd h
  merge-stays w Closes h = absurd h

  -- each entry is fair to those before it
  abbrev pub FairFrom : List ℕ → List Entry → Type 0
  FairFrom before [] = Unit {0}
  FairFrom before (e ∷ es) = Fair g before e × FairFrom (before ++ makes e) es

  -- the end alone
  end_reads : (s : State) (env : Env) (w : Midway) (e : Entry) → e ≡ Of.Bare 255 → read_from cs (body_from g w (e ∷ [])) s env Running ≡ Ended s
  unfolding read_from body_from plan_of instrs_by
  end_reads s env w e p = rw p

  end-evaluates : (m : Eval.Midway) (e : Entry) → e ≡ Of.Bare 255 → entries_from cs m (e ∷ []) ≡ ends (Ok tt) m.state
  unfolding entries_from taken_effect effect_of bare_effect muted outcome_of applied begun
  end-evaluates m e p = rw p (go m.skip)
    where
      go : (b : Bool) → cond (is_done (outcome_of (cond b (muted Finish) Finish))) (ends (Ok tt) (applied m (cond b (muted Finish) Finish)).state) (ends (outcome_of (cond b (muted Finish) Finish)) m.state) ≡ ends (Ok tt) m.state
      go true = refl
      go false = refl

  end_of : (before : List ℕ) (es : List Entry) → FairFrom before es → end_alone es ≡ true → (e : Entry) × (es ≡ e ∷ []) × (e ≡ Of.Bare 255)
  end_of before [] f h = absurd (false≢true h)
  end_of before (e ∷ []) f h = (e, refl, bare-is 255 refl e f.0.body h)
  end_of before (e ∷ d ∷ es) f h = absurd (false≢true h)

  -- reading goes past a block to its merge label
  module _ (s : State) (env : Env) where
    seek-close : (w : Midway) (e : Entry) (is : List Instr) → e ≡ Of.Bare 101 → read_from cs (instrs_by w (plan_of g (name_at w.names) e) ++ is) s env (Seeking w.merge) ≡ read_from cs is s env Running
    unfolding read_from plan_of instrs_by labels
    seek-close w e is p = rw (p, eq-eqb w.merge w.merge refl)

    close-stays : (w : Midway) (e : Entry) → e ≡ Of.Bare 101 → stepped g w e ≡ w
    unfolding plan_of after
    close-stays w e p = rw p

    seek : (es : List Entry) (before : List ℕ) (w : Midway) → FairFrom before es → blocks true es ≡ true → read_from cs (body_from g w es) s env (Seeking w.merge) ≡ Ended s
    unfolding blocks body_from
    seek [] before w f h = absurd (false≢true h)
    seek (e ∷ es) before w f h = go (seek es (before ++ makes e) (stepped g w e) f.1) (is_open e) refl (is_close e) refl (is_end e) refl h
      where
        go : (blocks true es ≡ true → read_from cs (body_from g (stepped g w e) es) s env (Seeking (stepped g w e).merge) ≡ Ended s)
            → (x : Bool) → is_open e ≡ x → (y : Bool) → is_close e ≡ y → (z : Bool) → is_end e ≡ z
            → cond x (false && blocks true es) (cond y (true && end_alone es) (cond z (false && nothing_left es) (blocks true es))) ≡ true
            → read_from cs (instrs_by w (plan_of g (name_at w.names) e) ++ body_from g (stepped g w e) es) s env (Seeking w.merge) ≡ Ended s
        go ih true x y q z r h = absurd (false≢true h)
        go ih false x true q z r h =
            let c = bare-is 101 refl e f.0.body q in
            let n = end_of (before ++ makes e) es f.1 h in
            seek-close w e (body_from g (stepped g w e) es) c ∙ ap (λ (l : List Entry). read_from cs (body_from g (stepped g w e) l) s env Running) n.1 ∙ end_reads s env (stepped g w e) n.0 n.2
        go ih false x false q true r h = absurd (false≢true h)
        go ih false x false q false r h =
            let p = straight g (name_at w.names) e x q in
            seek-past s env w w.merge (plan_of g (name_at w.names) e) (body_from g (stepped g w e) es) p
            ∙ ap (λ (l : ℕ). read_from cs (body_from g (stepped g w e) es) s env (Seeking l)) (sym (merge-stays w (plan_of g (name_at w.names) e) p))
            ∙ ih h

  -- and evaluation past it
  pass-by : (s : State) (vs : List Value) (e : Entry) (es : List Entry) → is_end e ≡ false → entries_from cs (past s vs) (e ∷ es) ≡ entries_from cs (past s vs) es
  unfolding entries_from taken_effect outcome_of applied
  pass-by s vs e es h = rw (muted-is (past s vs) e cs, finishes-end e h)

  skip : (s : State) (vs : List Value) (es : List Entry) (before : List ℕ) → FairFrom before es → blocks true es ≡ true → entries_from cs (past s vs) es ≡ ends (Ok tt) s
  unfolding blocks
  skip s vs [] before f h = absurd (false≢true h)
  skip s vs (e ∷ es) before f h = go (skip s vs es (before ++ makes e) f.1) (is_open e) refl (is_close e) refl (is_end e) refl h
    where
      go : (blocks true es ≡ true → entries_from cs (past s vs) es ≡ ends (Ok tt) s)
          → (x : Bool) → is_open e ≡ x → (y : Bool) → is_close e ≡ y → (z : Bool) → is_end e ≡ z
          → cond x (false && blocks true es) (cond y (true && end_alone es) (cond z (false && nothing_left es) (blocks true es))) ≡ true
          → entries_from cs (past s vs) (e ∷ es) ≡ ends (Ok tt) s
      go ih true x y q z r h = absurd (false≢true h)
      go ih false x true q z r h =
          let n = end_of (before ++ makes e) es f.1 h in
          let c : eqb (kind_of e) 255 ≡ false = rw (eqb-true (kind_of e) 101 q) in
          pass-by s vs e es c ∙ ap (λ (l : List Entry). entries_from cs (past s vs) l) n.1 ∙ end-evaluates (past s vs) n.0 n.2
      go ih false x false q true r h = absurd (false≢true h)
      go ih false x false q false r h = pass-by s vs e es r ∙ ih h

-- ---- one entry, then the others
module _ (g : Given) (cs : List ℕ) (env₀ : Env) (start : ℕ) (world : World g env₀ start) where
  -- the entries that are left end alike, wherever names, values and environment fit
  abbrev pub Sim : Bool → List Entry → Type 0
  Sim i es =
      (s : State) (vs : List Value) (before : List ℕ) (w : Midway) (env : Env) → Kinds before vs → Fits env₀ start vs w env → FairFrom g cs before es → blocks i es ≡ true → length vs + length es ≤ 64
      → Agree (read_from cs (body_from g w es) s env Running) (entries_from cs (at s vs) es) (stop_of g cs w (at s vs) es)

  module _ (s : State) (vs : List Value) (before : List ℕ) (kinds : Kinds before vs) (w : Midway) (env : Env) (fit : Fits env₀ start vs w env) (e : Entry) (es : List Entry) (room : length vs < 64) where
    -- what is to be shown of the others
    abbrev Rest : Type 0
    Rest =
        (s' : State) (vs' : List Value) (w' : Midway) (env' : Env) → Kinds (before ++ makes e) vs' → Fits env₀ start vs' w' env' → length vs' ≤ suc (length vs)
        → Agree (read_from cs (body_from g w' es) s' env' Running) (entries_from cs (at s' vs') es) (stop_of g cs w' (at s' vs') es)

    abbrev Here : Plan → Effect → Type 0
    Here p f =
        Agree (read_from cs (instrs_by w p ++ body_from g (after w p) es) s env Running)
        (cond (is_done (outcome_of f)) (entries_from cs (applied (at s vs) f) es) (ends (outcome_of f) s))
        (cond (is_done (outcome_of f)) (stop_of g cs (after w p) (applied (at s vs) f) es) (instrs_by w p ++ body_from g (after w p) es))

    kinds-stay : eqb (format_of (kind_of e)).result 0 ≡ true → Kinds (before ++ makes e) vs
    unfolding makes
    kinds-stay p = rw (p, append-nil before) kinds

    kinds-grow : (v : Value) → eqb (format_of (kind_of e)).result 0 ≡ false → has_kind (format_of (kind_of e)).result v ≡ true → Kinds (before ++ makes e) (vs ++ (v ∷ []))
    unfolding makes
    kinds-grow v p q = rw p (kinds-push before vs kinds (format_of (kind_of e)).result v q)

    one_more : (v : Value) → length (vs ++ (v ∷ [])) ≤ suc (length vs)
    one_more v = go vs
      where
        go : (vs : List Value) → length (vs ++ (v ∷ [])) ≤ suc (length vs)
        go [] = omega arith
        go (u ∷ vs) = let h = go vs in omega arith

    push-is : (v : Value) → applied (at s vs) (Push v) ≡ at s (vs ++ (v ∷ []))
    unfolding applied pushed
    push-is v = rw (lt-ltb (length vs) 64 room)

    known-fits : (n : Name) (v : Value) → env n.id ≡ Holds v → n.id < w.next → Fits env₀ start (vs ++ (v ∷ [])) (midway w.next (w.names ++ (n ∷ [])) w.merge) env
    known-fits n v p l = record { rel = rel-push w.next env w.names vs fit.rel n v l p; old = fit.old; above = fit.above; fresh = fit.fresh }

    made-fits : (b : Bool) (v : Value) → Fits env₀ start (vs ++ (v ∷ [])) (midway (suc w.next) (w.names ++ (name w.next b ∷ [])) w.merge) (bind env w.next v)
    made-fits b v =
        let up : start ≤ w.next = fit.above in
        record {
          rel = rel-push (suc w.next) (bind env w.next v) w.names vs (rel_bind w.next env w.names vs fit.rel v) (name w.next b) v (omega arith) (bind-same env w.next v);
          old = λ i l. bind-other env w.next v i (λ (q : i ≡ w.next). absurd (omega arith)) ∙ fit.old i l;
          above = omega arith;
          fresh = λ i l. bind-other env w.next v i (λ (q : i ≡ w.next). absurd (omega arith)) ∙ fit.fresh i (omega arith);
        }

    -- an entry whose plan answers its effect
    by-plan : Rest → (p : Plan) (f : Effect) → Straight p → Simulates g cs env₀ start world (at s vs) before kinds w env fit p f → Grows (kind_of e) f → Meets f → Here p f
    unfolding instrs_by after read_from onward when_free answering pushing setting outcome_of applied
    by-plan k Silent f t h r m = rw h (k s vs w env (kinds-stay (rw h at r)) fit (omega arith))
    by-plan k (Known n) f t h r m =
        let q : Grows (kind_of e) (Push h.0) = rw h.1 at r in
        rw (h.1, push-is h.0) (k s (vs ++ (h.0 ∷ [])) (midway w.next (w.names ++ (n ∷ [])) w.merge) env (kinds-grow h.0 q.0 q.1) (known-fits n h.0 h.2 h.3) (one_more h.0))
    by-plan k (Made op t xs b) (Push v) z h r m =
        rw (h.0, fit.fresh w.next (omega arith), push-is v) (k s (vs ++ (v ∷ [])) (midway (suc w.next) (w.names ++ (name w.next b ∷ [])) w.merge) (bind env w.next v) (kinds-grow v r.0 r.1) (made-fits b v) (one_more v))
    by-plan k (Made op t xs b) (SetReg n x) z h r m = absurd (false≢true h.1)
    by-plan k (Made op t xs b) (SetPred n x) z h r m = absurd (false≢true h.1)
    by-plan k (Made op t xs b) (SetFlag n x) z h r m = absurd (false≢true h.1)
    by-plan k (Made op t xs b) (Enter x) z h r m = absurd (false≢true h.1)
    by-plan k (Made op t xs b) Pass z h r m = absurd (false≢true h.1)
    by-plan k (Made op t xs b) Finish z h r m = absurd (false≢true h.1)
    by-plan k (Made op t xs b) (Refuse BadShape) z h r m = absurd m
    by-plan k (Made op t xs b) (Refuse UndefinedValue) z h r m = rw h.0
    by-plan k (Made op t xs b) (Refuse (NoConstant slot vec comp)) z h r m = rw h.0
    by-plan k (Stores p v) (Push x) z h r m = absurd (false≢true h.1)
    by-plan k (Stores p v) (SetReg n x) z h r m = rw h.0 (k (stored_reg s n x) vs w env (kinds-stay r) fit (omega arith))
    by-plan k (Stores p v) (SetPred n x) z h r m = rw h.0 (k (stored_pred s n x) vs w env (kinds-stay r) fit (omega arith))
    by-plan k (Stores p v) (SetFlag n x) z h r m = rw h.0 (k (stored_flag s n x) vs w env (kinds-stay r) fit (omega arith))
    by-plan k (Stores p v) (Enter x) z h r m = absurd (false≢true h.1)
    by-plan k (Stores p v) Pass z h r m = absurd (false≢true h.1)
    by-plan k (Stores p v) Finish z h r m = absurd (false≢true h.1)
    by-plan k (Stores p v) (Refuse BadShape) z h r m = absurd m
    by-plan k (Stores p v) (Refuse UndefinedValue) z h r m = rw h.0
    by-plan k (Stores p v) (Refuse (NoConstant slot vec comp)) z h r m = rw h.0
    by-plan k (Opens c) f z h r m = absurd z
    by-plan k Closes f z h r m = absurd z

    -- neither open, close nor end
    plain_step : Rest → Fair g before e → is_open e ≡ false → is_close e ≡ false → is_end e ≡ false
        → Agree (read_from cs (body_from g w (e ∷ es)) s env Running) (entries_from cs (at s vs) (e ∷ es)) (stop_of g cs w (at s vs) (e ∷ es))
    unfolding body_from entries_from stop_of taken_effect
    plain_step k f o c n =
        rw o
        (by-plan k (plan_of g (name_at w.names) e) (effect_of (at s vs) e cs) (straight g (name_at w.names) e o c) (entry-sim g cs env₀ start world (at s vs) before kinds w env fit e f n) (grows (at s vs) cs before kinds e f.body f.refs) (effect-meets cs (at s vs) e))

    -- the close: a branch to the merge label, which follows
    close-step : Rest → e ≡ Of.Bare 101 → Agree (read_from cs (body_from g w (e ∷ es)) s env Running) (entries_from cs (at s vs) (e ∷ es)) (stop_of g cs w (at s vs) (e ∷ es))
    unfolding body_from entries_from stop_of taken_effect plan_of instrs_by after read_from act_of jumping onward labels effect_of bare_effect outcome_of applied format_of kind_of
    close-step k p = rw (p, eq-eqb w.merge w.merge refl) (k s vs w env (kinds-stay (rw p)) fit (omega arith))

    -- the open
    open-fits : Fits env₀ start vs (midway (suc (suc w.next)) w.names (suc w.next)) env
    open-fits =
        let up : start ≤ w.next = fit.above in
        record { rel = rel-next (suc w.next) env w.names vs (rel-next w.next env w.names vs fit.rel); old = fit.old; above = omega arith; fresh = λ i l. fit.fresh i (omega arith) }

    open-read : (c : ℕ) (v : Value) (is : List Instr) → env c ≡ Holds v
        → read_from cs (instrs_by w (Opens c) ++ is) s env Running
        ≡ onward s env (instr 250 (c ∷ w.next ∷ suc w.next ∷ []) ∷ instr 248 (w.next ∷ []) ∷ is) (read_from cs (instr 248 (w.next ∷ []) ∷ is)) (with_truth Undef v (λ b. Jump (cond b w.next (suc w.next))))
    unfolding instrs_by read_from act_of merging branching onward with_one values_of joined
    open-read c v is p = rw p

    abbrev opened : Midway
    opened = midway (suc (suc w.next)) w.names (suc w.next)

    open_by : (c : ℕ) (v : Value) → env c ≡ Holds v → Rest → blocks true es ≡ true → FairFrom g cs (before ++ makes e) es → Kinds (before ++ makes e) vs
        → Agree (read_from cs (instrs_by w (Opens c) ++ body_from g opened es) s env Running)
        (cond (is_done (outcome_of (entering v))) (entries_from cs (applied (at s vs) (entering v)) es) (ends (outcome_of (entering v)) s))
        (cond (is_done (outcome_of (entering v))) (stop_of g cs opened (applied (at s vs) (entering v)) es) (after_first (instrs_by w (Opens c) ++ body_from g opened es)))
    unfolding entering with_truth outcome_of applied onward read_from labels instrs_by
    open_by c Undefined p k b f ks = open-read c Undefined (body_from g opened es) p
    open_by c (Word x) p k b f ks = open-read c (Word x) (body_from g opened es) p
    open_by c (Slot x) p k b f ks = open-read c (Slot x) (body_from g opened es) p
    open_by c (Address x) p k b f ks = open-read c (Address x) (body_from g opened es) p
    open_by c (Truth true) p k b f ks = rw (open-read c (Truth true) (body_from g opened es) p, eq-eqb w.next w.next refl) (k s vs opened env ks open-fits (omega arith))
    open_by c (Truth false) p k b f ks =
        rw (skip g cs s vs es (before ++ makes e) f b, open-read c (Truth false) (body_from g opened es) p, ne_eqb w.next (suc w.next) (λ (q : w.next ≡ suc w.next). absurd (omega arith)))
        (seek g cs s env es (before ++ makes e) opened f b)

    open-held : (a : ℕ) → Fair g before (Of.One 100 a) → env (id_at w.names a) ≡ Holds (value_at vs a)
    unfolding kind_of refs_of
    open-held a f =
        let l = named-there before (length vs) (kinds-length before vs kinds) (format_of 100).operands (a ∷ []) f.refs in
        (rel-at w.next env w.names vs fit.rel a (ltb-true a (length vs) (and_left (ltb a (length vs)) _ l))).1

    open_step : (a : ℕ) → Rest → blocks true es ≡ true → FairFrom g cs (before ++ makes e) es → Fair g before e → e ≡ Of.One 100 a
        → Agree (read_from cs (body_from g w (e ∷ es)) s env Running) (entries_from cs (at s vs) (e ∷ es)) (stop_of g cs w (at s vs) (e ∷ es))
    unfolding body_from entries_from stop_of taken_effect plan_of after effect_of one_effect format_of kind_of
    open_step a k b more f p =
        let h = open-held a (subst (λ (d : Entry). Fair g before d) p f) in
        let ks = kinds-stay (rw p) in
        rw p (open_by (id_at w.names a) (value_at vs a) h k b more ks)

  -- all entries
  ends-block : (es : List Entry) → end_alone es ≡ true → blocks false es ≡ true
  unfolding blocks
  ends-block [] h = absurd (false≢true h)
  ends-block (e ∷ []) h = rw (eqb-true (kind_of e) 255 h)
  ends-block (e ∷ d ∷ es) h = absurd (false≢true h)

  end_step : (s : State) (vs : List Value) (w : Midway) (env : Env) (e : Entry) (es : List Entry) → nothing_left es ≡ true → e ≡ Of.Bare 255
      → Agree (read_from cs (body_from g w (e ∷ es)) s env Running) (entries_from cs (at s vs) (e ∷ es)) (stop_of g cs w (at s vs) (e ∷ es))
  end_step s vs w env e [] n p = rw (end-evaluates g cs (at s vs) e p) (end_reads g cs s env w e p)
  end_step s vs w env e (d ∷ es) n p = absurd (false≢true n)

  pub sim : (es : List Entry) (i : Bool) → Sim i es
  unfolding blocks
  sim [] i s vs before w env ks fit f b l = absurd (false≢true b)
  sim (e ∷ es) i s vs before w env ks fit f b l = go (λ j. sim es j) (is_open e) refl (is_close e) refl (is_end e) refl b
    where
      room : length vs < 64
      room = omega arith

      rest : (j : Bool) → Sim j es → blocks j es ≡ true → Rest s vs before ks w env fit e es room
      rest j k h s' vs' w' env' ks' fit' l' = k s' vs' (before ++ makes e) w' env' ks' fit' f.1 h (omega arith)

      go : ((j : Bool) → Sim j es) → (x : Bool) → is_open e ≡ x → (y : Bool) → is_close e ≡ y → (z : Bool) → is_end e ≡ z
          → cond x (not i && blocks true es) (cond y (i && end_alone es) (cond z (not i && nothing_left es) (blocks i es))) ≡ true
          → Agree (read_from cs (body_from g w (e ∷ es)) s env Running) (entries_from cs (at s vs) (e ∷ es)) (stop_of g cs w (at s vs) (e ∷ es))
      go k true x y q z r h =
          let o = open_is e f.0.body x in
          let n = and_right (not i) _ h in
          open_step s vs before ks w env fit e es room o.0 (rest true (k true) n) n f.1 f.0 o.1
      go k false x true q z r h = close-step s vs before ks w env fit e es room (rest false (k false) (ends-block es (and_right i _ h))) (bare-is 101 refl e f.0.body q)
      go k false x false q true r h = end_step s vs w env e es (and_right (not i) _ h) (bare-is 255 refl e f.0.body r)
      go k false x false q false r h = plain_step s vs before ks w env fit e es room (rest i (k i) h) f.0 x q r
