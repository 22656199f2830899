-- Isolation (01, 'Evaluation and reach'): starts that agree on the reach list agree at the end on the asked cells, and cells that no strip
-- stores never change.
use Rattle.std.specs.Prelude.{Ok, Err}
use mathlib.Core.Path.{◌≡◌, refl, ap, ◌∙◌, sym}
use mathlib.Core.List.{List, [], ◌∷◌}
use mathlib.Core.Option.{Option, none, get_or}
use mathlib.Core.Option as Maybe
use mathlib.Core.Bool.{Bool, true, false, cond, not, ◌&&◌, ◌||◌, or-true, or-false, false≢true}
use Prim.Native.Nat.{ℕ, ◌≤◌, ◌<◌}
use native.Mathlib.Omega.{arith}
use lib.ListN.{length, length-set, get_or-eq_default}
use lib.Dec.{ltb, leb, eqb}
use borrow.Author.Tests.{ltb-true, ltb-false, lt-ltb, ne_eqb}
use Rattle.strip.specs.declared.reader.Entry.{Entry}
use Rattle.strip.specs.Format.{format_of}
use Rattle.strip.specs.Entry.{wide, kind_of}
use Rattle.strip.specs.Shape.{all, is_open, ends_once, cell_ok, strip_ok, decode, all_ok, shape_ok}
use Rattle.strip.proofs.Tests.{and_left, and_right}
use Rattle.evaluation.specs.declared.state.State.{State}
use Rattle.evaluation.specs.declared.machine.Refusal.TheVariants.{BadShape}
use Rattle.evaluation.specs.declared.machine.Evaluated.{Evaluated}
use Rattle.evaluation.specs.State.{loaded, stored_reg, stored_pred, stored_flag}
use Rattle.evaluation.specs.Machine.{Effect, Push, SetReg, SetPred, SetFlag, Enter, Pass, Finish, Refuse, Midway, begun, is_done, pushed, applied, taken_effect, outcome_of, ends, onward, entries_from, strips_from, evaluated}
use Rattle.evaluation.specs.Cells.{stores, loads, AgreeCells, AgreeSlots}
use Rattle.evaluation.proofs.Laws.{cond-all, entries-keep, strips-keep}
use Rattle.evaluation.proofs.Agree.{done-lacks, Sizes, Loads, NoOpen, stored_by, DoneAgree, strip-both, strip-stored}
use Rattle.reach.specs.declared.cells.Cells.{Cells}
use Rattle.reach.specs.Reach.{listed, cells_where, any, stores_listed, before, rule, reach_strips, reached}
use Rattle.reach.proofs.CellSets.{inside, outside, listed-where, loaded-outside, extended, extended-where, or_left, or_right, strip-leaves, slot-inside, slots-stay}

-- two starts, or two ends, each a state with its lent list: they agree on the listed cells and slots
pub record Agree (c : Cells) (s : State) (cs : List ℕ) (t : State) (ds : List ℕ) : Type 0 where
  pub cells : AgreeCells (listed c) s t
  pub slots : AgreeSlots (listed c) cs ds

-- ---- evaluation keeps the lengths of the arrays
sizes-chain : (r s t : State) → Sizes r s → Sizes s t → Sizes r t
sizes-chain r s t a b = (a.0 ∙ b.0, a.1 ∙ b.1, a.2 ∙ b.2)

sizes-back : (s t : State) → Sizes s t → Sizes t s
sizes-back s t a = (sym a.0, sym a.1, sym a.2)

same-sizes : (s : State) → Sizes s s
same-sizes s = (refl, refl, refl)

applied-sizes : (m : Midway) (f : Effect) → Sizes (applied m f).state m.state
unfolding applied pushed begun stored_reg stored_pred stored_flag
applied-sizes m (Push v) = cond-all (λ (x : Midway). Sizes x.state m.state) (ltb (length m.values) 64) _ _ (same-sizes m.state) (same-sizes m.state)
applied-sizes m (SetReg i w) = (length-set m.state.regs i w, refl, refl)
applied-sizes m (SetPred i t) = (refl, length-set m.state.preds i t, refl)
applied-sizes m (SetFlag i t) = (refl, refl, length-set m.state.flags i t)
applied-sizes m (Enter t) = same-sizes m.state
applied-sizes m Pass = same-sizes m.state
applied-sizes m Finish = same-sizes m.state
applied-sizes m (Refuse r) = same-sizes m.state

abbrev Unchanged : State → Evaluated → Type 0
Unchanged s r = Sizes r.state s

entries-sizes : (cs : List ℕ) (m : Midway) (es : List Entry) → Unchanged m.state (entries_from cs m es)
unfolding entries_from
entries-sizes cs m [] = same-sizes m.state
entries-sizes cs m (e ∷ es) =
    let f = taken_effect m e cs in
    cond-all (Unchanged m.state) (is_done (outcome_of f)) _ _
    (sizes-chain (entries_from cs (applied m f) es).state (applied m f).state m.state (entries-sizes cs (applied m f) es) (applied-sizes m f))
    (same-sizes m.state)

strip-sizes : (cs ds : List ℕ) (s t : State) (es : List Entry) → Sizes s t → Sizes (entries_from cs (begun s) es).state (entries_from ds (begun t) es).state
unfolding begun
strip-sizes cs ds s t es z =
    let u = (entries_from cs (begun s) es).state in
    let v = (entries_from ds (begun t) es).state in
    sizes-chain u s v (entries-sizes cs (begun s) es) (sizes-chain s t v z (sizes-back v t (entries-sizes ds (begun t) es)))

-- ---- one strip
abbrev CellsOk : List Entry → Type 0
CellsOk es = all (λ e. cell_ok (format_of (kind_of e)) e) es ≡ true

module _ (cs ds : List ℕ) (known : ℕ → ℕ → Bool) (agree : AgreeSlots known cs ds) where
  loads-known : (es : List Entry) → CellsOk es
      → ((k n : ℕ) → (eqb k 10 ≡ true → ltb n 32 ≡ true) → any (loads k n) es ≡ true → known k n ≡ true) → Loads cs ds known agree es
  loads-known [] ok h = tt
  loads-known (e ∷ es) ok h = (
    λ k n p. h k n (slot-inside k n e (and_left (cell_ok (format_of (kind_of e)) e) _ ok) p) (rw p refl),
    loads-known es (and_right (cell_ok (format_of (kind_of e)) e) _ ok) (λ k n s p. h k n s (rw p (or-true (loads k n e)))),
  )

  no-open : (es : List Entry) → any is_open es ≡ false → NoOpen cs ds known agree es
  no-open [] p = tt
  no-open (e ∷ es) p = (or_left (is_open e) _ p, no-open es (or_right (is_open e) _ p))

stored-any : (es : List Entry) (k n : ℕ) → stored_by es k n ≡ any (stores k n) es
unfolding stored_by
stored-any [] k n = refl
stored-any (e ∷ es) k n = ap (λ (b : Bool). stores k n e || b) (stored-any es k n)

-- starts that agree on the listed cells agree on those that no state has, too
extended-agree : (c : Cells) (s t : State) → AgreeCells (listed c) s t → AgreeCells (extended c) s t
unfolding extended
extended-agree c s t a k n l h p = go (listed c k n) refl
  where
    go : (b : Bool) → listed c k n ≡ b → loaded s k n ≡ loaded t k n
    go true q = a k n l h q
    go false q = let o : outside k n ≡ true = rw q at p in loaded-outside k n l h o s ∙ sym (loaded-outside k n l h o t)

extended-slots : (c : Cells) (cs ds : List ℕ) → AgreeSlots (listed c) cs ds → AgreeSlots (extended c) cs ds
unfolding extended outside
extended-slots c cs ds a n w p = a n w (sym (or-false (listed c 10 n)) ∙ p)

module _ (cs ds : List ℕ) (es : List Entry) (c : Cells) (s t : State) where
  abbrev here : Evaluated
  here = entries_from cs (begun s) es

  abbrev there : Evaluated
  there = entries_from ds (begun t) es

  -- it stores none of the list: the listed cells stay
  strip-idle : any (stores_listed c) es ≡ false → AgreeCells (listed c) s t → AgreeCells (listed c) here.state there.state
  unfolding begun
  strip-idle p a k n l h q =
      let stay = strip-leaves c k n q es p in
      entries-keep k n l h cs (begun s) es stay ∙ a k n l h q ∙ sym (entries-keep k n l h ds (begun t) es stay)

  -- it stores a listed cell: it has the same values from both, and so the same stores
  module _ (ok : CellsOk es) (z : Sizes s t) (a : Agree (cells_where (before es c)) s cs t ds)
      (d : is_done here.outcome ≡ true) (e : is_done there.outcome ≡ true) where
    known : ℕ → ℕ → Bool
    known = extended (cells_where (before es c))

    slots : AgreeSlots known cs ds
    unfolding known
    slots = extended-slots (cells_where (before es c)) cs ds a.slots

    cells : AgreeCells known s t
    unfolding known
    cells = extended-agree (cells_where (before es c)) s t a.cells

    all_known : Loads cs ds known slots es
    unfolding known before
    all_known =
        loads-known cs ds known slots es ok
        (λ k n i p. extended-where (before es c) k n i (rw p (or-true (listed c k n && (any is_open es || not (any (stores k n) es))))))

    -- a listed cell that stayed in the list is known
    stayed : (k n : ℕ) → k ≤ 6 → listed c k n ≡ true → any is_open es || not (any (stores k n) es) ≡ true → known k n ≡ true
    unfolding known before
    stayed k n h q p = extended-where (before es c) k n (λ x. absurd (false≢true (sym (ne_eqb k 10 (λ (y : k ≡ 10). omega arith)) ∙ x))) (rw (q, p) refl)

    strip-works : AgreeCells (listed c) here.state there.state
    strip-works k n l h q = go (any is_open es) refl (any (stores k n) es) refl
      where
        same : known k n ≡ true → loaded here.state k n ≡ loaded there.state k n
        same p = (strip-both cs ds known slots es all_known s t cells z (done-lacks here.outcome d) (done-lacks there.outcome e)).1 k n l h p

        stored : any is_open es ≡ false → any (stores k n) es ≡ true → loaded here.state k n ≡ loaded there.state k n
        stored o p = strip-stored cs ds known slots es all_known (no-open cs ds known slots es o) s t cells z d e k n l h (rw (stored-any es k n, p) refl)

        go : (o : Bool) → any is_open es ≡ o → (b : Bool) → any (stores k n) es ≡ b → loaded here.state k n ≡ loaded there.state k n
        go true o b p = same (stayed k n h q (rw o refl))
        go false o true p = stored o p
        go false o false p = same (stayed k n h q (rw (o, p) refl))

  -- the list before the strip decides the list after it
  strip-agree : CellsOk es → Sizes s t → Agree (rule es c) s cs t ds
      → is_done here.outcome ≡ true → is_done there.outcome ≡ true → AgreeCells (listed c) here.state there.state
  unfolding rule
  strip-agree ok z a d e = go (any (stores_listed c) es) refl a
    where
      go : (b : Bool) → any (stores_listed c) es ≡ b → Agree (cond b (cells_where (before es c)) c) s cs t ds → AgreeCells (listed c) here.state there.state
      go true p a = strip-works ok z a d e
      go false p a = strip-idle p a.cells

-- ---- a run
-- an asked slot stays listed, and only slots that there are become so
abbrev SlotsInside : Cells → Type 0
SlotsInside c = (n : ℕ) → listed c 10 n ≡ true → n < 32

pub asked-inside : (c : Cells) → length c.slots ≡ 32 → SlotsInside c
unfolding listed
asked-inside c z n p = go (ltb n 32) refl
  where
    go : (b : Bool) → ltb n 32 ≡ b → n < 32
    go true b = ltb-true n 32 b
    go false b =
        let h = ltb-false n 32 b in
        let past : length c.slots ≤ n = omega (arith, z) in
        absurd (false≢true (sym (get_or-eq_default c.slots false past) ∙ p))

rule-inside : (es : List Entry) (c : Cells) → SlotsInside c → SlotsInside (rule es c)
unfolding rule inside
rule-inside es c h =
    cond-all SlotsInside (any (stores_listed c) es) _ _
    (λ n p. ltb-true n 32 (and_left (ltb n 32) (before es c 10 n) (sym (listed-where (before es c) 10 n) ∙ p)))
    h

pub reach-inside : (ss : List (List Entry)) (c : Cells) → SlotsInside c → SlotsInside (reach_strips ss c)
unfolding reach_strips
reach-inside [] c h = h
reach-inside (es ∷ ss) c h = rule-inside es (reach_strips ss c) (reach-inside ss c h)

rule-slots : (es : List Entry) (c : Cells) → SlotsInside c → (n : ℕ) → listed c 10 n ≡ true → listed (rule es c) 10 n ≡ true
unfolding rule inside before
rule-slots es c h n p =
    cond-all (λ (d : Cells). listed d 10 n ≡ true) (any (stores_listed c) es) _ _
    (listed-where (before es c) 10 n ∙ rw (lt-ltb n 32 (h n p), p, slots-stay n es, or-true (any is_open es)) refl)
    p

pub reach-slots : (ss : List (List Entry)) (c : Cells) → SlotsInside c → (n : ℕ) → listed c 10 n ≡ true → listed (reach_strips ss c) 10 n ≡ true
unfolding reach_strips
reach-slots [] c h n p = p
reach-slots (es ∷ ss) c h n p = rule-slots es (reach_strips ss c) (reach-inside ss c h) n (reach-slots ss c h n p)

cells-ok : (es : List Entry) → strip_ok es ≡ true → CellsOk es
unfolding strip_ok
cells-ok es p = and_left (all (λ e. cell_ok (format_of (kind_of e)) e) es) _ (and_right (leb (length es) 64) _ (and_right (ends_once es) _ p))

-- where two parts are done, the first is
first_done : (r : Evaluated) (next : State → Evaluated) → is_done (onward r next).outcome ≡ true → is_done r.outcome ≡ true
first_done r next p = go (is_done r.outcome) refl
  where
    go : (b : Bool) → is_done r.outcome ≡ b → is_done r.outcome ≡ true
    go true q = q
    go false q = rw q at p

strips-agree : (cs ds : List ℕ) (c : Cells) → SlotsInside c → (ss : List (List Entry)) → all strip_ok ss ≡ true
    → (s t : State) → Sizes s t → Agree (reach_strips ss c) s cs t ds → DoneAgree (listed c) (strips_from cs s ss) (strips_from ds t ss)
unfolding strips_from reach_strips
strips-agree cs ds c i [] ok s t z a p q = a.cells
strips-agree cs ds c i (es ∷ ss) ok s t z a p q =
    let p1 = first_done (entries_from cs (begun s) es) (λ u. strips_from cs u ss) p in
    let q1 = first_done (entries_from ds (begun t) es) (λ u. strips_from ds u ss) q in
    let u = (entries_from cs (begun s) es).state in
    let v = (entries_from ds (begun t) es).state in
    let cells = strip-agree cs ds es (reach_strips ss c) s t (cells-ok es (and_left (strip_ok es) _ ok)) z a p1 q1 in
    let slots : AgreeSlots (listed (reach_strips ss c)) cs ds = λ n w l. a.slots n w (rule-slots es (reach_strips ss c) (reach-inside ss c i) n l) in
    let next : Agree (reach_strips ss c) u cs v ds = record { cells = cells; slots = slots } in
    let rest = strips-agree cs ds c i ss (and_right (strip_ok es) _ ok) u v (strip-sizes cs ds s t es z) next in
    rw (p1, q1) (rest (rw p1 at p) (rw q1 at q))

-- the strips of a run
abbrev pub strips : List ℕ → List (List Entry)
strips run = get_or (decode wide run) []

strips-ok : (run : List ℕ) → shape_ok wide run ≡ true → all strip_ok (strips run) ≡ true
unfolding shape_ok
strips-ok run p = go (decode wide run) p
  where
    go : (o : Option (List (List Entry))) → all_ok o ≡ true → all strip_ok (get_or o []) ≡ true
    go none p = absurd (false≢true p)
    go (Maybe.some ss) p = p

-- a run that is done passed the shape test, and its end is that of its strips
pub record Accepted (run : List ℕ) (s : State) (cs : List ℕ) : Type 0 where
  pub shape : shape_ok wide run ≡ true
  pub done : is_done (strips_from cs s (strips run)).outcome ≡ true
  pub end : evaluated wide run s cs ≡ strips_from cs s (strips run)

pub accepted : (run : List ℕ) (s : State) (cs : List ℕ) → (evaluated wide run s cs).outcome ≡ (Ok tt) → Accepted run s cs
unfolding evaluated
accepted run s cs p = go (shape_ok wide run) refl (is_done (strips_from cs s (strips run)).outcome) refl (ap is_done p)
  where
    r : Evaluated
    r = strips_from cs s (strips run)

    go : (a : Bool) → shape_ok wide run ≡ a → (b : Bool) → is_done r.outcome ≡ b
        → is_done (cond a (cond b r (ends r.outcome s)) (ends (Err BadShape) s)).outcome ≡ true → Accepted run s cs
    go true a true b q = record { shape = a; done = b; end = rw (a, b) refl }
    go true a false b q = absurd (false≢true (sym b ∙ q))
    go false a b r q = absurd (false≢true q)

-- two starts of a run, over lent lists of any lengths: they agree on a list, and both evaluations are done
pub record Starts (run : List ℕ) (list : Cells) (s : State) (cs : List ℕ) (t : State) (ds : List ℕ) : Type 0 where
  pub sizes : Sizes s t
  pub agree : Agree list s cs t ds
  pub one : (evaluated wide run s cs).outcome ≡ (Ok tt)
  pub two : (evaluated wide run t ds).outcome ≡ (Ok tt)

-- Starts that agree on the list of the rule have ends that agree on the asked cells. Nothing else is asked of the run: one that is done
-- passed the shape test. Of the asked cells' lists only the slots' length matters, since no state has a register past the last.
pub isolation-strips : (run : List ℕ) (c : Cells) → length c.slots ≡ 32 → (s t : State) (cs ds : List ℕ)
    → Starts run (reach_strips (strips run) c) s cs t ds → Agree c (evaluated wide run s cs).state cs (evaluated wide run t ds).state ds
isolation-strips run c z s t cs ds a =
    let i = asked-inside c z in
    let one = accepted run s cs a.one in
    let two = accepted run t ds a.two in
    let cells = strips-agree cs ds c i (strips run) (strips-ok run one.shape) s t a.sizes a.agree one.done two.done in
    rw (one.end, two.end) (record { cells = cells; slots = λ n w l. a.agree.slots n w (reach-slots (strips run) c i n l) })

-- Isolation: the same of the list that reach answers.
pub isolation : (run : List ℕ) (c : Cells) → length c.slots ≡ 32 → (s t : State) (cs ds : List ℕ)
    → Starts run (reached run c).cells s cs t ds → Agree c (evaluated wide run s cs).state cs (evaluated wide run t ds).state ds
unfolding reached
isolation run c z s t cs ds a =
    let shape = (accepted run s cs a.one).shape in
    isolation-strips run c z s t cs ds (record { sizes = a.sizes; agree = rw shape at a.agree; one = a.one; two = a.two })

-- some strip of the run stores cell n of kind k
abbrev pub stored_in : List ℕ → ℕ → ℕ → Bool
stored_in run k n = any (λ es. any (stores k n) es) (strips run)

none-stores : (k n : ℕ) (es : List Entry) → any (stores k n) es ≡ false → all (λ e. not (stores k n e)) es ≡ true
none-stores k n [] p = refl
none-stores k n (e ∷ es) p = rw (or_left (stores k n e) _ p) (none-stores k n es (or_right (stores k n e) _ p))

none-store : (k n : ℕ) (ss : List (List Entry)) → any (λ es. any (stores k n) es) ss ≡ false → all (λ es. all (λ e. not (stores k n e)) es) ss ≡ true
none-store k n [] p = refl
none-store k n (es ∷ ss) p = rw (none-stores k n es (or_left (any (stores k n) es) _ p)) (none-store k n ss (or_right (any (stores k n) es) _ p))

-- A cell that no strip of the run stores is as it was, whatever the run and the answer.
pub unchanged : (run : List ℕ) (s : State) (cs : List ℕ) (k n : ℕ) → 4 ≤ k → k ≤ 6 → stored_in run k n ≡ false
    → loaded (evaluated wide run s cs).state k n ≡ loaded s k n
unfolding evaluated
unchanged run s cs k n l h p =
    cond-all Same (shape_ok wide run) _ _
    (cond-all Same (is_done (strips_from cs s (strips run)).outcome) _ _ (strips-keep k n l h cs s (strips run) (none-store k n (strips run) p)) refl)
    refl
  where
    Same : Evaluated → Type 0
    Same r = loaded r.state k n ≡ loaded s k n
