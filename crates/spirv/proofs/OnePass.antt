-- One pass over the entries: each is written with the constants so far.
use Rattle.std.proofs.Common.{◌≡◌, ℕ, zero, suc, ◌+◌, ◌*◌, ◌^◌, ◌<◌, ◌≤◌, Bool, true, false, cond, not, ◌&&◌, ◌||◌, eqb, ltb, leb, List, [], ◌∷◌, ◌++◌, length, get_or, sym, refl, ap, ◌∙◌, ap₂, true≢false, append-nil, arith, length-append, ltb-true, lt-ltb, eq-eqb, eqb-true, le-leb}
use mathlib.Core.Bool.{xor, or-true, false≢true}
use borrow.Author.Tests.{eqb-false}
use Rattle.strip.specs.declared.reader.Entry.{Entry}
use Rattle.strip.specs.declared.reader.Entry.TheVariants as Of
use Rattle.strip.specs.Format.{format_of}
use Rattle.strip.specs.Entry.{kind_of, refs_of, body_of}
use Rattle.strip.specs.Shape.{all, makes, names, refs_pass}
use Rattle.strip.proofs.Tests.{and_left, and_right}
use Rattle.strip.proofs.Table.{body_number}
use Rattle.spirv.specs.declared.opcodes.Op.{Op}
use Rattle.spirv.specs.declared.opcodes.Op.TheVariants.{Core, Glsl}
use Rattle.spirv.specs.declared.plan.Name.{Name}
use Rattle.spirv.specs.Opcodes.{op_of}
use Rattle.spirv.specs.Writer.{Const, const, same, const_of, listed, place_of, with_new, constants_from, Given, given, lent, type_id, const_id, name, name_at, Plan, Silent, Known, Made, Stores, Opens, Closes, planned, operation, casting, plan_of, Midway, after, stepped, clashes}
use Rattle.spirv.specs.declared.page.Page.{Page}
use Rattle.spirv.specs.Page.{look_of, wrote, clashed, entered}
use Rattle.spirv.proofs.Keys.{keys, kinds_of, kind-among}
use Rattle.spirv.proofs.Listed.{ltb-suc, listed-place}
use Rattle.spirv.proofs.Entries.{Fair}
use Rattle.spirv.proofs.Simulation.{FairFrom}
use Rattle.spirv.proofs.Naming.{naming, plan-names}
use Rattle.spirv.proofs.Linked.{Same, Like, refs-same, entry-like, names-grow, names-le, entered_all, next_grows}
use Rattle.spirv.proofs.Partial.{grown-all, grown-new, listed_more, plan-few, clash-few}

-- ---- an entry's constant is listed once it is there
listed-last : (l : List Const) (k : Const) → listed (l ++ (k ∷ [])) k ≡ true
unfolding listed
listed-last [] k = rw (eq-eqb k.kind k.kind refl, eq-eqb k.bits k.bits refl)
listed-last (c ∷ l) k = rw (listed-last l k) (or-true (same c k))

one : (l : List Const) (k : Const) → all (listed (with_new l (k ∷ []))) (k ∷ []) ≡ true
unfolding with_new
one l k = go (listed l k) refl
  where
    go : (b : Bool) → listed l k ≡ b → listed (cond b l (l ++ (k ∷ []))) k && true ≡ true
    go true h = rw h
    go false h = rw (listed-last l k)

new-listed : (l : List Const) (e : Entry) → all (listed (with_new l (const_of e))) (const_of e) ≡ true
unfolding const_of
new-listed l (Of.Bare k) = go (eqb k 2 || eqb k 3)
  where
    go : (b : Bool) → all (listed (with_new l (cond b (const k 0 ∷ []) []))) (cond b (const k 0 ∷ []) []) ≡ true
    go true = one l (const k 0)
    go false = refl
new-listed l (Of.Word w) = one l (const 1 w)
new-listed l (Of.Cell k n) = refl
new-listed l (Of.Store k n r) = refl
new-listed l (Of.One k a) = refl
new-listed l (Of.Two k a b) = refl
new-listed l (Of.Three k a b c) = refl
new-listed l (Of.Four k a b c d) = refl

-- each entry with the constants so far
unfoldable pub entered_part : List ℕ → ℕ → List Const → Page → List Entry → Page
entered_part table bound l p [] = p
entered_part table bound l p (e ∷ es) = entered_part table bound (with_new l (const_of e)) (entered (given table bound (with_new l (const_of e))) p e) es

-- ---- the ids of words: constants' so far, or the body's
module _ (table : List ℕ) (bound from : ℕ) where
  abbrev Told : List Const → ℕ → Type 0
  Told l i = ltb i (bound + length l) || leb from i ≡ true

  told_more : (l l' : List Const) (i : ℕ) → length l ≤ length l' → Told l i → Told l' i
  told_more l l' i n h = go (ltb i (bound + length l)) refl h
    where
      go : (b : Bool) → ltb i (bound + length l) ≡ b → b || leb from i ≡ true → Told l' i
      go true p h = let a = ltb-true i (bound + length l) p in rw (lt-ltb i (bound + length l') (omega arith))
      go false p h = rw h (or-true (ltb i (bound + length l')))

  told_same : (l : List Const) (i j : ℕ) → i ≡ j → Told l j → Told l i
  told_same l i j p h = rw p h

  told-new : (l : List Const) (i : ℕ) → from ≤ i → Told l i
  told-new l i h = rw (le-leb from i h) (or-true (ltb i (bound + length l)))

  told-const : (l r : List Const) (k : Const) → listed l k ≡ true → Told l (const_id (given table bound (l ++ r)) k)
  unfolding const_id
  told-const l r k h =
      let m = (listed_more l r k h).1 in
      let p = ltb-true (place_of l k) (length l) (sym (listed-place l k) ∙ h) in
      rw (m, lt-ltb (bound + place_of l k) (bound + length l) (omega arith))

  -- each word's
  abbrev Wordy : List Const → List ℕ → List Name → Type 0
  Wordy l before ns = (r : ℕ) → names before 1 r ≡ true → Told l (name_at ns r).id

  -- a plan gives a word such a name
  abbrev KnownTold : List Const → Plan → Type 0
  KnownTold l Silent = Unit {0}
  KnownTold l (Known x) = Told l x.id
  KnownTold l (Made op t xs s) = Unit {0}
  KnownTold l (Stores p v) = Unit {0}
  KnownTold l (Opens c) = Unit {0}
  KnownTold l Closes = Unit {0}

  planned-told : (l : List Const) (i : ℕ) (o : Op) (t : ℕ) (xs : List ℕ) (s : Bool) → KnownTold l (planned i o t xs s)
  unfolding planned
  planned-told l i (Core n) t xs s = tt
  planned-told l i (Glsl n) t xs s = tt

  module _ (l r : List Const) (before : List ℕ) (look : ℕ → Name) (words : (k : ℕ) → names before 1 k ≡ true → Told l (look k).id) where
    abbrev g : Given
    g = given table bound (l ++ r)

    abbrev Named : Entry → ℕ → Type 0
    Named e k = (format_of k).result ≡ 1 → KnownTold l (plan_of g look e)

    no_word : (n : ℕ) → eqb n 1 ≡ false → n ≡ 1 → ⊥
    no_word n p q = eqb-false n 1 p q

    cast-told : (k a : ℕ) → names before 1 a ≡ true → KnownTold l (casting g look k a)
    unfolding casting
    cast-told k a h = go (xor (eqb k 23) (look a).signed)
      where
        go : (b : Bool) → KnownTold l (cond b (planned (lent g 4) (op_of k) (type_id g 1 (eqb k 23)) ((look a).id ∷ []) (eqb k 23)) (Known (look a)))
        go true = planned-told l (lent g 4) (op_of k) _ _ _
        go false = words a h

    plan-told : (e : Entry) → Fair g before e → all (listed l) (const_of e) ≡ true → (format_of (kind_of e)).result ≡ 1 → KnownTold l (plan_of g look e)
    unfolding plan_of operation const_of kind_of body_of body_number format_of refs_of refs_pass
    plan-told (Of.Bare k) f c h =
        keys (λ (k : ℕ). (format_of k).result ≡ 1 → KnownTold l (plan_of g look (Of.Bare k))) (kinds_of 1) k (kind-among k (Of.Bare k) f.body) ((λ q. absurd (no_word 2 refl q)), ((λ q. absurd (no_word 2 refl q)), ((λ q. tt), ((λ q. tt), tt)))) h
    plan-told (Of.Word w) f c h = told-const l r (const 1 w) (and_left (listed l (const 1 w)) _ c)
    plan-told (Of.Cell k n) f c h =
        keys (λ (k : ℕ). (format_of k).result ≡ 1 → KnownTold l (plan_of g look (Of.Cell k n))) (kinds_of 3) k (kind-among k (Of.Cell k n) f.body) ((λ q. tt), ((λ q. tt), ((λ q. tt), ((λ q. absurd (no_word 3 refl q)), ((λ q. tt), tt))))) h
    plan-told (Of.Store k n x) f c h = tt
    plan-told (Of.One k a) f c h = go (eqb k 12) (eqb k 100) (eqb k 23 || eqb k 24) refl
      where
        word-cast : eqb k 23 || eqb k 24 ≡ true → names before 1 a ≡ true
        word-cast p = by (eqb k 23) refl p
          where
            by : (b : Bool) → eqb k 23 ≡ b → b || eqb k 24 ≡ true → names before 1 a ≡ true
            by true q p = and_left (names before 1 a) true (rw (eqb-true k 23 q) at f.refs)
            by false q p = and_left (names before 1 a) true (rw (eqb-true k 24 p) at f.refs)

        go : (x y z : Bool) → eqb k 23 || eqb k 24 ≡ z → KnownTold l (cond x (Made 61 (type_id g 1 false) ((look a).id ∷ []) false) (cond y (Opens (look a).id) (cond z (casting g look k a) (operation g look k (a ∷ [])))))
        go true y z p = tt
        go false true z p = tt
        go false false true p = cast-told k a (word-cast p)
        go false false false p = planned-told l (lent g 4) (op_of k) _ _ _
    plan-told (Of.Two k a b) f c h = planned-told l (lent g 4) (op_of k) _ _ _
    plan-told (Of.Three k x y z) f c h = planned-told l (lent g 4) (op_of k) _ _ _
    plan-told (Of.Four k x y z u) f c h = go (eqb k 11)
      where
        go : (b : Bool) → KnownTold l (cond b (Made 65 (type_id g 4 false) ((look x).id ∷ (look y).id ∷ (look z).id ∷ (look u).id ∷ []) false) (operation g look k (x ∷ y ∷ z ∷ u ∷ [])))
        go true = tt
        go false = planned-told l (lent g 4) (op_of k) _ _ _

  -- ---- all entries
  -- one name more
  names-suc : (b : ℕ) (bs : List ℕ) (r : ℕ) → names (b ∷ bs) 1 (suc r) ≡ names bs 1 r
  unfolding names
  names-suc b bs r = ap (λ (t : Bool). t && eqb (get_or bs r 0) 1) (sym (ltb-suc r (length bs)))

  wordy-snoc : (l l' : List Const) → length l ≤ length l' → (x : Name) (k : ℕ) → (k ≡ 1 → Told l' x.id) → (before : List ℕ) (ns : List Name) → length ns ≡ length before → Wordy l before ns → Wordy l' (before ++ (k ∷ [])) (ns ++ (x ∷ []))
  unfolding names name_at
  wordy-snoc l l' n x k t [] [] e w zero h = t (eqb-true k 1 (and_right (ltb 0 1) _ h))
  wordy-snoc l l' n x k t [] [] e w (suc r) h = let q = ltb-true (suc r) 1 (and_left (ltb (suc r) 1) _ h) in absurd (omega arith)
  wordy-snoc l l' n x k t [] (y ∷ ns) e w r h = absurd (omega arith)
  wordy-snoc l l' n x k t (b ∷ bs) [] e w r h = absurd (omega arith)
  wordy-snoc l l' n x k t (b ∷ bs) (y ∷ ns) e w zero h =
      told_more l l' y.id n (w zero (rw (lt-ltb 0 (suc (length bs)) (omega arith)) (and_right (ltb 0 (suc (length (bs ++ (k ∷ []))))) _ h)))
  wordy-snoc l l' n x k t (b ∷ bs) (y ∷ ns) e w (suc r) h =
      wordy-snoc l l' n x k t bs ns (omega arith) (λ j q. w (suc j) (names-suc b bs j ∙ q)) r (sym (names-suc b (bs ++ (k ∷ [])) r) ∙ h)

  -- the names after a plan
  wordy-on : (l l' : List Const) (before : List ℕ) (m : Midway) (plan : Plan) (k : ℕ) → length l ≤ length l' → length m.names ≡ length before → from ≤ m.next → Wordy l before m.names → (k ≡ 1 → KnownTold l' plan)
      → naming plan ≡ not (eqb k 0) → Wordy l' (before ++ cond (eqb k 0) [] (k ∷ [])) (after m plan).names
  unfolding after naming
  wordy-on l l' before m plan k n e f w t z = go plan (eqb k 0) z t
    where
      still : Wordy l' (before ++ []) m.names
      still r h = told_more l l' (name_at m.names r).id n (w r (rw (append-nil before) at h))

      go : (plan : Plan) (b : Bool) → naming plan ≡ not b → (k ≡ 1 → KnownTold l' plan) → Wordy l' (before ++ cond b [] (k ∷ [])) (after m plan).names
      go Silent true z t = still
      go Silent false z t = absurd (false≢true z)
      go (Known x) true z t = absurd (true≢false z)
      go (Known x) false z t = wordy-snoc l l' n x k t before m.names e w
      go (Made op ty xs s) true z t = absurd (true≢false z)
      go (Made op ty xs s) false z t = wordy-snoc l l' n (name m.next s) k (λ q. told-new l' m.next f) before m.names e w
      go (Stores p v) true z t = still
      go (Stores p v) false z t = absurd (false≢true z)
      go (Opens c) true z t = still
      go (Opens c) false z t = absurd (false≢true z)
      go Closes true z t = still
      go Closes false z t = absurd (false≢true z)

  module _ (full : List Const) (cs : List ℕ) (fits : bound + length full ≤ from) where
    abbrev all_known : Given
    all_known = given table bound full

    entered-same : (g h : Given) (p : Page) (e : Entry) → plan_of g (look_of p.names) e ≡ plan_of h (look_of p.names) e → clashes g (look_of p.names) e ≡ clashes h (look_of p.names) e → entered g p e ≡ entered h p e
    unfolding entered
    entered-same g h p e a b = ap₂ (λ (x : Bool) (z : Plan). clashed x (wrote p z)) b a

    told-plan : (l r : List Const) → full ≡ l ++ r → (before : List ℕ) (look : ℕ → Name) → ((k : ℕ) → names before 1 k ≡ true → Told l (look k).id) → (e : Entry) → Fair all_known before e → all (listed l) (const_of e) ≡ true → (format_of (kind_of e)).result ≡ 1 → KnownTold l (plan_of all_known look e)
    told-plan l r is before look w e f c h = rw is (plan-told l r before look w e (rw is at f) c h)

    -- the zero of an address is a word
    zero-told : (l l' : List Const) → length l ≤ length l' → (before : List ℕ) (m : Midway) (p : Page) (e : Entry) → Fair all_known before e → Wordy l before m.names → Same (look_of p.names) (name_at m.names) (refs_of e)
        → (a b c d : ℕ) → e ≡ Of.Four 11 a b c d → Told l' (look_of p.names b).id
    unfolding refs_of kind_of format_of refs_pass
    zero-told l l' n before m p e f w refs a b c d is =
        let same-refs : Same (look_of p.names) (name_at m.names) (a ∷ b ∷ c ∷ d ∷ []) = rw is at refs in
        let pass : refs_pass (names before) (3 ∷ 1 ∷ 1 ∷ 1 ∷ []) (a ∷ b ∷ c ∷ d ∷ []) ≡ true = rw is at f.refs in
        let word : names before 1 b ≡ true = and_left (names before 1 b) _ (and_right (names before 3 a) _ pass) in
        told_more l l' (look_of p.names b).id n (told_same l (look_of p.names b).id (name_at m.names b).id (ap (λ (x : Name). x.id) same-refs.1.0) (w b word))

    pub part-is : (es : List Entry) (l : List Const) (before : List ℕ) (m : Midway) (p : Page) → Like m p → FairFrom all_known cs before es → constants_from l es ≡ full → length m.names ≡ length before → length m.names + length es ≤ 64
        → m.next + 2 * length es < 2 ^ 64 → from ≤ m.next → Wordy l before m.names → entered_part table bound l p es ≡ entered_all all_known p es
    unfolding entered_part entered_all constants_from makes
    part-is [] l before m p k f c e n h low w = refl
    part-is (e ∷ es) l before m p k f c len n h low w =
        let l' : List Const = with_new l (const_of e) in
        let a = grown-new (const_of e) l in
        let longer : length l ≤ length l' = let x = ap length a.1 ∙ length-append l a.0 in omega arith in
        let b = grown-all es l' in
        let is : full ≡ l' ++ b.0 = sym c ∙ b.1 in
        let refs = refs-same all_known before m p k len e f.0 in
        let look : ℕ → Name = look_of p.names in
        let few-fits : bound + length (l' ++ b.0) ≤ from = rw is at fits in
        let plan : plan_of (given table bound l') look e ≡ plan_of all_known look e = plan-few table bound l' b.0 look e (new-listed l e) ∙ ap (λ (x : List Const). plan_of (given table bound x) look e) (sym is) in
        let bad : clashes (given table bound l') look e ≡ clashes all_known look e = clash-few table bound l' b.0 look from few-fits e (zero-told l l' longer before m p e f.0 w refs) ∙ ap (λ (x : List Const). clashes (given table bound x) look e) (sym is) in
        let same-entry : entered (given table bound l') p e ≡ entered all_known p e = entered-same (given table bound l') all_known p e plan bad in
        let up = next_grows m (plan_of all_known (name_at m.names) e) in
        let most = names-le m (plan_of all_known (name_at m.names) e) in
        let room : length m.names < 64 = omega arith in
        ap (λ (x : Page). entered_part table bound l' x es) same-entry
        ∙ part-is es l' (before ++ makes e) (stepped all_known m e) (entered all_known p e) (entry-like all_known m p k room (omega arith) e refs) f.1 c
        (names-grow m (plan_of all_known (name_at m.names) e) (kind_of e) before (plan-names all_known (name_at m.names) e f.0.body) len) (omega arith) (omega arith) (omega (arith, up.0))
        (wordy-on l l' before m (plan_of all_known (name_at m.names) e) (format_of (kind_of e)).result longer len low w
        (λ q. told-plan l' b.0 is before (name_at m.names) (λ j x. told_more l l' (name_at m.names j).id longer (w j x)) e f.0 (new-listed l e) q) (plan-names all_known (name_at m.names) e f.0.body))
