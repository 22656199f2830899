-- The words of an accepted strip pass the check of types, run or skipped.
use Rattle.std.proofs.Common.{◌≡◌, ℕ, suc, ◌+◌, ◌<◌, ◌≤◌, Bool, true, false, cond, not, ◌||◌, eqb, List, [], ◌∷◌, ◌++◌, length, get_or, sym, refl, ap, ◌∙◌, true≢false, append-nil, arith, eq-eqb}
use mathlib.Core.Bool.{false≢true}
use borrow.Author.Tests.{not-true, not-false}
use Rattle.strip.specs.declared.reader.Entry.{Entry}
use Rattle.strip.specs.declared.reader.Entry.TheVariants as Of
use Rattle.strip.specs.Format.{format_of}
use Rattle.strip.specs.Entry.{kind_of, Each, Formed, wide}
use Rattle.strip.specs.Shape.{is_open, is_close, makes, strip_ok}
use Rattle.spirv.specs.Instr.{Instr, instr}
use Rattle.spirv.specs.Writer.{Const, same, listed, place_of, constants_of, Given, given, lent, const_id, const_instr, const_instrs, given_of, start_of, instrs_of_strip, strip_words, name, name_at, id_at, Plan, Silent, Known, Made, Stores, Opens, Closes, plan_of, Midway, instrs_by, after, stepped, body_from, clashes, clash_from, table_ok}
use Rattle.spirv.specs.Lent.{role_of, sort_of, lent_sorts}
use Rattle.spirv.specs.Valid.{Sort, Unnamed, TypeIs, Typed, Zero, Label, Sorts, type_number, value_type, result, check_const, check_truth, check_merge, check_branch, check_jump, check_label, checked, valid_from, valid}
use Rattle.spirv.proofs.Parse.{read-words}
use Rattle.spirv.proofs.Simulation.{FairFrom}
use Rattle.spirv.proofs.Naming.{naming, plan-names}
use Rattle.spirv.proofs.Shaped.{shaped-blocks, shaped-fair}
use Rattle.spirv.proofs.Walk.{blocks, Straight, straight, Bodied, bodied, by_turn}
use Rattle.spirv.proofs.Structured.{strip-structured, strip-scoped, strip-laid}
use Rattle.spirv.proofs.Theorem.{coded-strip}
use Rattle.spirv.proofs.Constants.{all_listed, same-is, table_below, table-role, table-free}
use Rattle.spirv.proofs.Validity.{num_of}
use Rattle.spirv.proofs.Sorted.{sort_role, const_sort, sort_fits, more, more-old, more-new, srel-push, srel-more, srel-next, SWorld, SFits, Passes, entry-passes}

-- ---- the body

-- in the block, the merge label's id stands for nothing yet
abbrev Held : Bool → Midway → Sorts → Type 0
Held true w T = (w.merge < w.next) × (T w.merge ≡ Unnamed)
Held false w T = Unit {0}

held_on : (i : Bool) (w v : Midway) (T T' : Sorts) → v.merge ≡ w.merge → w.next ≤ v.next → ((j : ℕ) → j < w.next → T' j ≡ T j) → Held i w T → Held i v T'
held_on true w v T T' e l s h = let low : w.merge < w.next = h.0 in (omega arith, ap T' e ∙ s w.merge low ∙ h.1)
held_on false w v T T' e l s h = tt

module _ (g : Given) (cs : List ℕ) (T₀ : Sorts) (start : ℕ) (world : SWorld g T₀ start) where
  module _ (before : List ℕ) (w : Midway) (T : Sorts) (fit : SFits T₀ start before w T) (es : List Entry) where
    abbrev grown : ℕ → List ℕ
    grown k = before ++ cond (eqb k 0) [] (k ∷ [])

    abbrev Rest : Bool → ℕ → Plan → Type 0
    Rest i k plan = (T' : Sorts) → SFits T₀ start (grown k) (after w plan) T' → Held i (after w plan) T' → valid_from (body_from g (after w plan) es) T' ≡ true

    stays : (k : ℕ) → false ≡ not (eqb k 0) → SFits T₀ start (grown k) w T
    stays k n =
        let e = not-false (eqb k 0) (sym n) in
        rw (e, append-nil before) fit

    fits-self : (k : ℕ) (s : Bool) → eqb k 3 ≡ false → sort_fits k s (Typed (num_of k s)) ≡ true
    unfolding sort_fits value_type
    fits-self k s z = rw (z, eq-eqb (num_of k s) (num_of k s) refl)

    -- an id more
    more-next : (s : Sort) (j : ℕ) → j < w.next → more T w.next s j ≡ T j
    more-next s j l = more-old T w.next s j (λ (q : j ≡ w.next). absurd (omega arith))

    more-above : (s : Sort) (j : ℕ) → w.next < j → more T w.next s j ≡ Unnamed
    more-above s j l = more-old T w.next s j (λ (q : j ≡ w.next). absurd (omega arith)) ∙ fit.fresh j (omega arith)

    by-plan : (i : Bool) (k : ℕ) (plan : Plan) → Straight plan → Held i w T → Passes g T₀ start world before w T fit k plan → naming plan ≡ not (eqb k 0) → Rest i k plan
        → valid_from (instrs_by w plan ++ body_from g (after w plan) es) T ≡ true
    unfolding instrs_by after naming valid_from
    by-plan i k Silent s h p n r = r T (stays k n) h
    by-plan i k (Known x) s h p n r =
        let e = not-true (eqb k 0) (sym n) in
        r T
        (rw e (record { rel = srel-push w.next T w.names before fit.rel x k p.0 p.1; old = fit.old; above = fit.above; fresh = fit.fresh }))
        (held_on i w (after w (Known x)) T T refl (omega arith) (λ j l. refl) h)
    by-plan i k (Made op t xs b) s h p n r =
        let e = not-true (eqb k 0) (sym n) in
        let up : start ≤ w.next = fit.above in
        let T' : Sorts = more T w.next (Typed (num_of k b)) in
        rw p.0 (r T'
        (rw e (record {
          rel = srel-push (suc w.next) T' w.names before (srel-more w.next T w.names before fit.rel (Typed (num_of k b))) (name w.next b) k (omega arith) (ap (sort_fits k b) (more-new T w.next (Typed (num_of k b))) ∙ fits-self k b p.1);
          old = λ i l. more-next (Typed (num_of k b)) i (omega arith) ∙ fit.old i l;
          above = omega arith;
          fresh = λ i l. more-above (Typed (num_of k b)) i (omega arith);
        }))
        (held_on i w (after w (Made op t xs b)) T T' refl (omega arith) (λ j l. more-next (Typed (num_of k b)) j l) h))
    by-plan i k (Stores a v) s h p n r = rw p (r T (stays k n) h)
    by-plan i k (Opens c) s h p n r = absurd s
    by-plan i k Closes s h p n r = absurd s

    -- the block's label is made at once, the merge's when it closes
    open-plan : (k c : ℕ) → value_type (T c) ≡ 2 → naming (Opens c) ≡ not (eqb k 0) → Rest true k (Opens c) → valid_from (instrs_by w (Opens c) ++ body_from g (after w (Opens c)) es) T ≡ true
    unfolding instrs_by after naming valid_from checked check_merge check_branch check_label result
    open-plan k c p n r =
        let up : start ≤ w.next = fit.above in
        rw (p, fit.fresh w.next (omega arith))
        (r (more T w.next Label)
        (record {
          rel = srel-next (suc w.next) (more T w.next Label) w.names (grown k) (srel-more w.next T w.names (grown k) (stays k n).rel Label);
          old = λ i l. more-next Label i (omega arith) ∙ fit.old i l;
          above = omega arith;
          fresh = λ i l. more-above Label i (omega arith);
        })
        (omega arith, more-above Label (suc w.next) (omega arith)))

    close-plan : T w.merge ≡ Unnamed → valid_from (instrs_by w Closes) T ≡ true
    unfolding instrs_by valid_from checked check_jump check_label result
    close-plan p = rw p

  or_left : (a b : Bool) → a || b ≡ false → (a ≡ false) × (b ≡ false)
  or_left true b h = absurd (true≢false h)
  or_left false b h = (refl, h)

  abbrev Valid : Bool → List Entry → Type 0
  Valid i es = (before : List ℕ) (w : Midway) (T : Sorts) → SFits T₀ start before w T → Held i w T → FairFrom g cs before es → clash_from g w es ≡ false → valid_from (body_from g w es) T ≡ true

  abbrev Here : Bool → Entry → List Entry → Type 0
  Here i e es = ((j : Bool) → blocks j es ≡ true → Valid j es) → Valid i (e ∷ es)

  opens : (a : ℕ) (es : List Entry) → blocks true es ≡ true → Here false (Of.One 100 a) es
  unfolding body_from clash_from makes plan_of format_of kind_of
  opens a es b k before w T fit held f h =
      let no = or_left (clashes g (name_at w.names) (Of.One 100 a)) _ h in
      open-plan before w T fit es (format_of 100).result (id_at w.names a) (entry-passes g T₀ start world before w T fit (Of.One 100 a) f.0 no.0) (plan-names g (name_at w.names) (Of.One 100 a) f.0.body)
      (λ T' fit' held'. k true b (before ++ makes (Of.One 100 a)) (stepped g w (Of.One 100 a)) T' fit' held' f.1 no.1)

  closes : Here true (Of.Bare 101) (Of.Bare 255 ∷ [])
  unfolding body_from plan_of instrs_by after
  closes k before w T fit held f h = close-plan before w T fit [] held.1

  ends : Here false (Of.Bare 255) []
  unfolding body_from plan_of instrs_by valid_from
  ends k before w T fit held f h = refl

  goes : (i : Bool) (e : Entry) (es : List Entry) → is_open e ≡ false → is_close e ≡ false → blocks i es ≡ true → Here i e es
  unfolding body_from clash_from makes
  goes i e es o c b k before w T fit held f h =
      let no = or_left (clashes g (name_at w.names) e) (clash_from g (stepped g w e) es) h in
      by-plan before w T fit es i (format_of (kind_of e)).result (plan_of g (name_at w.names) e) (straight g (name_at w.names) e o c) held (entry-passes g T₀ start world before w T fit e f.0 no.0) (plan-names g (name_at w.names) e f.0.body)
      (λ T' fit' held'. k i b (before ++ makes e) (stepped g w e) T' fit' held' f.1 no.1)

  pub valid-body : (es : List Entry) → Each Bodied es → (i : Bool) → blocks i es ≡ true → Valid i es
  unfolding blocks
  valid-body [] d i b before w T fit held f h = absurd (false≢true b)
  valid-body (e ∷ es) d i b before w T fit held f h = by_turn Here opens closes ends goes i e es d b (valid-body es d.1) before w T fit held f h

-- ---- the list of constants
unfoldable pub sort_all : Sorts → ℕ → List Const → Sorts
sort_all T i [] = T
sort_all T i (k ∷ ks) = sort_all (more T i (const_sort k)) (suc i) ks

sort-old : (ks : List Const) (T : Sorts) (b i : ℕ) → i < b → sort_all T b ks i ≡ T i
unfolding sort_all
sort-old [] T b i l = refl
sort-old (k ∷ ks) T b i l = sort-old ks (more T b (const_sort k)) (suc b) i (omega arith) ∙ more-old T b (const_sort k) i (λ (e : i ≡ b). absurd (omega arith))

sort-above : (ks : List Const) (T : Sorts) (b i : ℕ) → b + length ks ≤ i → sort_all T b ks i ≡ T i
unfolding sort_all
sort-above [] T b i l = refl
sort-above (k ∷ ks) T b i l = sort-above ks (more T b (const_sort k)) (suc b) i (omega arith) ∙ more-old T b (const_sort k) i (λ (e : i ≡ b). absurd (omega arith))

sort-const : (ks : List Const) (T : Sorts) (b : ℕ) (k : Const) → listed ks k ≡ true → (place_of ks k < length ks) × (sort_all T b ks (b + place_of ks k) ≡ const_sort k)
unfolding sort_all listed place_of
sort-const [] T b k h = absurd (false≢true h)
sort-const (c ∷ ks) T b k h = go (same c k) refl h (sort-const ks (more T b (const_sort c)) (suc b) k)
  where
    go : (t : Bool) → same c k ≡ t → t || listed ks k ≡ true
        → (listed ks k ≡ true → (place_of ks k < length ks) × (sort_all (more T b (const_sort c)) (suc b) ks (suc b + place_of ks k) ≡ const_sort k))
        → (cond t 0 (suc (place_of ks k)) < suc (length ks)) × (sort_all (more T b (const_sort c)) (suc b) ks (b + cond t 0 (suc (place_of ks k))) ≡ const_sort k)
    go true p h ih =
        let z : b + 0 ≡ b = omega arith in
        (omega arith, rw z (sort-old ks (more T b (const_sort c)) (suc b) b (omega arith) ∙ more-new T b (const_sort c) ∙ ap const_sort (same-is c k p)))
    go false p h ih =
        let r = ih h in
        let l : place_of ks k < length ks = r.0 in
        let z : b + suc (place_of ks k) ≡ suc b + place_of ks k = omega arith in
        (omega arith, rw z r.1)

module _ (g : Given) where
  const-valid : (k : Const) (i : ℕ) (is : List Instr) (T : Sorts) → T (lent g 0) ≡ TypeIs 0 → T (lent g 2) ≡ TypeIs 2 → T i ≡ Unnamed → valid_from (const_instr g i k ∷ is) T ≡ valid_from is (more T i (const_sort k))
  unfolding valid_from checked check_const check_truth result type_number const_sort
  const-valid k i is T t b n = go (eqb k.kind 1) (eqb k.kind 2)
    where
      go : (x y : Bool) → valid_from (cond x (instr 43 (lent g 0 ∷ i ∷ k.bits ∷ [])) (cond y (instr 41 (lent g 2 ∷ i ∷ [])) (instr 42 (lent g 2 ∷ i ∷ []))) ∷ is) T
          ≡ valid_from is (more T i (cond x (cond (eqb k.bits 0) Zero (Typed 0)) (Typed 2)))
      go true y = rw (t, n)
      go false true = rw (b, n)
      go false false = rw (b, n)

  consts-valid : (ks : List Const) (i : ℕ) (is : List Instr) (T : Sorts) → lent g 0 < i → lent g 2 < i → T (lent g 0) ≡ TypeIs 0 → T (lent g 2) ≡ TypeIs 2 → ((j : ℕ) → i ≤ j → T j ≡ Unnamed)
      → valid_from (const_instrs g i ks ++ is) T ≡ valid_from is (sort_all T i ks)
  unfolding const_instrs sort_all
  consts-valid [] i is T l m t b n = refl
  consts-valid (k ∷ ks) i is T l m t b n =
      const-valid k i (const_instrs g (suc i) ks ++ is) T t b (n i (omega arith))
      ∙ consts-valid ks (suc i) is (more T i (const_sort k)) (omega arith) (omega arith)
      (more-old T i (const_sort k) (lent g 0) (λ (e : lent g 0 ≡ i). absurd (omega arith)) ∙ t)
      (more-old T i (const_sort k) (lent g 2) (λ (e : lent g 2 ≡ i). absurd (omega arith)) ∙ b)
      (λ j h. more-old T i (const_sort k) j (λ (e : j ≡ i). absurd (omega arith)) ∙ n j (omega arith))

-- the instructions of a strip in order that passes 17 and 10 are well typed
well_typed : (table : List ℕ) (bound : ℕ) (es : List Entry) → Each (Formed wide) es → strip_ok es ≡ true → table_ok table bound ≡ true
    → clash_from (given_of table bound es) (start_of (given_of table bound es)) es ≡ false → valid_from (instrs_of_strip table bound es) (lent_sorts table) ≡ true
unfolding instrs_of_strip given_of lent_sorts sort_of role_of const_id
well_typed table bound es f h t c =
    let ks : List Const = constants_of es in
    let g : Given = given table bound ks in
    let role : (j : ℕ) → j < 303 → lent_sorts table (get_or table j 0) ≡ sort_role j = λ j l. ap sort_of (table-role table bound t j l) in
    let free : (i : ℕ) → bound ≤ i → lent_sorts table i ≡ Unnamed = λ i l. ap sort_of (table-free table bound t i l) in
    let T : Sorts = sort_all (lent_sorts table) bound ks in
    consts-valid g ks bound (body_from g (start_of g) es) (lent_sorts table) (table_below table bound t 0 (omega arith)) (table_below table bound t 2 (omega arith)) (role 0 (omega arith)) (role 2 (omega arith)) free
    ∙ valid-body g [] T (bound + length ks)
    (record {
      lents = λ j l. let b = table_below table bound t j l in (omega arith, sort-old ks (lent_sorts table) bound (get_or table j 0) b ∙ role j l);
      consts = λ k l. let c = sort-const ks (lent_sorts table) bound k l in let p : place_of ks k < length ks = c.0 in (omega arith, c.1);
    })
    es (bodied es f) false (shaped-blocks es h) [] (start_of g) T (record { rel = tt; old = λ i l. refl; above = omega arith; fresh = λ i l. sort-above ks (lent_sorts table) bound i l ∙ free i (omega arith) }) tt
    (shaped-fair g [] es f h (all_listed es)) c

-- the words of every strip in order that passes 17 and 10 are valid
pub strip-valid : (table : List ℕ) (bound : ℕ) (es : List Entry) → Each (Formed wide) es → strip_ok es ≡ true → table_ok table bound ≡ true
    → clash_from (given_of table bound es) (start_of (given_of table bound es)) es ≡ false → valid (lent_sorts table) (strip_words table bound es) ≡ true
unfolding valid strip_words
strip-valid table bound es f h t c =
    rw (read-words (instrs_of_strip table bound es) (coded-strip table bound es), well_typed table bound es f h t c, strip-structured table bound es f h, strip-scoped table bound es f h, strip-laid table bound es f h)
