-- Types along a strip's body: what each id stands for, entry after entry.
use Rattle.std.proofs.Common.{◌≡◌, ℕ, zero, suc, ◌+◌, ◌<◌, ◌≤◌, Bool, true, false, cond, not, ◌&&◌, eqb, ltb, List, [], ◌∷◌, ◌++◌, map, length, get_or, refl, ap, ◌∙◌, ap₂, arith, ltb-true, le-ltb, lt-ltb, eq-eqb, ne_eqb, eqb-true}
use mathlib.Core.Option.{some}
use mathlib.Core.Bool.{xor, false≢true}
use borrow.Author.Tests.{not-true, not-false}
use Rattle.strip.specs.declared.reader.Entry.{Entry}
use Rattle.strip.specs.declared.reader.Entry.TheVariants as Of
use Rattle.strip.specs.Format.{format_of}
use Rattle.strip.specs.Entry.{kind_of, cells_of, refs_of, body_of}
use Rattle.strip.specs.Shape.{all, cell_ok, names, refs_pass}
use Rattle.strip.proofs.Tests.{among, and_left, and_right}
use Rattle.strip.proofs.Table.{body_number}
use Rattle.evaluation.proofs.Laws.{cond-all}
use Rattle.spirv.specs.declared.opcodes.Op.{Op}
use Rattle.spirv.specs.declared.opcodes.Op.TheVariants.{Core, Glsl}
use Rattle.spirv.specs.declared.plan.Name.{Name}
use Rattle.spirv.specs.Opcodes.{op_of}
use Rattle.spirv.specs.Reading.{Thing}
use Rattle.spirv.specs.Writer.{Const, const, const_of, listed, Given, lent, type_id, const_id, name, name_at, id_at, Plan, Silent, Known, Made, Stores, Opens, Closes, first_sign, sign_of, planned, operation, casting, plan_of, Midway, clashes}
use Rattle.spirv.specs.Lent.{role_of, sort_of}
use Rattle.spirv.specs.Valid.{Sort, Unnamed, TypeIs, SetIs, Variable, Block, Typed, Zero, Label, Sorts, type_number, value_type, pointee, is_block, is_unnamed, rule_ok, rule_of, core_rules, fit_all, result, types, check_store, check_load, check_chain, check_op, check_core, check_glsl, checked}
use Rattle.spirv.proofs.Keys.{keys, kinds_of, kind-among}
use Rattle.spirv.proofs.Ops.{plain, plain-is, plain_op}
use Rattle.spirv.proofs.Entries.{Fair, in-range}
use Rattle.spirv.proofs.Validity.{num_of, numbers, sign_in, op_sign, op_rule, ok_op, one-rule, two-rule, three-rule, insert-rule}

-- what stands at place j of the table
abbrev pub sort_role : ℕ → Sort
sort_role j = sort_of (role_of j)

unfoldable pub const_sort : Const → Sort
const_sort k = cond (eqb k.kind 1) (cond (eqb k.bits 0) Zero (Typed 0)) (Typed 2)

-- an id of a value of this kind and sign
unfoldable pub sort_fits : ℕ → Bool → Sort → Bool
sort_fits k s t = cond (eqb k 3) (is_block t) (eqb (value_type t) (num_of k s))

-- one id more
abbrev pub more : Sorts → ℕ → Sort → Sorts
more T i s = λ j. cond (eqb j i) s (T j)

abbrev pub SRel : ℕ → Sorts → List Name → List ℕ → Type 0
SRel n T [] [] = Unit {0}
SRel n T [] (k ∷ ks) = ⊥
SRel n T (x ∷ ns) [] = ⊥
SRel n T (x ∷ ns) (k ∷ ks) = ((x.id < n) × (sort_fits k x.signed (T x.id) ≡ true)) × SRel n T ns ks

srel-at : (n : ℕ) (T : Sorts) (ns : List Name) (ks : List ℕ) → SRel n T ns ks → (r : ℕ) → r < length ks → (id_at ns r < n) × (sort_fits (get_or ks r 0) (name_at ns r).signed (T (id_at ns r)) ≡ true)
unfolding name_at
srel-at n T [] [] h r l = absurd (omega arith)
srel-at n T [] (k ∷ ks) h r l = absurd h
srel-at n T (x ∷ ns) [] h r l = absurd h
srel-at n T (x ∷ ns) (k ∷ ks) h zero l = h.0
srel-at n T (x ∷ ns) (k ∷ ks) h (suc r) l = srel-at n T ns ks h.1 r (omega arith)

pub srel-push : (n : ℕ) (T : Sorts) (ns : List Name) (ks : List ℕ) → SRel n T ns ks → (x : Name) (k : ℕ) → x.id < n → sort_fits k x.signed (T x.id) ≡ true → SRel n T (ns ++ (x ∷ [])) (ks ++ (k ∷ []))
srel-push n T [] [] h x k l p = ((l, p), tt)
srel-push n T [] (j ∷ ks) h x k l p = absurd h
srel-push n T (y ∷ ns) [] h x k l p = absurd h
srel-push n T (y ∷ ns) (j ∷ ks) h x k l p = (h.0, srel-push n T ns ks h.1 x k l p)

pub more-old : (T : Sorts) (i : ℕ) (s : Sort) (j : ℕ) → (j ≡ i → ⊥) → more T i s j ≡ T j
more-old T i s j h = rw (ne_eqb j i h)

pub more-new : (T : Sorts) (i : ℕ) (s : Sort) → more T i s i ≡ s
more-new T i s = rw (eq-eqb i i refl)

pub srel-more : (n : ℕ) (T : Sorts) (ns : List Name) (ks : List ℕ) → SRel n T ns ks → (s : Sort) → SRel (suc n) (more T n s) ns ks
srel-more n T [] [] h s = tt
srel-more n T [] (j ∷ ks) h s = absurd h
srel-more n T (y ∷ ns) [] h s = absurd h
srel-more n T (y ∷ ns) (j ∷ ks) h s =
    let l : y.id < n = h.0.0 in
    ((omega arith, ap (sort_fits j y.signed) (more-old T n s y.id (λ (e : y.id ≡ n). absurd (omega arith))) ∙ h.0.1), srel-more n T ns ks h.1 s)

pub srel-next : (n : ℕ) (T : Sorts) (ns : List Name) (ks : List ℕ) → SRel n T ns ks → SRel (suc n) T ns ks
srel-next n T [] [] h = tt
srel-next n T [] (j ∷ ks) h = absurd h
srel-next n T (y ∷ ns) [] h = absurd h
srel-next n T (y ∷ ns) (j ∷ ks) h = let l : y.id < n = h.0.0 in ((omega arith, h.0.1), srel-next n T ns ks h.1)

pub record SWorld (g : Given) (T₀ : Sorts) (start : ℕ) : Type 0 where
  pub lents : (j : ℕ) → j < 303 → (lent g j < start) × (T₀ (lent g j) ≡ sort_role j)
  pub consts : (k : Const) → listed g.constants k ≡ true → (const_id g k < start) × (T₀ (const_id g k) ≡ const_sort k)

pub record SFits (T₀ : Sorts) (start : ℕ) (before : List ℕ) (w : Midway) (T : Sorts) : Type 0 where
  pub rel : SRel w.next T w.names before
  pub old : (i : ℕ) → i < start → T i ≡ T₀ i
  pub above : start ≤ w.next
  pub fresh : (i : ℕ) → w.next ≤ i → T i ≡ Unnamed

-- a cast to the other sign keeps OpBitcast's rule
cast-rule : (k : ℕ) (s : Bool) → among (23 ∷ 24 ∷ []) k ≡ true → xor (eqb k 23) s ≡ true → rule_ok (op_rule (op_of k)) (num_of 1 (eqb k 23)) (num_of 1 s ∷ []) ≡ true
unfolding op_rule op_of rule_of rule_ok fit_all num_of xor
cast-rule k s p = keys (λ (k : ℕ). xor (eqb k 23) s ≡ true → rule_ok (op_rule (op_of k)) (num_of 1 (eqb k 23)) (num_of 1 s ∷ []) ≡ true) (23 ∷ 24 ∷ []) k p (to-signed s, (to-unsigned s, tt))
  where
    to-signed : (s : Bool) → xor (eqb 23 23) s ≡ true → rule_ok (op_rule (op_of 23)) (num_of 1 (eqb 23 23)) (num_of 1 s ∷ []) ≡ true
    to-signed true h = absurd (false≢true h)
    to-signed false h = refl

    to-unsigned : (s : Bool) → xor (eqb 24 23) s ≡ true → rule_ok (op_rule (op_of 24)) (num_of 1 (eqb 24 23)) (num_of 1 s ∷ []) ≡ true
    to-unsigned true h = refl
    to-unsigned false h = absurd (false≢true h)

module _ (g : Given) (T₀ : Sorts) (start : ℕ) (world : SWorld g T₀ start) (before : List ℕ) (w : Midway) (T : Sorts) (fit : SFits T₀ start before w T) where
  lent-sort : (j : ℕ) → j < 303 → (lent g j < w.next) × (T (lent g j) ≡ sort_role j)
  lent-sort j l =
      let a = world.lents j l in
      let low : lent g j < start = a.0 in
      let up : start ≤ w.next = fit.above in
      (omega arith, fit.old (lent g j) low ∙ a.1)

  -- the ids of types
  type-number : (k : ℕ) (s : Bool) → type_number (T (type_id g k s)) ≡ num_of k s
  unfolding num_of type_number role_of sort_of
  type-number k s = go (eqb k 2) (eqb k 4) s
    where
      go : (a b c : Bool) → type_number (T (cond a (lent g 2) (cond b (lent g 3) (cond c (lent g 1) (lent g 0))))) ≡ cond a 2 (cond b 3 (cond c 1 0))
      go true b c = ap type_number (lent-sort 2 (omega arith)).1
      go false true c = ap type_number (lent-sort 3 (omega arith)).1
      go false false true = ap type_number (lent-sort 1 (omega arith)).1
      go false false false = ap type_number (lent-sort 0 (omega arith)).1

  -- what references name
  ref-sort : (k r : ℕ) → names before k r ≡ true → (id_at w.names r < w.next) × (sort_fits k (name_at w.names r).signed (T (id_at w.names r)) ≡ true)
  unfolding names
  ref-sort k r p =
      let l = ltb-true r (length before) (and_left (ltb r (length before)) _ p) in
      let e = eqb-true (get_or before r 0) k (and_right (ltb r (length before)) _ p) in
      rw e at (srel-at w.next T w.names before fit.rel r l)

  ref-type : (k r : ℕ) → eqb k 3 ≡ false → names before k r ≡ true → value_type (T (id_at w.names r)) ≡ num_of k (name_at w.names r).signed
  unfolding sort_fits
  ref-type k r n p = eqb-true _ _ (rw n at (ref-sort k r p).1)

  types_are : (os rs : List ℕ) → all (λ k. not (eqb k 3)) os ≡ true → refs_pass (names before) os rs ≡ true → types T (map (id_at w.names) rs) ≡ numbers os (map (λ r. (name_at w.names r).signed) rs)
  unfolding refs_pass numbers
  types_are [] [] n p = refl
  types_are [] (r ∷ rs) n p = absurd (false≢true p)
  types_are (k ∷ os) [] n p = absurd (false≢true p)
  types_are (k ∷ os) (r ∷ rs) n p =
      ap₂ (λ (v : ℕ) (vs : List ℕ). v ∷ vs) (ref-type k r (not-true (eqb k 3) (and_left (not (eqb k 3)) _ n)) (and_left (names before k r) _ p))
      (types_are os rs (and_right (not (eqb k 3)) _ n) (and_right (names before k r) _ p))

  first-is : (look : ℕ → Name) (os rs : List ℕ) → first_sign look os rs ≡ sign_in os (map (λ r. (look r).signed) rs)
  unfolding first_sign sign_in
  first-is look [] rs = refl
  first-is look (k ∷ os) [] = refl
  first-is look (k ∷ os) (r ∷ rs) = ap (cond (eqb k 1) (look r).signed) (first-is look os rs)

  sign-is : (look : ℕ → Name) (k : ℕ) (rs : List ℕ) → sign_of look k rs ≡ op_sign k (map (λ r. (look r).signed) rs)
  unfolding sign_of
  sign-is look k rs = ap (λ (b : Bool). eqb (format_of k).result 1 && b) (first-is look (format_of k).operands rs)

  -- ---- a plan that the check passes; k: the kind of its value
  abbrev pub Passes : ℕ → Plan → Type 0
  Passes k Silent = Unit {0}
  Passes k (Known x) = (x.id < w.next) × (sort_fits k x.signed (T x.id) ≡ true)
  Passes k (Made op t xs s) = (checked T op (t ∷ w.next ∷ xs) ≡ some (more T w.next (Typed (num_of k s)))) × (eqb k 3 ≡ false)
  Passes k (Stores p v) = checked T 62 (p ∷ v ∷ []) ≡ some T
  Passes k (Opens c) = value_type (T c) ≡ 2
  Passes k Closes = Unit {0}

  free-next : is_unnamed (T w.next) ≡ true
  free-next = rw (fit.fresh w.next (omega arith))

  result-is : (ok : Bool) (s : Sort) → ok ≡ true → result ok T w.next s ≡ some (more T w.next s)
  unfolding result
  result-is ok s p = rw (p, free-next)

  -- OpLabel is no operation
  no_label : (n t : ℕ) (vs : List ℕ) → rule_ok (rule_of core_rules n) t vs ≡ true → eqb n 248 ≡ false
  unfolding rule_ok rule_of
  no_label n t vs h = go (eqb n 248) refl
    where
      go : (b : Bool) → eqb n 248 ≡ b → b ≡ false
      go true p = absurd (false≢true (rw (eqb-true n 248 p) at h))
      go false p = refl

  op-passes : (op : Op) (k : ℕ) (s : Bool) (xs : List ℕ) → plain op ≡ true → eqb k 3 ≡ false → rule_ok (op_rule op) (num_of k s) (types T xs) ≡ true → Passes k (planned (lent g 4) op (type_id g k s) xs s)
  unfolding planned op_rule checked check_core check_glsl check_op plain role_of sort_of
  op-passes (Core n) k s xs p z e =
      let o = plain-is n p in
      (rw (o.const, o.yes, o.no, o.load, o.store, o.chain, o.extended, o.merge, o.choice, o.branch, no_label n _ _ e, type-number k s) (result-is _ _ e), z)
  op-passes (Glsl n) k s xs p z e = (rw ((lent-sort 4 (omega arith)).1, type-number k s) (result-is _ _ e), z)

  operation-passes : (k : ℕ) (rs : List ℕ) → all (λ j. not (eqb j 3)) (format_of k).operands ≡ true → eqb (format_of k).result 3 ≡ false → refs_pass (names before) (format_of k).operands rs ≡ true
      → ok_op k (map (λ r. (name_at w.names r).signed) rs) ≡ true → Passes (format_of k).result (operation g (name_at w.names) k rs)
  unfolding operation ok_op
  operation-passes k rs n z r ok =
      rw (sign-is (name_at w.names) k rs)
      (op-passes (op_of k) (format_of k).result (op_sign k (map (λ r. (name_at w.names r).signed) rs)) (map (id_at w.names) rs) (plain_op k) z (rw (types_are (format_of k).operands rs n r) ok))

  -- ---- every entry
  const-sort : (k : Const) → listed g.constants k ≡ true → (const_id g k < w.next) × (T (const_id g k) ≡ const_sort k)
  const-sort k l =
      let a = world.consts k l in
      let low : const_id g k < start = a.0 in
      let up : start ≤ w.next = fit.above in
      (omega arith, fit.old (const_id g k) low ∙ a.1)

  const-passes : (k : Const) (j : ℕ) → sort_fits j false (const_sort k) ≡ true → listed g.constants k && true ≡ true → Passes j (Known (name (const_id g k) false))
  const-passes k j h l = let a = const-sort k (and_left (listed g.constants k) _ l) in (a.0, rw a.1 h)

  abbrev BareOk : ℕ → Type 0
  BareOk k = all (listed g.constants) (const_of (Of.Bare k)) ≡ true → Passes (format_of k).result (plan_of g (name_at w.names) (Of.Bare k))

  bare-ok : (k : ℕ) → among (kinds_of 1) k ≡ true → BareOk k
  unfolding plan_of const_of format_of const_sort sort_fits num_of value_type
  bare-ok k p = keys BareOk (kinds_of 1) k p ((λ l. const-passes (const 2 0) 2 refl l), ((λ l. const-passes (const 3 0) 2 refl l), ((λ l. tt), ((λ l. tt), tt))))

  word_ok : (x : ℕ) → listed g.constants (const 1 x) && true ≡ true → Passes 1 (Known (name (const_id g (const 1 x)) false))
  unfolding const_sort sort_fits num_of value_type
  word_ok x l = const-passes (const 1 x) 1 (cond-all (λ (t : Sort). sort_fits 1 false t ≡ true) (eqb x 0) Zero (Typed 0) refl refl) l

  role-words : (n : ℕ) → n < 255 → sort_role (5 + n) ≡ Variable 0
  unfolding role_of sort_of
  role-words n l = rw (le-ltb (5 + n) 4 (omega arith), ne_eqb (5 + n) 4 (λ (e : 5 + n ≡ 4). absurd (omega arith)), lt-ltb (5 + n) 260 (omega arith))

  role-truths : (j : ℕ) → 260 ≤ j → j < 271 → sort_role j ≡ Variable 2
  unfolding role_of sort_of
  role-truths j a l = rw (le-ltb j 4 (omega arith), ne_eqb j 4 (λ (e : j ≡ 4). absurd (omega arith)), le-ltb j 260 (omega arith), lt-ltb j 271 (omega arith)) (cond-all (λ (t : Thing). sort_of t ≡ Variable 2) (ltb j 267) _ _ refl refl)

  role-block : (n : ℕ) → n < 32 → sort_role (271 + n) ≡ Block
  unfolding role_of sort_of
  role-block n l = rw (le-ltb (271 + n) 4 (omega arith), ne_eqb (271 + n) 4 (λ (e : 271 + n ≡ 4). absurd (omega arith)), le-ltb (271 + n) 260 (omega arith), le-ltb (271 + n) 267 (omega arith), le-ltb (271 + n) 271 (omega arith), lt-ltb (271 + n) 303 (omega arith))

  load_ok : (k p : ℕ) → eqb k 3 ≡ false → pointee (T p) ≡ num_of k false → Passes k (Made 61 (type_id g k false) (p ∷ []) false)
  unfolding checked check_load
  load_ok k p z h = (rw (type-number k false) (result-is _ _ (eq-eqb _ _ h)), z)

  abbrev CellOk : ℕ → ℕ → Type 0
  CellOk n k = cell_ok (format_of k) (Of.Cell k n) ≡ true → Passes (format_of k).result (plan_of g (name_at w.names) (Of.Cell k n))

  cell-ok : (k n : ℕ) → among (kinds_of 3) k ≡ true → CellOk n k
  unfolding plan_of cell_ok cells_of format_of pointee num_of sort_fits
  cell-ok k n p = keys (CellOk n) (kinds_of 3) k p (
    (λ c. let l = in-range 0 255 n c in load_ok 1 (lent g (5 + n)) refl (ap pointee ((lent-sort (5 + n) (omega arith)).1 ∙ role-words n l))),
    (
      (λ c. let l = in-range 0 7 n c in load_ok 2 (lent g (260 + n)) refl (ap pointee ((lent-sort (260 + n) (omega arith)).1 ∙ role-truths (260 + n) (omega arith) (omega arith)))),
      (
        (λ c. let l = in-range 0 4 n c in load_ok 2 (lent g (267 + n)) refl (ap pointee ((lent-sort (267 + n) (omega arith)).1 ∙ role-truths (267 + n) (omega arith) (omega arith)))),
        (
          (λ c. let l = in-range 0 32 n c in let a = lent-sort (271 + n) (omega arith) in (a.0, ap is_block (a.1 ∙ role-block n l))),
          ((λ c. tt), tt),
        ),
      ),
    ),
  )

  store_ok : (j v t : ℕ) → j < 303 → sort_role j ≡ Variable t → value_type (T v) ≡ t → Passes 0 (Stores (lent g j) v)
  unfolding checked check_store pointee
  store_ok j v t l r h = rw ((lent-sort j l).1, r, h, eq-eqb t t refl)

  abbrev StoreOk : ℕ → ℕ → ℕ → Type 0
  StoreOk n r k = cell_ok (format_of k) (Of.Store k n r) ≡ true → refs_pass (names before) (format_of k).operands (r ∷ []) ≡ true → eqb k 7 && (name_at w.names r).signed ≡ false → Passes (format_of k).result (plan_of g (name_at w.names) (Of.Store k n r))

  store-each : (k n r : ℕ) → among (kinds_of 4) k ≡ true → StoreOk n r k
  unfolding plan_of cell_ok cells_of format_of refs_pass num_of
  store-each k n r p = keys (StoreOk n r) (kinds_of 4) k p (
    (λ c q s. let l = in-range 0 255 n c in store_ok (5 + n) _ 0 (omega arith) (role-words n l) (rw s at (ref-type 1 r refl (and_left (names before 1 r) _ q)))),
    (
      (λ c q s. let l = in-range 0 7 n c in store_ok (260 + n) _ 2 (omega arith) (role-truths (260 + n) (omega arith) (omega arith)) (ref-type 2 r refl (and_left (names before 2 r) _ q))),
      (
        (λ c q s. let l = in-range 0 4 n c in store_ok (267 + n) _ 2 (omega arith) (role-truths (267 + n) (omega arith) (omega arith)) (ref-type 2 r refl (and_left (names before 2 r) _ q))),
        tt,
      ),
    ),
  )

  pointer_is : (s : Sort) → value_type s ≡ 3 → pointee s ≡ 0
  unfolding value_type pointee
  pointer_is (Typed n) h = rw h
  pointer_is Zero h = absurd (omega arith)
  pointer_is Unnamed h = absurd (omega arith)
  pointer_is (TypeIs n) h = absurd (omega arith)
  pointer_is SetIs h = absurd (omega arith)
  pointer_is (Variable n) h = absurd (omega arith)
  pointer_is Block h = absurd (omega arith)
  pointer_is Label h = absurd (omega arith)

  cast_ok : (k a : ℕ) → among (23 ∷ 24 ∷ []) k ≡ true → names before 1 a && true ≡ true → Passes 1 (casting g (name_at w.names) k a)
  unfolding casting
  cast_ok k a p q = go (xor (eqb k 23) (name_at w.names a).signed) refl
    where
      n : names before 1 a ≡ true
      n = and_left (names before 1 a) _ q

      go : (b : Bool) → xor (eqb k 23) (name_at w.names a).signed ≡ b → Passes 1 (cond b (planned (lent g 4) (op_of k) (type_id g 1 (eqb k 23)) (id_at w.names a ∷ []) (eqb k 23)) (Known (name_at w.names a)))
      go true h = op-passes (op_of k) 1 (eqb k 23) (id_at w.names a ∷ []) (plain_op k) refl (rw (ref-type 1 a refl n) (cast-rule k (name_at w.names a).signed p h))
      go false h = ref-sort 1 a n

  abbrev OneOk : ℕ → ℕ → Type 0
  OneOk a k = refs_pass (names before) (format_of k).operands (a ∷ []) ≡ true → Passes (format_of k).result (plan_of g (name_at w.names) (Of.One k a))

  one_ok : (k a : ℕ) → among (kinds_of 5) k ≡ true → OneOk a k
  unfolding plan_of format_of refs_pass num_of
  one_ok k a p = keys (OneOk a) (kinds_of 5) k p (
    (λ r. load_ok 1 (id_at w.names a) refl (pointer_is (T (id_at w.names a)) (ref-type 4 a refl (and_left (names before 4 a) _ r)))),
    (
      (λ r. operation-passes 20 (a ∷ []) refl refl r (one-rule 20 refl _)),
      (
        (λ r. operation-passes 21 (a ∷ []) refl refl r (one-rule 21 refl _)),
        (
          (λ r. operation-passes 22 (a ∷ []) refl refl r (one-rule 22 refl _)),
          (
            (λ r. cast_ok 23 a refl r),
            (
              (λ r. cast_ok 24 a refl r),
              (
                (λ r. operation-passes 25 (a ∷ []) refl refl r (one-rule 25 refl _)),
                (
                  (λ r. operation-passes 26 (a ∷ []) refl refl r (one-rule 26 refl _)),
                  (
                    (λ r. operation-passes 27 (a ∷ []) refl refl r (one-rule 27 refl _)),
                    (
                      (λ r. operation-passes 80 (a ∷ []) refl refl r (one-rule 80 refl _)),
                      ((λ r. ref-type 2 a refl (and_left (names before 2 a) _ r)), tt),
                    ),
                  ),
                ),
              ),
            ),
          ),
        ),
      ),
    ),
  )

  abbrev Plainly : ℕ → Type 0
  Plainly k = (all (λ j. not (eqb j 3)) (format_of k).operands ≡ true) × (eqb (format_of k).result 3 ≡ false)

  two-plainly : (k : ℕ) → among (kinds_of 6) k ≡ true → Plainly k
  unfolding format_of
  two-plainly k p = keys Plainly (kinds_of 6) k p ((refl, refl), ((refl, refl), ((refl, refl), ((refl, refl), ((refl, refl), ((refl, refl), ((refl, refl), ((refl, refl), ((refl, refl), ((refl, refl), ((refl, refl), ((refl, refl), ((refl, refl), ((refl, refl), ((refl, refl), ((refl, refl), ((refl, refl), ((refl, refl), ((refl, refl), ((refl, refl), ((refl, refl), ((refl, refl), ((refl, refl), ((refl, refl), ((refl, refl), ((refl, refl), tt))))))))))))))))))))))))))

  three-plainly : (k : ℕ) → among (kinds_of 7) k ≡ true → Plainly k
  unfolding format_of
  three-plainly k p = keys Plainly (kinds_of 7) k p ((refl, refl), ((refl, refl), ((refl, refl), tt)))

  word_small : (k r : ℕ) → eqb k 1 ≡ true → names before k r ≡ true → ltb (value_type (T (id_at w.names r))) 2 ≡ true
  unfolding num_of
  word_small k r z p =
      let is = eqb-true k 1 z in
      rw (ref-type 1 r refl (rw is at p)) (go (name_at w.names r).signed)
    where
      go : (s : Bool) → ltb (cond s 1 0) 2 ≡ true
      go true = refl
      go false = refl

  chain-ok : (a z v c : ℕ) → refs_pass (names before) (3 ∷ 1 ∷ 1 ∷ 1 ∷ []) (a ∷ z ∷ v ∷ c ∷ []) ≡ true → not (listed g.constants (const 1 0) && eqb (id_at w.names z) (const_id g (const 1 0))) ≡ false
      → Passes 4 (Made 65 (type_id g 4 false) (id_at w.names a ∷ id_at w.names z ∷ id_at w.names v ∷ id_at w.names c ∷ []) false)
  unfolding checked check_chain refs_pass sort_fits const_sort num_of
  chain-ok a z v c r h =
      let q = not-false (listed g.constants (const 1 0) && eqb (id_at w.names z) (const_id g (const 1 0))) h in
      let zero-id = eqb-true (id_at w.names z) (const_id g (const 1 0)) (and_right (listed g.constants (const 1 0)) _ q) in
      let zero-sort : T (id_at w.names z) ≡ Zero = ap T zero-id ∙ (const-sort (const 1 0) (and_left (listed g.constants (const 1 0)) _ q)).1 in
      let r1 = and_right (names before 3 a) _ r in
      let r2 = and_right (names before 1 z) _ r1 in
      let base = (ref-sort 3 a (and_left (names before 3 a) _ r)).1 in
      let vec = word_small 1 v refl (and_left (names before 1 v) _ r2) in
      let comp = word_small 1 c refl (and_left (names before 1 c) _ (and_right (names before 1 v) _ r2)) in
      (rw (type-number 4 false, zero-sort) (result-is _ (Typed 3) (rw (base, vec, comp))), refl)

  abbrev FourOk : ℕ → ℕ → ℕ → ℕ → ℕ → Type 0
  FourOk a b c d k = refs_pass (names before) (format_of k).operands (a ∷ b ∷ c ∷ d ∷ []) ≡ true → clashes g (name_at w.names) (Of.Four k a b c d) ≡ false → Passes (format_of k).result (plan_of g (name_at w.names) (Of.Four k a b c d))

  four-ok : (k a b c d : ℕ) → among (kinds_of 8) k ≡ true → FourOk a b c d k
  unfolding plan_of clashes format_of
  four-ok k a b c d p = keys (FourOk a b c d) (kinds_of 8) k p (
    (λ r h. chain-ok a b c d r h),
    ((λ r h. operation-passes 93 (a ∷ b ∷ c ∷ d ∷ []) refl refl r (insert-rule _ _ _ _ h)), tt),
  )

  pub entry-passes : (e : Entry) → Fair g before e → clashes g (name_at w.names) e ≡ false → Passes (format_of (kind_of e)).result (plan_of g (name_at w.names) e)
  unfolding plan_of clashes kind_of refs_of body_of body_number const_of format_of
  entry-passes (Of.Bare k) f h = bare-ok k (kind-among k (Of.Bare k) f.body) f.consts
  entry-passes (Of.Word x) f h = word_ok x f.consts
  entry-passes (Of.Cell k n) f h = cell-ok k n (kind-among k (Of.Cell k n) f.body) f.cells
  entry-passes (Of.Store k n r) f h = store-each k n r (kind-among k (Of.Store k n r) f.body) f.cells f.refs h
  entry-passes (Of.One k a) f h = one_ok k a (kind-among k (Of.One k a) f.body) f.refs
  entry-passes (Of.Two k a b) f h = let m = kind-among k (Of.Two k a b) f.body in let q = two-plainly k m in operation-passes k (a ∷ b ∷ []) q.0 q.1 f.refs (two-rule k m _ _)
  entry-passes (Of.Three k a b c) f h = let m = kind-among k (Of.Three k a b c) f.body in let q = three-plainly k m in operation-passes k (a ∷ b ∷ c ∷ []) q.0 q.1 f.refs (three-rule k m _ _ _ h)
  entry-passes (Of.Four k a b c d) f h = four-ok k a b c d (kind-among k (Of.Four k a b c d) f.body) f.refs h
