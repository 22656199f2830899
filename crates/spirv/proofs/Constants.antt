-- The list of constants and the lent table: what the body finds in the environment.
use Rattle.std.proofs.Common.{◌≡◌, ℕ, zero, suc, ◌+◌, ◌<◌, ◌≤◌, Bool, true, false, cond, not, ◌||◌, eqb, ltb, List, [], ◌∷◌, ◌++◌, length, get_or, sym, refl, ap, ◌∙◌, ap₂, true≢false, arith, ltb-true, eq-eqb, ne_eqb, eqb-true}
use mathlib.Core.Bool.{or-true, false≢true}
use borrow.Author.Tests.{not-true}
use Rattle.strip.specs.declared.reader.Entry.{Entry}
use Rattle.strip.specs.Shape.{all}
use Rattle.strip.proofs.Tests.{and_left, and_right}
use Rattle.evaluation.specs.declared.value.Value.TheVariants.{Word, Truth}
use Rattle.evaluation.specs.declared.state.State.{State}
use Rattle.spirv.specs.Instr.{Instr, instr}
use Rattle.spirv.specs.Reading.{Nothing, Types, Holds, Env, bind, typed, constant, constant_truth, act_of, Running, when_free, onward, read_from}
use Rattle.spirv.specs.Writer.{Const, const, same, const_of, listed, place_of, with_new, constants_from, constants_of, Given, lent, const_id, const_instr, const_instrs, among, distinct, lent_ok, table_ok}
use Rattle.spirv.specs.Lent.{role_of, where_in, lent_env}
use Rattle.spirv.proofs.Names.{bind-same, bind-other}
use Rattle.spirv.proofs.Entries.{const_value, World}

-- ---- every constant of the strip is listed
listed_more : (l m : List Const) (k : Const) → listed l k ≡ true → listed (l ++ m) k ≡ true
unfolding listed
listed_more [] m k h = absurd (false≢true h)
listed_more (c ∷ l) m k h = go (same c k) refl h (listed_more l m k)
  where
    go : (b : Bool) → same c k ≡ b → b || listed l k ≡ true → (listed l k ≡ true → listed (l ++ m) k ≡ true) → b || listed (l ++ m) k ≡ true
    go true p h ih = refl
    go false p h ih = ih h

listed-last : (l : List Const) (k : Const) → listed (l ++ (k ∷ [])) k ≡ true
unfolding listed
listed-last [] k = rw (eq-eqb k.kind k.kind refl, eq-eqb k.bits k.bits refl)
listed-last (c ∷ l) k = rw (listed-last l k) (or-true (same c k))

abbrev extended : List Const → Const → List Const
extended l k = cond (listed l k) l (l ++ (k ∷ []))

extended-keeps : (l : List Const) (k j : Const) → listed l j ≡ true → listed (extended l k) j ≡ true
extended-keeps l k j h = go (listed l k)
  where
    go : (b : Bool) → listed (cond b l (l ++ (k ∷ []))) j ≡ true
    go true = h
    go false = listed_more l (k ∷ []) j h

extended-has : (l : List Const) (k : Const) → listed (extended l k) k ≡ true
extended-has l k = go (listed l k) refl
  where
    go : (b : Bool) → listed l k ≡ b → listed (cond b l (l ++ (k ∷ []))) k ≡ true
    go true p = p
    go false p = listed-last l k

new-keeps : (ks l : List Const) (j : Const) → listed l j ≡ true → listed (with_new l ks) j ≡ true
unfolding with_new
new-keeps [] l j h = h
new-keeps (k ∷ ks) l j h = new-keeps ks (extended l k) j (extended-keeps l k j h)

constants-keep : (es : List Entry) (l : List Const) (j : Const) → listed l j ≡ true → listed (constants_from l es) j ≡ true
unfolding constants_from
constants-keep [] l j h = h
constants-keep (e ∷ es) l j h = constants-keep es (with_new l (const_of e)) j (new-keeps (const_of e) l j h)

-- L has what the list has
abbrev Within : List Const → List Const → Type 0
Within l L = (k : Const) → listed l k ≡ true → listed L k ≡ true

new-have : (ks l L : List Const) → Within (with_new l ks) L → all (listed L) ks ≡ true
unfolding with_new
new-have [] l L h = refl
new-have (k ∷ ks) l L h = rw (h k (new-keeps ks (extended l k) k (extended-has l k))) (new-have ks (extended l k) L h)

constants-have : (es : List Entry) (l L : List Const) → Within (constants_from l es) L → all (λ e. all (listed L) (const_of e)) es ≡ true
unfolding constants_from
constants-have [] l L h = refl
constants-have (e ∷ es) l L h =
    rw (new-have (const_of e) l L (λ k p. h k (constants-keep es (with_new l (const_of e)) k p)))
    (constants-have es (with_new l (const_of e)) L h)

pub all_listed : (es : List Entry) → all (λ e. all (listed (constants_of es)) (const_of e)) es ≡ true
all_listed es = constants-have es [] (constants_of es) (λ k h. h)

-- ---- reading the list binds each
unfoldable pub bound_all : Env → ℕ → List Const → Env
bound_all env i [] = env
bound_all env i (k ∷ ks) = bound_all (bind env i (const_value k)) (suc i) ks

pub bound-old : (ks : List Const) (env : Env) (b i : ℕ) → i < b → bound_all env b ks i ≡ env i
unfolding bound_all
bound-old [] env b i l = refl
bound-old (k ∷ ks) env b i l = bound-old ks (bind env b (const_value k)) (suc b) i (omega arith) ∙ bind-other env b (const_value k) i (λ (e : i ≡ b). absurd (omega arith))

pub same-is : (c k : Const) → same c k ≡ true → c ≡ k
same-is c k h = ap₂ (λ (a b : ℕ). const a b) (eqb-true c.kind k.kind (and_left (eqb c.kind k.kind) _ h)) (eqb-true c.bits k.bits (and_right (eqb c.kind k.kind) _ h))

pub bound-const : (ks : List Const) (env : Env) (b : ℕ) (k : Const) → listed ks k ≡ true → (place_of ks k < length ks) × (bound_all env b ks (b + place_of ks k) ≡ Holds (const_value k))
unfolding bound_all listed place_of
bound-const [] env b k h = absurd (false≢true h)
bound-const (c ∷ ks) env b k h = go (same c k) refl h (bound-const ks (bind env b (const_value c)) (suc b) k)
  where
    go : (t : Bool) → same c k ≡ t → t || listed ks k ≡ true
        → (listed ks k ≡ true → (place_of ks k < length ks) × (bound_all (bind env b (const_value c)) (suc b) ks (suc b + place_of ks k) ≡ Holds (const_value k)))
        → (cond t 0 (suc (place_of ks k)) < suc (length ks)) × (bound_all (bind env b (const_value c)) (suc b) ks (b + cond t 0 (suc (place_of ks k))) ≡ Holds (const_value k))
    go true p h ih =
        let z : b + 0 ≡ b = omega arith in
        (omega arith, rw z (bound-old ks (bind env b (const_value c)) (suc b) b (omega arith) ∙ bind-same env b (const_value c) ∙ ap (λ (j : Const). Holds (const_value j)) (same-is c k p)))
    go false p h ih =
        let r = ih h in
        let l : place_of ks k < length ks = r.0 in
        let z : b + suc (place_of ks k) ≡ suc b + place_of ks k = omega arith in
        (omega arith, rw z r.1)

module _ (g : Given) (cs : List ℕ) where
  const-reads : (k : Const) (i : ℕ) (is : List Instr) (s : State) (env : Env) → env (lent g 0) ≡ Types 0 → env i ≡ Nothing → read_from cs (const_instr g i k ∷ is) s env Running ≡ read_from cs is s (bind env i (const_value k)) Running
  unfolding read_from act_of constant constant_truth typed onward when_free const_value
  const-reads k i is s env t n = go (eqb k.kind 1) (eqb k.kind 2)
    where
      go : (a b : Bool) → read_from cs (cond a (instr 43 (lent g 0 ∷ i ∷ k.bits ∷ [])) (cond b (instr 41 (lent g 2 ∷ i ∷ [])) (instr 42 (lent g 2 ∷ i ∷ []))) ∷ is) s env Running
          ≡ read_from cs is s (bind env i (cond a (Word k.bits) (Truth b))) Running
      go true b = rw (t, n)
      go false true = rw n
      go false false = rw n

  pub consts-read : (ks : List Const) (i : ℕ) (is : List Instr) (s : State) (env : Env) → lent g 0 < i → env (lent g 0) ≡ Types 0 → ((j : ℕ) → i ≤ j → env j ≡ Nothing) → read_from cs (const_instrs g i ks ++ is) s env Running ≡ read_from cs is s (bound_all env i ks) Running
  unfolding const_instrs bound_all
  consts-read [] i is s env l t n = refl
  consts-read (k ∷ ks) i is s env l t n =
      const-reads k i (const_instrs g (suc i) ks ++ is) s env t (n i (omega arith))
      ∙ consts-read ks (suc i) is s (bind env i (const_value k)) (omega arith) (bind-other env i (const_value k) (lent g 0) (λ (e : lent g 0 ≡ i). absurd (omega arith)) ∙ t)
      (λ j h. bind-other env i (const_value k) j (λ (e : j ≡ i). absurd (omega arith)) ∙ n j (omega arith))

-- ---- the lent table
among-at : (xs : List ℕ) (j : ℕ) → j < length xs → among xs (get_or xs j 0) ≡ true
unfolding among
among-at [] j l = absurd (omega arith)
among-at (x ∷ xs) zero l = rw (eq-eqb x x refl)
among-at (x ∷ xs) (suc j) l = rw (among-at xs j (omega arith)) (or-true (eqb x (get_or xs j 0)))

-- each stands once
where-at : (xs : List ℕ) → distinct xs ≡ true → (j : ℕ) → j < length xs → where_in xs (get_or xs j 0) ≡ j
unfolding where_in distinct
where-at [] d j l = absurd (omega arith)
where-at (x ∷ xs) d zero l = rw (eq-eqb x x refl)
where-at (x ∷ xs) d (suc j) l =
    let n : among xs x ≡ false = not-true (among xs x) (and_left (not (among xs x)) _ d) in
    let there : among xs (get_or xs j 0) ≡ true = among-at xs j (omega arith) in
    let other : eqb x (get_or xs j 0) ≡ false = ne_eqb x (get_or xs j 0) (λ (e : x ≡ get_or xs j 0). true≢false (sym there ∙ ap (among xs) (sym e) ∙ n)) in
    rw (other, where-at xs (and_right (not (among xs x)) _ d) j (omega arith))

all-at : (f : ℕ → Bool) (xs : List ℕ) → all f xs ≡ true → (j : ℕ) → j < length xs → f (get_or xs j 0) ≡ true
all-at f [] h j l = absurd (omega arith)
all-at f (x ∷ xs) h zero l = and_left (f x) _ h
all-at f (x ∷ xs) h (suc j) l = all-at f xs (and_right (f x) _ h) j (omega arith)

lent_below : (b i : ℕ) → lent_ok b i ≡ true → i < b
unfolding lent_ok
lent_below b i h = ltb-true i b (and_left (ltb i b) _ (and_right (not (eqb i 0)) _ h))

pub table_below : (table : List ℕ) (bound : ℕ) → table_ok table bound ≡ true → (j : ℕ) → j < 303 → get_or table j 0 < bound
unfolding table_ok
table_below table bound h j l =
    let n : length table ≡ 303 = eqb-true (length table) 303 (and_left (eqb (length table) 303) _ h) in
    let a = and_left (all (lent_ok bound) table) _ (and_right (eqb (length table) 303) _ h) in
    let b = all-at (lent_ok bound) table a j (omega arith) in
    lent_below bound (get_or table j 0) b

table-place : (table : List ℕ) (bound : ℕ) → table_ok table bound ≡ true → (j : ℕ) → j < 303 → where_in table (get_or table j 0) ≡ j
unfolding table_ok
table-place table bound h j l =
    let n : length table ≡ 303 = eqb-true (length table) 303 (and_left (eqb (length table) 303) _ h) in
    where-at table (and_right (all (lent_ok bound) table) _ (and_right (eqb (length table) 303) _ h)) j (omega arith)

pub table-role : (table : List ℕ) (bound : ℕ) → table_ok table bound ≡ true → (j : ℕ) → j < 303 → lent_env table (get_or table j 0) ≡ role_of j
unfolding lent_env
table-role table bound h j l = ap role_of (table-place table bound h j l)

-- no lent id is at or above the bound
where-none : (xs : List ℕ) (b : ℕ) → all (lent_ok b) xs ≡ true → (i : ℕ) → b ≤ i → where_in xs i ≡ length xs
unfolding where_in
where-none [] b h i l = refl
where-none (x ∷ xs) b h i l =
    let low = lent_below b x (and_left (lent_ok b x) _ h) in
    let other : eqb x i ≡ false = ne_eqb x i (λ (e : x ≡ i). absurd (omega arith)) in
    rw (other, where-none xs b (and_right (lent_ok b x) _ h) i l)

table-absent : (table : List ℕ) (bound : ℕ) → table_ok table bound ≡ true → (i : ℕ) → bound ≤ i → where_in table i ≡ 303
unfolding table_ok
table-absent table bound h i l =
    let n : length table ≡ 303 = eqb-true (length table) 303 (and_left (eqb (length table) 303) _ h) in
    where-none table bound (and_left (all (lent_ok bound) table) _ (and_right (eqb (length table) 303) _ h)) i l ∙ n

pub table-free : (table : List ℕ) (bound : ℕ) → table_ok table bound ≡ true → (i : ℕ) → bound ≤ i → lent_env table i ≡ Nothing
unfolding lent_env role_of
table-free table bound h i l = ap role_of (table-absent table bound h i l)

pub bound-above : (ks : List Const) (env : Env) (b i : ℕ) → b + length ks ≤ i → bound_all env b ks i ≡ env i
unfolding bound_all
bound-above [] env b i l = refl
bound-above (k ∷ ks) env b i l = bound-above ks (bind env b (const_value k)) (suc b) i (omega arith) ∙ bind-other env b (const_value k) i (λ (e : i ≡ b). absurd (omega arith))

-- ---- what the body finds
pub world : (table : List ℕ) (bound : ℕ) (ks : List Const) → table_ok table bound ≡ true → World (record { table = table; bound = bound; constants = ks }) (bound_all (lent_env table) bound ks) (bound + length ks)
unfolding const_id
world table bound ks h = record {
  lents = λ j l. let b = table_below table bound h j l in (omega arith, bound-old ks (lent_env table) bound (get_or table j 0) b ∙ table-role table bound h j l);
  consts = λ k l. let c = bound-const ks (lent_env table) bound k l in let p : place_of ks k < length ks = c.0 in (omega arith, c.1);
}
