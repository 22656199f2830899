-- References name values of the right kind: code is typed by the kinds of its levels, and what typed code builds passes the strip's test on references.
use mathlib.Core.Path.{◌≡◌, refl, sym, ap, ◌∙◌}
use mathlib.Core.Bool.{Bool, true, false, cond, not, ◌&&◌, ◌||◌}
use mathlib.Core.List.{List, [], ◌∷◌, ◌++◌, map, append_assoc, append-nil}
use Prim.Native.Nat.{ℕ, zero, suc, ◌<◌}
use native.Mathlib.Omega.{arith}
use lib.Dec.{eqb, ltb}
use lib.ListN.{length, length-append, get_or-append}
use lib.Seq.{get_or-append_seam}
use borrow.Author.Tests.{ltb-true, lt-ltb, eqb-true, eq-eqb, not-true}
use Rattle.strip.specs.declared.reader.Entry.{Entry}
use Rattle.strip.specs.Format.{format_of}
use Rattle.strip.specs.Entry.{kind_of, refs_of, body_of}
use Rattle.strip.specs.Shape.{all, is_open, is_close, is_end, makes, names, refs_pass, refs_ok}
use Rattle.strip.proofs.Tests.{and_left, and_right}
use Rattle.strip.proofs.Table.{body_number}
use Rattle.strip.proofs.Run.{all_append}
use Rattle.translation.specs.Code.{Code, ret, op, act, call, mark, ite, renamed, at, ats, Built, prefixed, build}

-- ---- the check, on code alone

-- the kind of the value that an entry makes, 0 for none
abbrev pub result_kind : Entry → ℕ
result_kind e = (format_of (kind_of e)).result

-- neither open, close nor end
abbrev pub inner : Entry → Bool
inner e = not (is_open e) && (not (is_close e) && not (is_end e))

-- its group is the one that the table gives its kind
abbrev pub bodied : Entry → Bool
bodied e = eqb (body_number (format_of (kind_of e)).body) (body_number (body_of e))

-- well-formed where its references name things of the kinds ks
abbrev pub ordered : List ℕ → Entry → Bool
ordered ks e = inner e && (bodied e && refs_pass (names ks) (format_of (kind_of e)).operands (refs_of e))

-- the kind of code's result, by the kinds of its arguments
unfoldable pub kind : List ℕ → Code → ℕ
kind ks (ret l) = at ks l
kind ks (op e k) = kind (ks ++ (result_kind e ∷ [])) k
kind ks (act e k) = kind ks k
kind ks (call c ls k) = kind (ks ++ (kind (ats ks ls) c ∷ [])) k
kind ks (mark s n k) = kind ks k
kind ks (ite b c d) = cond (eqb (kind ks c) (kind ks d)) (kind ks c) (cond b (kind ks c) (kind ks d))

unfoldable pub typed : List ℕ → Code → Bool
typed ks (ret l) = ltb l (length ks)
typed ks (op e k) = ordered ks e && (not (eqb (result_kind e) 0) && typed (ks ++ (result_kind e ∷ [])) k)
typed ks (act e k) = ordered ks e && (eqb (result_kind e) 0 && typed ks k)
typed ks (call c ls k) = all (λ l. ltb l (length ks)) ls && (typed (ats ks ls) c && typed (ks ++ (kind (ats ks ls) c ∷ [])) k)
typed ks (mark s n k) = typed ks k
typed ks (ite b c d) = typed ks c && typed ks d

-- Closed code names only its own levels, n at the start; an entry of an `op` makes a value, one of an `act` stores or notes.
abbrev pub gives_value : Entry → Bool
gives_value (Entry.Bare k) = eqb k 2 || eqb k 3
gives_value (Entry.Word w) = true
gives_value (Entry.Cell k n) = not (eqb k 110)
gives_value (Entry.Store k n r) = false
gives_value (Entry.One k a) = not (eqb k 100)
gives_value (Entry.Two k a b) = true
gives_value (Entry.Three k a b c) = true
gives_value (Entry.Four k a b c d) = true

abbrev pub gives_none : Entry → Bool
gives_none (Entry.Bare k) = false
gives_none (Entry.Word w) = false
gives_none (Entry.Cell k n) = eqb k 110
gives_none (Entry.Store k n r) = true
gives_none (Entry.One k a) = false
gives_none (Entry.Two k a b) = false
gives_none (Entry.Three k a b c) = false
gives_none (Entry.Four k a b c d) = false

abbrev pub within : ℕ → List ℕ → Bool
within n ls = all (λ l. ltb l n) ls

unfoldable pub closed : ℕ → Code → Bool
closed n (ret l) = ltb l n
closed n (op e k) = gives_value e && (within n (refs_of e) && closed (suc n) k)
closed n (act e k) = gives_none e && (within n (refs_of e) && closed n k)
closed n (call c ls k) = within n ls && (closed (length ls) c && closed (suc n) k)
closed n (mark s u k) = closed n k
closed n (ite b c d) = closed n c && closed n d

-- ---- names, in longer lists

names_more : (before more : List ℕ) (k r : ℕ) → names before k r ≡ true → names (before ++ more) k r ≡ true
unfolding names
names_more before more k r h =
    let l : r < length before = ltb-true r (length before) (and_left (ltb r (length before)) _ h) in
    let m : r < length (before ++ more) = rw (length-append before more) (omega arith) in
    rw (lt-ltb r (length (before ++ more)) m, get_or-append before more 0 r l) (and_right (ltb r (length before)) _ h)

names-last : (before : List ℕ) (k : ℕ) → names (before ++ (k ∷ [])) k (length before) ≡ true
unfolding names
names-last before k =
    let m : length before < length (before ++ (k ∷ [])) = rw (length-append before (k ∷ [])) (omega arith) in
    rw (lt-ltb (length before) (length (before ++ (k ∷ []))) m, get_or-append_seam before k [] 0) (eq-eqb k k refl)

-- ---- what levels stand for: each a value of its kind

abbrev pub Stand : List ℕ → List ℕ → List ℕ → Type 0
Stand before [] [] = Unit {0}
Stand before [] (r ∷ rs) = ⊥
Stand before (k ∷ ks) [] = ⊥
Stand before (k ∷ ks) (r ∷ rs) = (names before k r ≡ true) × Stand before ks rs

stand-at : (before ks rs : List ℕ) → Stand before ks rs → (l : ℕ) → l < length ks → names before (at ks l) (at rs l) ≡ true
stand-at before [] rs s l h = absurd (omega arith)
stand-at before (k ∷ ks) [] s l h = absurd s
stand-at before (k ∷ ks) (r ∷ rs) s zero h = s.0
stand-at before (k ∷ ks) (r ∷ rs) s (suc l) h = stand-at before ks rs s.1 l (omega arith)

stand-names : (before ks rs : List ℕ) → Stand before ks rs → (k l : ℕ) → names ks k l ≡ true → names before k (at rs l) ≡ true
unfolding names
stand-names before ks rs s k l h =
    let e : at ks l ≡ k = eqb-true (at ks l) k (and_right (ltb l (length ks)) _ h) in
    rw (← e) (stand-at before ks rs s l (ltb-true l (length ks) (and_left (ltb l (length ks)) _ h)))

stand-more : (before more ks rs : List ℕ) → Stand before ks rs → Stand (before ++ more) ks rs
stand-more before more [] [] s = tt
stand-more before more [] (r ∷ rs) s = s
stand-more before more (k ∷ ks) [] s = s
stand-more before more (k ∷ ks) (r ∷ rs) s = (names_more before more k r s.0, stand-more before more ks rs s.1)

stand-last : (before ks rs : List ℕ) (k r : ℕ) → Stand before ks rs → names before k r ≡ true → Stand before (ks ++ (k ∷ [])) (rs ++ (r ∷ []))
stand-last before [] [] k r s h = (h, tt)
stand-last before [] (x ∷ rs) k r s h = absurd s
stand-last before (y ∷ ks) [] k r s h = absurd s
stand-last before (y ∷ ks) (x ∷ rs) k r s h = (s.0, stand-last before ks rs k r s.1 h)

stand-ats : (before ks rs : List ℕ) → Stand before ks rs → (ls : List ℕ) → all (λ l. ltb l (length ks)) ls ≡ true → Stand before (ats ks ls) (ats rs ls)
stand-ats before ks rs s [] h = tt
stand-ats before ks rs s (l ∷ ls) h =
    (stand-at before ks rs s l (ltb-true l (length ks) (and_left (ltb l (length ks)) _ h)), stand-ats before ks rs s ls (and_right (ltb l (length ks)) _ h))

-- ---- entries under other references

-- kind and body stay, and each reference is renamed
renamed-is : (f : ℕ → ℕ) (e : Entry) → (kind_of (renamed f e) ≡ kind_of e) × (body_of (renamed f e) ≡ body_of e) × (refs_of (renamed f e) ≡ map f (refs_of e))
unfolding kind_of body_of refs_of
renamed-is f (Entry.Bare k) = (refl, refl, refl)
renamed-is f (Entry.Word w) = (refl, refl, refl)
renamed-is f (Entry.Cell k n) = (refl, refl, refl)
renamed-is f (Entry.Store k n r) = (refl, refl, refl)
renamed-is f (Entry.One k a) = (refl, refl, refl)
renamed-is f (Entry.Two k a b) = (refl, refl, refl)
renamed-is f (Entry.Three k a b c) = (refl, refl, refl)
renamed-is f (Entry.Four k a b c d) = (refl, refl, refl)

pass-map : (f : ℕ → ℕ) (t u : ℕ → ℕ → Bool) → ((k r : ℕ) → t k r ≡ true → u k (f r) ≡ true) → (ks rs : List ℕ) → refs_pass t ks rs ≡ true → refs_pass u ks (map f rs) ≡ true
unfolding refs_pass
pass-map f t u g [] [] h = refl
pass-map f t u g [] (r ∷ rs) h = h
pass-map f t u g (k ∷ ks) [] h = h
pass-map f t u g (k ∷ ks) (r ∷ rs) h = rw (g k r (and_left (t k r) _ h)) (pass-map f t u g ks rs (and_right (t k r) _ h))

-- ---- the kinds of the values that entries make

abbrev pub made : List Entry → List ℕ
made [] = []
made (e ∷ es) = makes e ++ made es

made-append : (es fs : List Entry) → made (es ++ fs) ≡ made es ++ made fs
made-append [] fs = refl
made-append (e ∷ es) fs = ap (λ (l : List ℕ). makes e ++ l) (made-append es fs) ∙ sym (append_assoc (makes e) (made es) (made fs))

pub refs-append : (before : List ℕ) (es fs : List Entry) → refs_ok before es ≡ true → refs_ok (before ++ made es) fs ≡ true → refs_ok before (es ++ fs) ≡ true
unfolding refs_ok
refs-append before [] fs h i = rw (← append-nil before) i
refs-append before (e ∷ es) fs h i =
    let t = refs_pass (names before) (format_of (kind_of e)).operands (refs_of e) in
    rw (and_left t _ h) (refs-append (before ++ makes e) es fs (and_right t _ h) (rw (append_assoc before (makes e) (made es)) i))

-- ---- typed code

-- what it builds after values of the kinds `before`
pub record Sound (before ks : List ℕ) (c : Code) (b : Built) : Type 0 where
  pub inside : all inner b.entries ≡ true
  pub bodies : all bodied b.entries ≡ true
  pub refs : refs_ok before b.entries ≡ true
  pub next : b.next ≡ length (before ++ made b.entries)
  pub result : names (before ++ made b.entries) (kind ks c) b.result ≡ true

retyped : {before ks ks' : List ℕ} {c c' : Code} {b : Built} → kind ks c ≡ kind ks' c' → Sound before ks c b → Sound before ks' c' b
retyped q x = record { inside = x.inside; bodies = x.bodies; refs = x.refs; next = x.next; result = rw (← q) x.result }

-- an entry in front
module _ (before ks rs : List ℕ) (s : Stand before ks rs) (e : Entry) (h : ordered ks e ≡ true) where
  abbrev e' : Entry
  e' = renamed (at rs) e

  front : (c k : Code) (ls : List ℕ) (b : Built) → kind ls k ≡ kind ks c → Sound (before ++ makes e') ls k b → Sound before ks c (prefixed (e' ∷ []) b)
  unfolding refs_ok
  front c k ls b q x =
      let same = renamed-is (at rs) e in
      let i = and_left (inner e) _ h in
      let r = and_right (inner e) _ h in
      let passes = pass-map (at rs) (names ks) (names before) (stand-names before ks rs s) (format_of (kind_of e)).operands (refs_of e) (and_right (bodied e) _ r) in
      record {
        inside = rw (same.0, i) x.inside;
        bodies = rw (same.0, same.1, and_left (bodied e) _ r) x.bodies;
        refs = rw (same.0, same.2, passes) x.refs;
        next = x.next ∙ ap length (append_assoc before (makes e') (made b.entries));
        result = rw (← q, ← append_assoc before (makes e') (made b.entries)) x.result;
      }

  makes_one : not (eqb (result_kind e) 0) ≡ true → makes e' ≡ result_kind e ∷ []
  unfolding makes
  makes_one n = rw ((renamed-is (at rs) e).0, not-true (eqb (result_kind e) 0) n) refl

  makes_none : eqb (result_kind e) 0 ≡ true → makes e' ≡ []
  unfolding makes
  makes_none n = rw ((renamed-is (at rs) e).0, n) refl

-- code, and then what follows it
joined : (before ks ls : List ℕ) (c k w : Code) (b d : Built) → kind ls k ≡ kind ks w → (args : List ℕ) → Sound before args c b → Sound (before ++ made b.entries) ls k d → Sound before ks w (prefixed b.entries d)
joined before ks ls c k w b d q args x y =
    let m : before ++ made (b.entries ++ d.entries) ≡ (before ++ made b.entries) ++ made d.entries = rw (made-append b.entries d.entries) (sym (append_assoc before (made b.entries) (made d.entries))) in
    record {
      inside = all_append inner b.entries d.entries x.inside y.inside;
      bodies = all_append bodied b.entries d.entries x.bodies y.bodies;
      refs = refs-append before b.entries d.entries x.refs y.refs;
      next = y.next ∙ ap length (sym m);
      result = rw (m, ← q) y.result;
    }

kind-then : (x y : ℕ) → cond (eqb x y) x x ≡ x
kind-then x y = go (eqb x y)
  where
    go : (b : Bool) → cond b x x ≡ x
    go true = refl
    go false = refl

kind-else : (x y : ℕ) → cond (eqb x y) x y ≡ y
kind-else x y = go (eqb x y) refl
  where
    go : (b : Bool) → eqb x y ≡ b → cond b x y ≡ y
    go true e = eqb-true x y e
    go false e = refl

pub length_last : {A : Type 0} (l : List A) (x : A) → length (l ++ (x ∷ [])) ≡ suc (length l)
length_last l x = length-append l (x ∷ []) ∙ omega arith

pub no-refs : (before : List ℕ) → refs_ok before [] ≡ true
unfolding refs_ok
no-refs before = refl

pub sound : (c : Code) (before ks rs : List ℕ) → Stand before ks rs → typed ks c ≡ true → Sound before ks c (build c rs (length before))
unfolding build typed kind
sound (ret l) before ks rs s h = record {
  inside = refl;
  bodies = refl;
  refs = no-refs before;
  next = ap length (sym (append-nil before));
  result = rw (append-nil before) (stand-at before ks rs s l (ltb-true l (length ks) h));
}
sound (op e k) before ks rs s h =
    let o = and_left (ordered ks e) _ h in
    let t = and_right (ordered ks e) _ h in
    let n = result_kind e in
    let m = makes_one before ks rs s e o (and_left (not (eqb n 0)) _ t) in
    let more = before ++ (n ∷ []) in
    let x = sound k more (ks ++ (n ∷ [])) (rs ++ (length before ∷ [])) (stand-last more ks rs n (length before) (stand-more before (n ∷ []) ks rs s) (names-last before n)) (and_right (not (eqb n 0)) _ t) in
    front before ks rs s e o (op e k) k (ks ++ (n ∷ [])) (build k (rs ++ (length before ∷ [])) (suc (length before))) refl (rw (m, ← length_last before n) x)
sound (act e k) before ks rs s h =
    let o = and_left (ordered ks e) _ h in
    let t = and_right (ordered ks e) _ h in
    let m = makes_none before ks rs s e o (and_left (eqb (result_kind e) 0) _ t) in
    front before ks rs s e o (act e k) k ks (build k rs (length before)) refl (rw (m, append-nil before) (sound k before ks rs s (and_right (eqb (result_kind e) 0) _ t)))
sound (call c ls k) before ks rs s h =
    let o = and_left (all (λ l. ltb l (length ks)) ls) _ h in
    let t = and_right (all (λ l. ltb l (length ks)) ls) _ h in
    let b = build c (ats rs ls) (length before) in
    let n = kind (ats ks ls) c in
    let x = sound c before (ats ks ls) (ats rs ls) (stand-ats before ks rs s ls o) (and_left (typed (ats ks ls) c) _ t) in
    let more = before ++ made b.entries in
    let y = sound k more (ks ++ (n ∷ [])) (rs ++ (b.result ∷ [])) (stand-last more ks rs n b.result (stand-more before (made b.entries) ks rs s) x.result) (and_right (typed (ats ks ls) c) _ t) in
    joined before ks (ks ++ (n ∷ [])) c k (call c ls k) b (build k (rs ++ (b.result ∷ [])) b.next) refl (ats ks ls) x (rw x.next y)
sound (mark u n k) before ks rs s h = retyped refl (sound k before ks rs s h)
sound (ite true c d) before ks rs s h = retyped (sym (kind-then (kind ks c) (kind ks d))) (sound c before ks rs s (and_left (typed ks c) _ h))
sound (ite false c d) before ks rs s h = retyped (sym (kind-else (kind ks c) (kind ks d))) (sound d before ks rs s (and_right (typed ks c) _ h))
