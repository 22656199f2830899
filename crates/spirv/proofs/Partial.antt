-- The list of constants grows at its end alone: what an entry is written as with the constants so far is what it is written as with all of them.
use Rattle.std.proofs.Common.{◌≡◌, ℕ, suc, ◌+◌, ◌<◌, ◌≤◌, Bool, true, false, cond, not, ◌&&◌, ◌||◌, eqb, ltb, leb, List, [], ◌∷◌, ◌++◌, length, sym, refl, ap, ◌∙◌, true≢false, append_assoc, append-nil, arith, ltb-true, ne_eqb, eqb-true, leb-true}
use mathlib.Core.Bool.{xor, false≢true}
use Rattle.strip.specs.declared.reader.Entry.{Entry}
use Rattle.strip.specs.declared.reader.Entry.TheVariants as Of
use Rattle.strip.specs.Shape.{all}
use Rattle.strip.proofs.Tests.{and_left}
use Rattle.spirv.specs.declared.plan.Name.{Name}
use Rattle.spirv.specs.Writer.{Const, const, same, const_of, listed, place_of, with_new, constants_from, Given, given, const_id, name, operation, casting, plan_of, clashes}
use Rattle.spirv.proofs.Listed.{listed-place}

-- ---- a list that grows
pub grown-new : (ks l : List Const) → (r : List Const) × (with_new l ks ≡ l ++ r)
unfolding with_new
grown-new [] l = ([], sym (append-nil l))
grown-new (k ∷ ks) l = go (listed l k) (grown-new ks l) (grown-new ks (l ++ (k ∷ [])))
  where
    go : (b : Bool) → ((r : List Const) × (with_new l ks ≡ l ++ r)) → ((r : List Const) × (with_new (l ++ (k ∷ [])) ks ≡ (l ++ (k ∷ [])) ++ r)) → (r : List Const) × (with_new (cond b l (l ++ (k ∷ []))) ks ≡ l ++ r)
    go true a b = a
    go false a b = (k ∷ b.0, b.1 ∙ append_assoc l (k ∷ []) b.0)

pub grown-all : (es : List Entry) (l : List Const) → (r : List Const) × (constants_from l es ≡ l ++ r)
unfolding constants_from
grown-all [] l = ([], sym (append-nil l))
grown-all (e ∷ es) l =
    let a = grown-new (const_of e) l in
    let b = grown-all es (with_new l (const_of e)) in
    (a.0 ++ b.0, b.1 ∙ ap (λ (k : List Const). k ++ b.0) a.1 ∙ append_assoc l a.0 b.0)

-- what is listed keeps its place, and what is not comes later
pub listed_more : (l r : List Const) (k : Const) → listed l k ≡ true → (listed (l ++ r) k ≡ true) × (place_of (l ++ r) k ≡ place_of l k)
unfolding listed place_of
listed_more [] r k h = absurd (false≢true h)
listed_more (c ∷ l) r k h = go (same c k) h (listed_more l r k)
  where
    go : (b : Bool) → b || listed l k ≡ true → (listed l k ≡ true → (listed (l ++ r) k ≡ true) × (place_of (l ++ r) k ≡ place_of l k))
        → (b || listed (l ++ r) k ≡ true) × (cond b 0 (suc (place_of (l ++ r) k)) ≡ cond b 0 (suc (place_of l k)))
    go true h ih = (refl, refl)
    go false h ih = ((ih h).0, ap suc (ih h).1)

later : (l r : List Const) (k : Const) → listed l k ≡ false → length l ≤ place_of (l ++ r) k
unfolding listed place_of
later [] r k h = omega arith
later (c ∷ l) r k h = go (same c k) h (later l r k)
  where
    go : (b : Bool) → b || listed l k ≡ false → (listed l k ≡ false → length l ≤ place_of (l ++ r) k) → suc (length l) ≤ cond b 0 (suc (place_of (l ++ r) k))
    go true h ih = absurd (true≢false h)
    go false h ih = let i = ih h in omega arith

module _ (table : List ℕ) (bound : ℕ) (l r : List Const) where
  abbrev few : Given
  few = given table bound l

  abbrev many : Given
  many = given table bound (l ++ r)

  const-same : (k : Const) → listed l k ≡ true → const_id few k ≡ const_id many k
  unfolding const_id
  const-same k h = ap (λ (i : ℕ). bound + i) (sym (listed_more l r k h).1)

  pub plan-few : (look : ℕ → Name) (e : Entry) → all (listed l) (const_of e) ≡ true → plan_of few look e ≡ plan_of many look e
  unfolding plan_of operation casting const_of
  plan-few look (Of.Bare k) h = go (eqb k 2 || eqb k 3) h
    where
      go : (b : Bool) → all (listed l) (cond b (const k 0 ∷ []) []) ≡ true
          → cond b (Rattle.spirv.specs.Writer.Known (name (const_id few (const k 0)) false)) (cond (eqb k 101) Rattle.spirv.specs.Writer.Closes Rattle.spirv.specs.Writer.Silent)
          ≡ cond b (Rattle.spirv.specs.Writer.Known (name (const_id many (const k 0)) false)) (cond (eqb k 101) Rattle.spirv.specs.Writer.Closes Rattle.spirv.specs.Writer.Silent)
      go true h = rw (const-same (const k 0) (and_left (listed l (const k 0)) _ h))
      go false h = refl
  plan-few look (Of.Word w) h = rw (const-same (const 1 w) (and_left (listed l (const 1 w)) _ h))
  plan-few look (Of.Cell k n) h = refl
  plan-few look (Of.Store k n x) h = refl
  plan-few look (Of.One k a) h = refl
  plan-few look (Of.Two k a b) h = refl
  plan-few look (Of.Three k a b c) h = refl
  plan-few look (Of.Four k a b c d) h = refl

  -- the id of a word: a constant's so far, or one of the body
  abbrev pub Told : ℕ → ℕ → Type 0
  Told from i = ltb i (bound + length l) || leb from i ≡ true

  zero-few : (from i : ℕ) → bound + length (l ++ r) ≤ from → Told from i
      → listed l (const 1 0) && eqb i (const_id few (const 1 0)) ≡ listed (l ++ r) (const 1 0) && eqb i (const_id many (const 1 0))
  unfolding const_id
  zero-few from i f t = go (listed l (const 1 0)) refl
    where
      go : (b : Bool) → listed l (const 1 0) ≡ b → b && eqb i (bound + place_of l (const 1 0)) ≡ listed (l ++ r) (const 1 0) && eqb i (bound + place_of (l ++ r) (const 1 0))
      go true h = let m = listed_more l r (const 1 0) h in rw (m.0, m.1)
      go false h = sym (absent (listed (l ++ r) (const 1 0)) refl)
        where
          absent : (c : Bool) → listed (l ++ r) (const 1 0) ≡ c → c && eqb i (bound + place_of (l ++ r) (const 1 0)) ≡ false
          absent false q = refl
          absent true q =
              let p = later l r (const 1 0) h in
              let w = ltb-true (place_of (l ++ r) (const 1 0)) (length (l ++ r)) (sym (listed-place (l ++ r) (const 1 0)) ∙ q) in
              ne_eqb i (bound + place_of (l ++ r) (const 1 0)) (λ (e : i ≡ bound + place_of (l ++ r) (const 1 0)). other (ltb i (bound + length l)) refl t e p w)
            where
              other : (b : Bool) → ltb i (bound + length l) ≡ b → b || leb from i ≡ true → i ≡ bound + place_of (l ++ r) (const 1 0) → length l ≤ place_of (l ++ r) (const 1 0) → place_of (l ++ r) (const 1 0) < length (l ++ r) → ⊥
              other true x y e p w = let z = ltb-true i (bound + length l) x in absurd (omega arith)
              other false x y e p w = let z = leb-true from i y in absurd (omega arith)

  pub clash-few : (look : ℕ → Name) (from : ℕ) → bound + length (l ++ r) ≤ from → (e : Entry) → ((a b c d : ℕ) → e ≡ Of.Four 11 a b c d → Told from (look b).id) → clashes few look e ≡ clashes many look e
  unfolding clashes
  clash-few look from f (Of.Bare k) h = refl
  clash-few look from f (Of.Word w) h = refl
  clash-few look from f (Of.Cell k n) h = refl
  clash-few look from f (Of.Store k n x) h = refl
  clash-few look from f (Of.One k a) h = refl
  clash-few look from f (Of.Two k a b) h = refl
  clash-few look from f (Of.Three k a b c) h = refl
  clash-few look from f (Of.Four k a b c d) h = go (eqb k 11) refl
    where
      go : (x : Bool) → eqb k 11 ≡ x
          → cond x (not (listed l (const 1 0) && eqb (look b).id (const_id few (const 1 0)))) (eqb k 93 && xor (look a).signed (look b).signed)
          ≡ cond x (not (listed (l ++ r) (const 1 0) && eqb (look b).id (const_id many (const 1 0)))) (eqb k 93 && xor (look a).signed (look b).signed)
      go true x = ap not (zero-few from (look b).id f (h a b c d (ap (λ (j : ℕ). Of.Four j a b c d) (eqb-true k 11 x))))
      go false x = refl
