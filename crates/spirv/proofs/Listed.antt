-- The list of constants in an array.
use Rattle.std.proofs.Common.{◌≡◌, ℕ, suc, ◌+◌, ◌<◌, ◌≤◌, Bool, true, false, cond, not, ◌||◌, ltb, List, [], ◌∷◌, ◌++◌, map, length, take, set, Some, None, if◌then◌else◌, sym, refl, ap, ◌∙◌, true≢false, arith, ltb-false, ltb-true, le-ltb, lt-ltb, eq-eqb, length-take-le, take-suc-set}
use mathlib.Core.List.{map-append}
use Rattle.std.specs.Prelude.{Option}
use Rattle.std.specs.List.{position_or_len}
use Rattle.spirv.specs.declared.given.Constant.{Constant}
use Rattle.spirv.specs.declared.given.Constant.TheVariants.{Word, True, False}
use Rattle.spirv.specs.contracts.given.ConstantPartialEq.TheImpl.{ghosts}
use Rattle.spirv.specs.Writer.{Const, same, listed, place_of, with_new}
use Rattle.spirv.specs.Page.{constant}

-- constants are equal where the definition's are
equal : (x y : Constant) → ghosts.eq x y ≡ same (constant x) (constant y)
equal (Word w) (Word v) = refl
equal (Word w) True = refl
equal (Word w) False = refl
equal True (Word v) = refl
equal True True = refl
equal True False = refl
equal False (Word v) = refl
equal False True = refl
equal False False = refl

-- ---- listed or not
pub ltb-suc : (a b : ℕ) → ltb a b ≡ ltb (suc a) (suc b)
ltb-suc a b = go (ltb a b) refl
  where
    go : (t : Bool) → ltb a b ≡ t → t ≡ ltb (suc a) (suc b)
    go true p = let l = ltb-true a b p in sym (lt-ltb (suc a) (suc b) (omega arith))
    go false p = let l = ltb-false a b p in sym (le-ltb (suc a) (suc b) (omega arith))

pub listed-place : (ks : List Const) (k : Const) → listed ks k ≡ ltb (place_of ks k) (length ks)
unfolding listed place_of
listed-place [] k = refl
listed-place (c ∷ ks) k = go (same c k) (listed-place ks k)
  where
    go : (b : Bool) → listed ks k ≡ ltb (place_of ks k) (length ks) → b || listed ks k ≡ ltb (cond b 0 (suc (place_of ks k))) (suc (length ks))
    go true ih = sym (lt-ltb 0 (suc (length ks)) (omega arith))
    go false ih = ih ∙ ltb-suc (place_of ks k) (length ks)

-- a constant that is not listed stands last when it is
place-last : (ks : List Const) (k : Const) → listed ks k ≡ false → place_of (ks ++ (k ∷ [])) k ≡ length ks
unfolding listed place_of
place-last [] k h = rw (eq-eqb k.kind k.kind refl, eq-eqb k.bits k.bits refl)
place-last (c ∷ ks) k h = go (same c k) h (place-last ks k)
  where
    go : (b : Bool) → b || listed ks k ≡ false → (listed ks k ≡ false → place_of (ks ++ (k ∷ [])) k ≡ length ks) → cond b 0 (suc (place_of (ks ++ (k ∷ [])) k)) ≡ suc (length ks)
    go true h ih = absurd (true≢false h)
    go false h ih = ap suc (ih h)

-- ---- the search for a constant
pub length-constants : (xs : List Constant) → length (map constant xs) ≡ length xs
length-constants [] = refl
length-constants (x ∷ xs) = ap suc (length-constants xs)

module _ (k : Constant) where
  position-is : (xs : List Constant) → position_or_len (λ x. ghosts.eq x k) xs ≡ place_of (map constant xs) (constant k)
  unfolding place_of
  position-is [] = refl
  position-is (x ∷ xs) = rw (equal x k) (go (same (constant x) (constant k)) (position-is xs))
    where
      go : (b : Bool) → position_or_len (λ x. ghosts.eq x k) xs ≡ place_of (map constant xs) (constant k)
          → cond (not b) (1 + position_or_len (λ x. ghosts.eq x k) xs) 0 ≡ cond b 0 (suc (place_of (map constant xs) (constant k)))
      go true h = refl
      go false h = omega (arith, h)

  -- what the search answers
  pub found : (xs : List Constant) (l : List Const) → map constant xs ≡ l
      → (cond (ltb (position_or_len (λ x. ghosts.eq x k) xs) (length xs)) (Some (position_or_len (λ x. ghosts.eq x k) xs)) None) ≡ (if listed l (constant k) then Some (place_of l (constant k)) else None)
  found xs l e = rw (← e, position-is xs, listed-place (map constant xs) (constant k), length-constants xs) refl

pub constants-length : (n : ℕ) (xs : List Constant) → n ≤ length xs → length (map constant (take n xs)) ≡ n
constants-length n xs h = length-constants (take n xs) ∙ length-take-le n xs h

-- ---- the list with a constant
module _ (l : List Const) (k : Const) where
  pub is-listed : (i : ℕ) → Some i ≡ (if listed l k then Some (place_of l k) else None) → (listed l k ≡ true) × (i ≡ place_of l k) × (i < length l)
  is-listed i h = go (listed l k) refl h
    where
      go : (b : Bool) → listed l k ≡ b → Some i ≡ (if b then Some (place_of l k) else None) → (listed l k ≡ true) × (i ≡ place_of l k) × (i < length l)
      go true p q =
          let e : i ≡ place_of l k = cc in
          (p, e, let m = ltb-true (place_of l k) (length l) (sym (listed-place l k) ∙ p) in omega (arith, e))
      go false p q = let z : ◌≡◌ {A = ℕ} 0 1 = cc in absurd (omega arith)

  pub not-listed : (o : Option ℕ) → o ≡ (if listed l k then Some (place_of l k) else None) → ((i : ℕ) → o ≡ Some i → ⊥) → listed l k ≡ false
  not-listed o h n = go (listed l k) refl h
    where
      go : (b : Bool) → listed l k ≡ b → o ≡ (if b then Some (place_of l k) else None) → listed l k ≡ false
      go true p q = absurd (n (place_of l k) q)
      go false p q = p

  pub list-stays : listed l k ≡ true → l ≡ with_new l (k ∷ [])
  unfolding with_new
  list-stays h = rw h

  grown : listed l k ≡ false → with_new l (k ∷ []) ≡ l ++ (k ∷ [])
  unfolding with_new
  grown h = rw h

  pub grown-place : listed l k ≡ false → length l ≡ place_of (with_new l (k ∷ [])) k
  grown-place h = rw (grown h) (sym (place-last l k h))

-- a new one stands last
pub list-grows : (xs : List Constant) (n : ℕ) (k : Constant) → n < length xs → listed (map constant (take n xs)) (constant k) ≡ false → map constant (take (n + 1) (set xs n k)) ≡ with_new (map constant (take n xs)) (constant k ∷ [])
list-grows xs n k r h =
    let up : n + 1 ≡ suc n = omega arith in
    rw up (ap (map constant) (take-suc-set xs n k r) ∙ map-append constant (take n xs) (k ∷ []) ∙ sym (grown (map constant (take n xs)) (constant k) h))
