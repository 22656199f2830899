-- Lists that are filled from the front, and lists whose elements from a place on are written over.
use mathlib.Core.Path.{◌≡◌, refl, sym, ap, ◌∙◌}
use mathlib.Core.List.{List, [], ◌∷◌, ◌++◌, map, map-append}
use Prim.Native.Nat.{ℕ, suc, ◌+◌, ◌≤◌, ◌<◌}
use native.Mathlib.Omega.{arith}
use lib.ListN.{length, take, drop, get_or, set, length-append, length-map}
use lib.Seq.{take-suc, take-suc-set, take_all, take_at, sets, sets-eq, length-take-le}

-- a list that is filled with what f makes of another
module _ {A B : Type 0} (f : A → B) (s : List A) where
  pub fill : (t : List B) (i : ℕ) (d : A) → i < length s → i < length t → take i t ≡ map f (take i s) → take (suc i) (set t i (f (get_or s i d))) ≡ map f (take (suc i) s)
  fill t i d hs ht e = rw (take-suc-set t i (f (get_or s i d)) ht, take-suc s i d hs, map-append, e)

  pub filled : (t : List B) (i n : ℕ) → length t ≤ i → i ≤ n → n ≤ i → take i t ≡ map f (take i s) → t ≡ map f (take n s)
  filled t i n ht l g e = let k : i ≡ n = omega arith in sym (take_all i t ht) ∙ e ∙ ap (λ (j : ℕ). map f (take j s)) k

-- written over from place n on: what then stands up to the end of what was written
pub sets-upto : (l vs : List ℕ) (n m : ℕ) → n + length vs ≤ length l → n + length vs ≡ m → take m (sets l n vs) ≡ take n l ++ vs
sets-upto l vs n m h e =
    let t : length (take n l) ≡ n = length-take-le n l (omega arith) in
    let k : length (take n l ++ vs) ≡ m = rw (length-append, t) e in
    rw (sets-eq vs l n h) (take_at (take n l ++ vs) (drop (n + length vs) l) m k)

sets-snoc : (l vs : List ℕ) (n m x : ℕ) → n + length vs ≡ m → set (sets l n vs) m x ≡ sets l n (vs ++ (x ∷ []))
sets-snoc l [] n m x e = let k : m ≡ n = omega arith in rw (k) refl
sets-snoc l (v ∷ vs) n m x e = sets-snoc (set l n v) vs (suc n) m x (omega (arith, e))

-- one element more of what f makes of another list
pub sets-next : {A : Type 0} (f : A → ℕ) (s : List A) (l : List ℕ) (n i : ℕ) (d : A) → i < length s
    → set (sets l n (map f (take i s))) (n + i) (f (get_or s i d)) ≡ sets l n (map f (take (suc i) s))
sets-next f s l n i d h =
    let k : length (map f (take i s)) ≡ i = length-map (take i s) f ∙ length-take-le i s (omega arith) in
    rw (take-suc s i d h, map-append) (sets-snoc l (map f (take i s)) n (n + i) (f (get_or s i d)) (rw k refl))
