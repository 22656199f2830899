-- The test of the lent table, by the loops of the code.
use Rattle.std.proofs.Common.{◌≡◌, ℕ, zero, suc, ◌+◌, ◌-◌, ◌*◌, ◌%◌, ◌<◌, ◌≤◌, Bool, true, false, not, ◌&&◌, eqb, ltb, List, [], ◌∷◌, length, get_or, drop, set, replicate, sym, refl, ap, ◌∙◌, subst, true≢false, arith, length-set, drop_of_length-le, drop-cons, get_or-set_other, get_or-set_same, ltb-true, lt-ltb, eq-eqb, ne_eqb, eqb-true, le-leb, leb-true}
use mathlib.Core.Bool.{false≢true}
use lib.ListN.{length-replicate, get_or-replicate}
use borrow.Author.Tests.{eqb-false}
use Rattle.strip.specs.Shape.{all}
use Rattle.strip.proofs.Tests.{and_left, and_right}
use Rattle.spirv.specs.Writer.{id_limit, lent_ok, among, distinct, table_ok}
use Rattle.spirv.specs.Page.{rising, bucket_of}

-- the number at place i begins the rest
pub drop_at : (xs : List ℕ) (i : ℕ) → i < length xs → drop i xs ≡ get_or xs i 0 ∷ drop (i + 1) xs
drop_at xs i l = let up : suc i ≡ i + 1 = omega arith in drop-cons xs i 0 l ∙ ap (λ (j : ℕ). get_or xs i 0 ∷ drop j xs) up

-- ---- a number among others
module _ (xs : List ℕ) (x : ℕ) where
  pub among-here : (i : ℕ) → i < length xs → get_or xs i 0 ≡ x → true ≡ among (drop i xs) x
  unfolding among
  among-here i l p = rw (drop_at xs i l, eq-eqb (get_or xs i 0) x p)

  pub among_next : (i : ℕ) → i < length xs → (get_or xs i 0 ≡ x → ⊥) → among (drop (i + 1) xs) x ≡ among (drop i xs) x
  unfolding among
  among_next i l p = rw (drop_at xs i l, ne_eqb (get_or xs i 0) x p)

  pub among-end : (i : ℕ) → length xs ≤ i → false ≡ among (drop i xs) x
  unfolding among
  among-end i l = rw (drop_of_length-le xs l)

-- ---- each one in order, none twice
module _ (bound : ℕ) where
  abbrev pub sound : List ℕ → Bool
  sound xs = all (lent_ok bound) xs && distinct xs

  bad-twice : (a b c d : Bool) → c ≡ false → (a && b) && (c && d) ≡ false
  bad-twice a b true d p = absurd (true≢false p)
  bad-twice true true false d p = refl
  bad-twice true false false d p = refl
  bad-twice false b false d p = refl

  good-head : (a b c d : Bool) → a ≡ true → c ≡ true → b && d ≡ (a && b) && (c && d)
  good-head true b true d p q = refl
  good-head false b c d p q = absurd (false≢true p)
  good-head true b false d p q = absurd (false≢true q)

  module _ (xs : List ℕ) (i : ℕ) (l : i < length xs) where
    pub sound-twice : among (drop (i + 1) xs) (get_or xs i 0) ≡ true → false ≡ sound (drop i xs)
    unfolding distinct
    sound-twice p =
        let q : not (among (drop (i + 1) xs) (get_or xs i 0)) ≡ false = rw p in
        rw (drop_at xs i l) (sym (bad-twice (lent_ok bound (get_or xs i 0)) (all (lent_ok bound) (drop (i + 1) xs)) (not (among (drop (i + 1) xs) (get_or xs i 0))) (distinct (drop (i + 1) xs)) q))

    pub sound-next : lent_ok bound (get_or xs i 0) ≡ true → among (drop (i + 1) xs) (get_or xs i 0) ≡ false → sound (drop (i + 1) xs) ≡ sound (drop i xs)
    unfolding distinct
    sound-next p q =
        let r : not (among (drop (i + 1) xs) (get_or xs i 0)) ≡ true = rw q in
        rw (drop_at xs i l) (good-head (lent_ok bound (get_or xs i 0)) (all (lent_ok bound) (drop (i + 1) xs)) (not (among (drop (i + 1) xs) (get_or xs i 0))) (distinct (drop (i + 1) xs)) p r)

  pub sound-end : (xs : List ℕ) (i : ℕ) → length xs ≤ i → true ≡ sound (drop i xs)
  unfolding distinct
  sound-end xs i l = rw (drop_of_length-le xs l)

  worse : (a b c d : Bool) → b && d ≡ false → (a && b) && (c && d) ≡ false
  worse true true true d p = p
  worse true true false d p = refl
  worse true false c d p = refl
  worse false b c d p = refl

  pub sound-whole : (xs : List ℕ) (i : ℕ) → false ≡ sound (drop i xs) → false ≡ sound xs
  unfolding distinct
  sound-whole xs zero p = p
  sound-whole [] (suc i) p = p
  sound-whole (x ∷ xs) (suc i) p = sym (worse (lent_ok bound x) (all (lent_ok bound) xs) (not (among xs x)) (distinct xs) (sym (sound-whole xs i p)))

-- ---- ids in buckets
module _ (xs : List ℕ) where
  -- from place m on, the first id of bucket h stands at j; 303 where there is none
  pub record Leads (h m j : ℕ) : Type 0 where
    pub up : m ≤ j
    pub most : j ≤ 303
    pub same : j < length xs → bucket_of (get_or xs j 0) ≡ h
    pub rest : (y : ℕ) → bucket_of y ≡ h → among (drop j xs) y ≡ among (drop m xs) y

  leads-end : (h m : ℕ) → length xs ≡ m → m ≤ 303 → Leads h m m
  leads-end h m e t = record { up = omega arith; most = t; same = λ (l : m < length xs). absurd (omega (arith, e, l)); rest = λ y p. refl }

  leads-here : (h m : ℕ) → bucket_of (get_or xs m 0) ≡ h → m ≤ 303 → Leads h m m
  leads-here h m e t = record { up = omega arith; most = t; same = λ l. e; rest = λ y p. refl }

  leads-past : (h m j : ℕ) → m < length xs → (bucket_of (get_or xs m 0) ≡ h → ⊥) → Leads h (m + 1) j → Leads h m j
  leads-past h m j l n d =
      record {
        up = omega (arith, d.up);
        most = d.most;
        same = d.same;
        rest = λ y p. d.rest y p ∙ among_next xs y m l (λ q. n (ap bucket_of q ∙ p));
      }

  -- on the way along the chain of x: from m on it can only stand at j or later
  pub record Walks (x m j : ℕ) : Type 0 where
    pub up : m ≤ j
    pub same : j < length xs → bucket_of (get_or xs j 0) ≡ bucket_of x
    pub rest : among (drop j xs) x ≡ among (drop m xs) x

  pub walks_next : (x m j j' : ℕ) → j < length xs → (get_or xs j 0 ≡ x → ⊥) → Walks x m j → Leads (bucket_of (get_or xs j 0)) (j + 1) j' → Walks x m j'
  walks_next x m j j' l n w d =
      record {
        up = omega (arith, w.up, d.up);
        same = λ k. d.same k ∙ w.same l;
        rest = d.rest x (sym (w.same l)) ∙ among_next xs x j l n ∙ w.rest;
      }

  -- the ids from place i on are sound, and stand in their chains
  module _ (bound : ℕ) where
    pub record Begun (heads links : List ℕ) (i : ℕ) : Type 0 where
      pub most : i ≤ 303
      pub wide : length heads ≡ 1024
      pub long : length links ≡ 303
      pub good : sound bound (drop i xs) ≡ true
      pub first : (h : ℕ) → h < 1024 → Leads h i (get_or heads h 0)
      pub next : (k : ℕ) → i ≤ k → k < 303 → Leads (bucket_of (get_or xs k 0)) (k + 1) (get_or links k 0)

    pub begun-start : length xs ≡ 303 → Begun (replicate 1024 303) (replicate 303 303) 303
    begun-start size =
        record {
          most = omega arith;
          wide = length-replicate {A = ℕ} 1024 303;
          long = length-replicate {A = ℕ} 303 303;
          good = sym (sound-end bound xs 303 (omega (arith, size)));
          first = λ h l. rw (get_or-replicate {A = ℕ} 1024 h 303 0 l) (leads-end h 303 size (omega arith));
          next = λ (k : ℕ) (a : 303 ≤ k) (b : k < 303). absurd (omega (arith, a, b));
        }

    pub begun-back : (heads links : List ℕ) (i : ℕ) → 0 < i → Begun heads links i → Begun heads links (i - 1 + 1)
    begun-back heads links i l b = let e : i ≡ i - 1 + 1 = omega arith in subst (Begun heads links) e b

    module _ (size : length xs ≡ 303) (heads links : List ℕ) (i h : ℕ) (e : h ≡ bucket_of (get_or xs i 0)) (l : h < 1024) (m : i < 303) (b : Begun heads links (i + 1)) where
      first_next : (g : ℕ) → g < 1024 → Leads g i (get_or (set heads h i) g 0)
      first_next g k = go (eqb g h) refl
        where
          go : (t : Bool) → eqb g h ≡ t → Leads g i (get_or (set heads h i) g 0)
          go true p =
              let is = eqb-true g h p in
              rw (is, get_or-set_same heads h i 0 (omega (arith, l, b.wide))) (leads-here h i (sym e) (omega (arith, m)))
          go false p =
              let isnt = eqb-false g h p in
              rw (get_or-set_other heads h g i 0 isnt) (leads-past g i _ (omega (arith, m, size)) (λ q. isnt (sym q ∙ sym e)) (b.first g k))

      links-next : (k : ℕ) → i ≤ k → k < 303 → Leads (bucket_of (get_or xs k 0)) (k + 1) (get_or (set links i (get_or heads h 0)) k 0)
      links-next k a c = go (eqb k i) refl
        where
          go : (t : Bool) → eqb k i ≡ t → Leads (bucket_of (get_or xs k 0)) (k + 1) (get_or (set links i (get_or heads h 0)) k 0)
          go true p =
              let is = eqb-true k i p in
              rw (is, get_or-set_same links i (get_or heads h 0) 0 (omega (arith, m, b.long)), ← e) (b.first h l)
          go false p =
              let isnt = eqb-false k i p in
              let after : i + 1 ≤ k = omega (arith, a, isnt) in
              rw (get_or-set_other links i k (get_or heads h 0) 0 isnt) (b.next k after c)

      pub begun-next : lent_ok bound (get_or xs i 0) ≡ true → among (drop (i + 1) xs) (get_or xs i 0) ≡ false → Begun (set heads h i) (set links i (get_or heads h 0)) i
      begun-next o n =
          record {
            most = omega (arith, m);
            wide = length-set heads h i ∙ b.wide;
            long = length-set links i (get_or heads h 0) ∙ b.long;
            good = sym (sound-next bound xs i (omega (arith, m, size)) o n) ∙ b.good;
            first = first_next;
            next = links-next;
          }

-- ---- ids that rise
module _ (xs : List ℕ) where
  -- where the high bits are left, the first i ids rise up to the last
  abbrev pub Rises : ℕ → ℕ → ℕ → Type 0
  Rises last high i = 4290772992 ≤ high → (last ≤ i * 4194304) × (rising last (drop i xs) ≡ rising 0 xs)

  pub rises_next :
      (last high high' i e : ℕ) → i < length xs → i < 303 → (e + get_or xs i 0) % 4294967296 ≡ last → e < 4294967296 → get_or xs i 0 < 4294967296 → high' ≤ high → high' ≤ e → Rises last high i →
      Rises (get_or xs i 0) high' (i + 1)
  unfolding rising
  rises_next last high high' i e l m p we wx lh le before h =
      let b = before (omega (arith, lh, h)) in
      let up : (last < get_or xs i 0) × (get_or xs i 0 ≤ last + 4194304) = small last (get_or xs i 0) e p we wx (omega (arith, b.0, m)) (omega (arith, le, h)) in
      let step : rising last (drop i xs) ≡ rising (get_or xs i 0) (drop (i + 1) xs) = rw (drop_at xs i l, lt-ltb last (get_or xs i 0) up.0) in
      (omega (arith, b.0, up.1), sym step ∙ b.1)
    where
      small : (a x e : ℕ) → (e + x) % 4294967296 ≡ a → e < 4294967296 → x < 4294967296 → a ≤ 1270874112 → 4290772992 ≤ e → (a < x) × (x ≤ a + 4194304)
      small a x e q we wx l h = (omega arith, omega arith)

  pub wrapped-back : (a x : ℕ) → a < 4294967296 → x < 4294967296 → ((a + (4294967296 - x)) % 4294967296 + x) % 4294967296 ≡ a
  wrapped-back a x l m = omega arith

  pub rises-end : (last high i : ℕ) → length xs ≤ i → 4290772992 ≤ high → Rises last high i → rising 0 xs ≡ true
  unfolding rising
  rises-end last high i l h r = sym (r h).1 ∙ rw (drop_of_length-le xs l)

-- what rises from a number on is above it, and stands once
above : (xs : List ℕ) (last x : ℕ) → rising last xs ≡ true → x ≤ last → among xs x ≡ false
unfolding rising among
above [] last x h l = refl
above (y ∷ xs) last x h l =
    let u = ltb-true last y (and_left (ltb last y) _ h) in
    rw (ne_eqb y x (λ (e : y ≡ x). absurd (omega arith))) (above xs y x (and_right (ltb last y) _ h) (omega arith))

once : (xs : List ℕ) (last : ℕ) → rising last xs ≡ true → distinct xs ≡ true
unfolding rising distinct
once [] last h = refl
once (y ∷ xs) last h = let r = and_right (ltb last y) _ h in rw (above xs y y r (omega arith)) (once xs y r)

-- the last one is the greatest
abbrev last_of : ℕ → List ℕ → ℕ
last_of x [] = x
last_of x (y ∷ ys) = last_of y ys

last-at : (x : ℕ) (xs : List ℕ) → last_of x xs ≡ get_or (x ∷ xs) (length xs) 0
last-at x [] = refl
last-at x (y ∷ ys) = last-at y ys

module _ (bound : ℕ) where
  below : (x y : ℕ) → 0 < x → x ≤ y → lent_ok bound y ≡ true → lent_ok bound x ≡ true
  unfolding lent_ok
  below x y n l h =
      let a = and_right (not (eqb y 0)) _ h in
      let b = ltb-true y bound (and_left (ltb y bound) _ a) in
      let c = leb-true y id_limit (and_right (ltb y bound) _ a) in
      rw (ne_eqb x 0 (λ (e : x ≡ 0). absurd (omega arith)), lt-ltb x bound (omega arith)) (le-leb x id_limit (omega arith))

  last-above : (xs : List ℕ) (x : ℕ) → rising x xs ≡ true → x ≤ last_of x xs
  unfolding rising
  last-above [] x h = omega arith
  last-above (y ∷ ys) x h = let u = ltb-true x y (and_left (ltb x y) _ h) in let v = last-above ys y (and_right (ltb x y) _ h) in omega arith

  -- all are in order where the last one is
  all-last : (xs : List ℕ) (x : ℕ) → rising x xs ≡ true → 0 < x → all (lent_ok bound) (x ∷ xs) ≡ lent_ok bound (last_of x xs)
  unfolding rising
  all-last [] x h n = go (lent_ok bound x)
    where
      go : (b : Bool) → b && true ≡ b
      go true = refl
      go false = refl
  all-last (y ∷ ys) x h n =
      let u = ltb-true x y (and_left (ltb x y) _ h) in
      let r = and_right (ltb x y) _ h in
      let v = last-above ys y r in
      go (lent_ok bound (last_of y ys)) refl (all-last ys y r (omega arith)) (omega arith)
    where
      go : (b : Bool) → lent_ok bound (last_of y ys) ≡ b → all (lent_ok bound) (y ∷ ys) ≡ lent_ok bound (last_of y ys) → x ≤ last_of y ys → lent_ok bound x && all (lent_ok bound) (y ∷ ys) ≡ lent_ok bound (last_of y ys)
      go true p ih l = rw (below x (last_of y ys) n l p) ih
      go false p ih l = none (lent_ok bound x) (ih ∙ p) ∙ sym p
        where
          none : (b : Bool) → all (lent_ok bound) (y ∷ ys) ≡ false → b && all (lent_ok bound) (y ∷ ys) ≡ false
          none true q = q
          none false q = refl

  pub rising-sound : (xs : List ℕ) (n : ℕ) → length xs ≡ suc n → rising 0 xs ≡ true → sound bound xs ≡ lent_ok bound (get_or xs n 0)
  unfolding rising
  rising-sound [] n e h = absurd (omega arith)
  rising-sound (x ∷ xs) n e h =
      let u = ltb-true 0 x (and_left (ltb 0 x) _ h) in
      let m : length xs ≡ n = omega arith in
      let o : distinct (x ∷ xs) ≡ true = once (x ∷ xs) 0 h in
      and_one (all (lent_ok bound) (x ∷ xs)) (distinct (x ∷ xs)) o ∙ all-last xs x (and_right (ltb 0 x) _ h) u ∙ ap (lent_ok bound) (last-at x xs) ∙ ap (λ (j : ℕ). lent_ok bound (get_or (x ∷ xs) j 0)) m
    where
      and_one : (a b : Bool) → b ≡ true → a && b ≡ a
      and_one true true p = refl
      and_one false true p = refl
      and_one a false p = absurd (false≢true p)

pub table-other : (xs : List ℕ) (bound : ℕ) → (length xs ≡ 303 → ⊥) → false ≡ table_ok xs bound
unfolding table_ok
table-other xs bound h = rw (ne_eqb (length xs) 303 h)

pub table-sound : (xs : List ℕ) (bound : ℕ) → length xs ≡ 303 → sound bound xs ≡ table_ok xs bound
unfolding table_ok
table-sound xs bound h = rw (eq-eqb (length xs) 303 h)
