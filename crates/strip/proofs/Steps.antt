-- The steps (`specs/Steps.antt`) decide the shape, over the whole rest of a run and over parts of it.
use Rattle.std.specs.Prelude.{Some, None}
use mathlib.Core.Path.{◌≡◌, refl, ap, ap₂, subst, ◌∙◌, sym}
use mathlib.Core.List.{List, [], ◌∷◌, ◌++◌}
use mathlib.Core.Option.{Option, none, some}
use mathlib.Core.Bool.{Bool, true, false, cond, ◌&&◌, and-false, false≢true}
use Prim.Native.Nat.{ℕ, zero, suc, pred, ◌+◌, ◌-◌, ◌≤◌}
use native.Mathlib.Omega.{arith}
use native.Mathlib.Nat.{add-zero, zero-add, add_assoc}
use lib.ListN.{length, drop, length-drop}
use lib.Seq.{drop-append-le, drop-drop}
use lib.Dec.{eqb}
use borrow.Author.Tests.{eqb-true, eqb-false, eq-eqb, ne_eqb}
use Rattle.strip.specs.declared.format.Body.{Body}
use Rattle.strip.specs.declared.reader.Entry.{Entry}
use Rattle.strip.specs.declared.shape.Shape.{Shape}
use Rattle.strip.specs.declared.shape.Step.{Step}
use Rattle.strip.specs.declared.shape.Walked.{Walked}
use Rattle.strip.specs.Format.{format_of}
use Rattle.strip.specs.Entry.{Read, kind_of, body_of, is_cut, read_entry, reads_from}
use Rattle.strip.specs.Shape.{is_end, grown, joined, cut_at_ends, decode, shape_ok}
use Rattle.strip.specs.Pass.{Ready, ready, fresh, refused_shape, after, entry_ok, stepped, pass_from}
use Rattle.strip.specs.Pass as P
use Rattle.strip.specs.Steps.{still, step_by, step_or, step, step_part, steps, ahead, halted, ends, end_of, onward, walk_from, walk}
use Rattle.strip.proofs.EntryRead.{Taken, found, unknown-stops, read_more, reads-found, reads-stop}
use Rattle.strip.proofs.Pass.{pass_shape, pass-stop, pass-refused, pass-taken, ready-fresh, ready-none, ready-is, is-ready, step-ready, left-falls}
use Rattle.strip.proofs.Tests.{and_left}

eqb-plus : (n x a b : ℕ) → n + b ≡ a → eqb (n + x) a ≡ eqb x b
eqb-plus n x a b h = go (eqb x b) refl
  where
    go : (t : Bool) → eqb x b ≡ t → eqb (n + x) a ≡ t
    go true p = let e = eqb-true x b p in eq-eqb (n + x) a (omega arith)
    go false p = ne_eqb (n + x) a (λ z. eqb-false x b p (omega arith))

some-none : (ss : List (List Entry)) → some ss ≡ none → ⊥
some-none ss p = let z : ◌≡◌ {A = ℕ} 0 1 = cc in absurd (omega arith)

some_same : (ss ts : List (List Entry)) → some ss ≡ some ts → ss ≡ ts
some_same ss ts p = cc

ends-few : (g : Shape) → ends g ≤ 1
ends-few g = go (eqb g.left 64)
  where
    go : (b : Bool) → cond b 1 0 ≤ 1
    go true = omega arith
    go false = omega arith

-- a strip ends with its end alone
ends_is : (g : Shape) → Ready g → (e : Entry) → ((stepped g e).left ≡ 0 → ⊥) → ends (stepped g e) ≡ cond (is_end e) 1 0
unfolding stepped after P.ended
ends_is g w e z = go (is_end e) refl
  where
    last : (a b : Bool) → ((cond a (cond b refused_shape fresh) refused_shape).left ≡ 0 → ⊥) → ends (cond a (cond b refused_shape fresh) refused_shape) ≡ 1
    last false b z = absurd (z refl)
    last true true z = absurd (z refl)
    last true false z = refl

    go : (b : Bool) → is_end e ≡ b → ends (stepped g e) ≡ cond b 1 0
    go true x = let k = eqb-true (kind_of e) 255 x in rw k (last (entry_ok g e) g.inside (rw k at z))
    go false x = let l = left-falls g e w x in let v = w.values in rw (ne_eqb (stepped g e).left 64 (λ q. omega arith))

-- the end of a strip that was read is the bare entry 255
pub end_is : (e : Entry) → (format_of (kind_of e)).body ≡ body_of e → is_end e ≡ true → e ≡ Entry.Bare 255
unfolding kind_of body_of format_of
end_is e b x = go e (rw (eqb-true (kind_of e) 255 x) at b) (eqb-true (kind_of e) 255 x)
  where
    go : (e : Entry) → Body.Bare ≡ body_of e → kind_of e ≡ 255 → e ≡ Entry.Bare 255
    go (Entry.Bare k) b x = ap Entry.Bare x
    go (Entry.Word w) b x = let z : ◌≡◌ {A = ℕ} 0 1 = cc in absurd (omega arith)
    go (Entry.Cell k n) b x = let z : ◌≡◌ {A = ℕ} 0 1 = cc in absurd (omega arith)
    go (Entry.Store k n r) b x = let z : ◌≡◌ {A = ℕ} 0 1 = cc in absurd (omega arith)
    go (Entry.One k a) b x = let z : ◌≡◌ {A = ℕ} 0 1 = cc in absurd (omega arith)
    go (Entry.Two k a b') b x = let z : ◌≡◌ {A = ℕ} 0 1 = cc in absurd (omega arith)
    go (Entry.Three k a b' c) b x = let z : ◌≡◌ {A = ℕ} 0 1 = cc in absurd (omega arith)
    go (Entry.Four k a b' c d) b x = let z : ◌≡◌ {A = ℕ} 0 1 = cc in absurd (omega arith)

-- the code asks the entry
pub end-of-few : (e : Entry) → end_of e ≤ 1
end-of-few (Entry.Bare k) = go (eqb k 255)
  where
    go : (b : Bool) → cond b 1 0 ≤ 1
    go true = omega arith
    go false = omega arith
end-of-few (Entry.Word w) = omega arith
end-of-few (Entry.Cell k n) = omega arith
end-of-few (Entry.Store k n r) = omega arith
end-of-few (Entry.One k a) = omega arith
end-of-few (Entry.Two k a b) = omega arith
end-of-few (Entry.Three k a b c) = omega arith
end-of-few (Entry.Four k a b c d) = omega arith

pub end-of-is : (g : Shape) → Ready g → (e : Entry) → (format_of (kind_of e)).body ≡ body_of e → ((stepped g e).left ≡ 0 → ⊥) → end_of e ≡ ends (stepped g e)
unfolding kind_of
end-of-is g w e b z = by e b (is_end e) refl ∙ sym (ends_is g w e z)
  where
    none : (e : Entry) → is_end e ≡ false → end_of e ≡ 0
    none (Entry.Bare k) x = rw x
    none (Entry.Word w) x = refl
    none (Entry.Cell k n) x = refl
    none (Entry.Store k n r) x = refl
    none (Entry.One k a) x = refl
    none (Entry.Two k a b) x = refl
    none (Entry.Three k a b c) x = refl
    none (Entry.Four k a b c d) x = refl

    by : (e : Entry) → (format_of (kind_of e)).body ≡ body_of e → (t : Bool) → is_end e ≡ t → end_of e ≡ cond t 1 0
    by e b true x = ap end_of (end_is e b x)
    by e b false x = none e x

-- ---- one step
module _ (len : ℕ) where
  -- a state that refused stays refused, whatever comes, and so does one that does not fit together
  pub unready : (stop : Step) (g : Shape) (s : List ℕ) → ready g ≡ false → step_or len stop g s ≡ still refused_shape
  unfolding step_or
  unready stop g s p = rw p

  pub step-absorbs : (g : Shape) (s : List ℕ) → g.left ≡ 0 → step len g s ≡ still refused_shape
  step-absorbs g s p = unready (still refused_shape) g s (sym (ready-none g p))

  module _ (stop : Step) (g : Shape) (s : List ℕ) where
    pub step_by_lem : ready g ≡ true → (r : Read) → read_entry len s ≡ r → step_or len stop g s ≡ step_by g stop r
    unfolding step_or
    step_by_lem w r p = rw (w, p)

    module _ (w : Ready g) where
      by-stop : read_entry len s ≡ None → step_or len stop g s ≡ stop
      unfolding step_by
      by-stop p = step_by_lem (ready-is g w) None p

      module _ (e : Entry) (n : ℕ) (p : read_entry len s ≡ Some (e, n)) where
        by-refused : (stepped g e).left ≡ 0 → step_or len stop g s ≡ still refused_shape
        unfolding step_by
        by-refused z = step_by_lem (ready-is g w) (Some (e, n)) p ∙ rw (eq-eqb _ _ z)

        by-passed : ((stepped g e).left ≡ 0 → ⊥) → step_or len stop g s ≡ record { shape = stepped g e; bytes = n }
        unfolding step_by
        by-passed z = step_by_lem (ready-is g w) (Some (e, n)) p ∙ rw (ne_eqb _ _ z)

  -- each step passes a byte at least, or refuses; it passes no more than there are
  pub step-forward : (g : Shape) (s : List ℕ) → ((step len g s).bytes ≡ 0 → step len g s ≡ still refused_shape) × ((step len g s).bytes ≤ length s)
  step-forward g s = go (ready g) refl (read_entry len s) refl
    where
      Forward : Step → Type 0
      Forward p = (p.bytes ≡ 0 → p ≡ still refused_shape) × (p.bytes ≤ length s)

      refused : Forward (still refused_shape)
      refused = (λ z. refl, omega arith)

      go : (b : Bool) → ready g ≡ b → (r : Read) → read_entry len s ≡ r → Forward (step len g s)
      go false w r p = subst Forward (sym (unready (still refused_shape) g s w)) refused
      go true w None p = subst Forward (sym (by-stop (still refused_shape) g s (is-ready g w) p)) refused
      go true w (Some (e, n)) p = by (eqb (stepped g e).left 0) refl (found len s e n p)
        where
          by : (z : Bool) → eqb (stepped g e).left 0 ≡ z → Taken s e n → Forward (step len g s)
          by true z t = subst Forward (sym (by-refused (still refused_shape) g s (is-ready g w) e n p (eqb-true _ _ z))) refused
          by false z t = subst Forward (sym (by-passed (still refused_shape) g s (is-ready g w) e n p (eqb-false _ _ z))) (λ q. absurd (omega (arith, t.forward)), t.within)

  steps-refused : (n : ℕ) (s : List ℕ) → (steps len n refused_shape s).left ≡ 0
  unfolding steps
  steps-refused zero s = refl
  steps-refused (suc n) [] = refl
  steps-refused (suc n) (b ∷ s) = ap (λ (p : Step). (steps len n p.shape (drop p.bytes (b ∷ s))).left) (step-absorbs refused_shape (b ∷ s) refl) ∙ steps-refused n (b ∷ s)

  steps-pass : (n : ℕ) (s : List ℕ) → length s ≤ n → (g : Shape) → Ready g → eqb (steps len n g s).left 64 ≡ pass_from g (reads_from len 0 s)
  unfolding steps reads_from pass_from
  steps-pass zero [] l g w = refl
  steps-pass zero (b ∷ s) l g w = absurd (omega arith)
  steps-pass (suc n) [] l g w = refl
  steps-pass (suc n) (b ∷ s) l g w = go (steps-pass n) (read_entry len (b ∷ s)) refl
    where
      after : Step → Bool
      after p = eqb (steps len n p.shape (drop p.bytes (b ∷ s))).left 64

      refused : after (still refused_shape) ≡ false
      refused = rw (steps-refused n (b ∷ s))

      go : ((t : List ℕ) → length t ≤ n → (g : Shape) → Ready g → eqb (steps len n g t).left 64 ≡ pass_from g (reads_from len 0 t)) → (r : Read) → read_entry len (b ∷ s) ≡ r → after (step len g (b ∷ s)) ≡ pass_from g (reads_from len 0 (b ∷ s))
      go ih None p = ap after (by-stop (still refused_shape) g (b ∷ s) w p) ∙ refused ∙ pass-stop g (reads_from len 0 (b ∷ s)) (reads-stop len (b ∷ s) p (omega arith))
      go ih (Some (e, m)) p = by (eqb (stepped g e).left 0) refl
        where
          by : (z : Bool) → eqb (stepped g e).left 0 ≡ z → after (step len g (b ∷ s)) ≡ pass_from g (reads_from len 0 (b ∷ s))
          by true z =
              ap after (by-refused (still refused_shape) g (b ∷ s) w e m p (eqb-true _ _ z)) ∙ refused
              ∙ pass-refused g (reads_from len 0 (b ∷ s)) e m (reads_from len 0 (drop m (b ∷ s))) (reads-found len (b ∷ s) e m p) (eqb-true _ _ z)
          by false z =
              let t = found len (b ∷ s) e m p in
              let less : length (drop m (b ∷ s)) ≤ n = rw (length-drop m (b ∷ s)) (omega (arith, t.forward, t.within)) in
              ap after (by-passed (still refused_shape) g (b ∷ s) w e m p (eqb-false _ _ z))
              ∙ ih (drop m (b ∷ s)) less (stepped g e) (step-ready g e w (eqb-false _ _ z))
              ∙ pass-taken g (reads_from len 0 (b ∷ s)) e m (reads_from len 0 (drop m (b ∷ s))) (reads-found len (b ∷ s) e m p) (eqb-false _ _ z)

  -- #103: the steps end in the test's answer, after at most as many as there are bytes
  pub steps-shape : (s : List ℕ) (n : ℕ) → length s ≤ n → eqb (steps len n fresh s).left 64 ≡ shape_ok len s
  steps-shape s n l = steps-pass n s l fresh ready-fresh ∙ pass_shape len s

  -- ---- steps over a part
  walk-skip : (g : Shape) (i : ℕ) (s : List ℕ) → walk_from len g i s ≡ walk len g (drop i s)
  unfolding walk_from
  walk-skip g zero [] = refl
  walk-skip g (suc i) [] = refl
  walk-skip g zero (b ∷ s) = refl
  walk-skip g (suc i) (b ∷ s) = walk-skip g i s

  walk_turn : (g : Shape) (s : List ℕ) (p : Step) → step_part len g s ≡ p → p.bytes ≤ length s → walk len g s ≡ cond (eqb p.bytes 0) (halted p) (ahead p.bytes (ends p.shape) (walk len p.shape (drop p.bytes s)))
  unfolding walk_from
  walk_turn g [] p q l = let z : p.bytes ≡ 0 = omega arith in ap halted q ∙ rw z
  walk_turn g (b ∷ s) p q l = ap (onward (λ h i. walk_from len h i s)) q ∙ go p.bytes
    where
      go : (n : ℕ) → cond (eqb n 0) (halted p) (ahead n (ends p.shape) (walk_from len p.shape (pred n) s)) ≡ cond (eqb n 0) (halted p) (ahead n (ends p.shape) (walk len p.shape (drop n (b ∷ s))))
      go zero = refl
      go (suc n) = ap (λ (w : Walked). cond (eqb (suc n) 0) (halted p) (ahead (suc n) (ends p.shape) w)) (walk-skip p.shape n s)

  -- a state that does not fit together
  pub walk-unready : (g : Shape) → ready g ≡ false → (s : List ℕ) → walk len g s ≡ halted (still refused_shape)
  walk-unready g p s = walk_turn g s (still refused_shape) (unready _ g s p) (omega arith)

  -- one step of a walk
  module _ (g : Shape) (w : Ready g) (s : List ℕ) where
    pub walk-stop : read_entry len s ≡ None → walk len g s ≡ halted (still (cond (is_cut s) g refused_shape))
    walk-stop p = walk_turn g s (still (cond (is_cut s) g refused_shape)) (by-stop _ g s w p) (omega arith)

    module _ (e : Entry) (n : ℕ) (p : read_entry len s ≡ Some (e, n)) where
      pub walk_refused : (stepped g e).left ≡ 0 → walk len g s ≡ halted (still refused_shape)
      walk_refused z = walk_turn g s (still refused_shape) (by-refused _ g s w e n p z) (omega arith)

      pub walk-passed : ((stepped g e).left ≡ 0 → ⊥) → walk len g s ≡ ahead n (ends (stepped g e)) (walk len (stepped g e) (drop n s))
      walk-passed z =
          let t = found len s e n p in
          walk_turn g s (record { shape = stepped g e; bytes = n }) (by-passed _ g s w e n p z) t.within
          ∙ rw (ne_eqb n 0 (λ q. omega (arith, t.forward)))

  pub walk_none : (g : Shape) → Ready g → (s : List ℕ) → length s ≤ 0 → walk len g s ≡ halted (still g)
  unfolding read_entry is_cut
  walk_none g w [] l = walk-stop g w [] refl
  walk_none g w (b ∷ s) l = absurd (omega arith)

  ahead-nothing : (w : Walked) → ahead 0 0 w ≡ w
  ahead-nothing w = ap₂ (λ (b k : ℕ). record { shape = w.shape; bytes = b; strips = k }) (zero-add w.bytes) (zero-add w.strips)

  ahead-ahead : (a k b j : ℕ) (w : Walked) → ahead a k (ahead b j w) ≡ ahead (a + b) (k + j) w
  ahead-ahead a k b j w = ap₂ (λ (b k : ℕ). record { shape = w.shape; bytes = b; strips = k }) (sym (add_assoc a b w.bytes)) (sym (add_assoc k j w.strips))

  -- the loop of `walk`: what is left of the part, and what was passed before it
  pub record Walking (start : Shape) (part : List ℕ) (g : Shape) (rest : List ℕ) (strips : ℕ) : Type 0 where
    pub is_ready : Ready g
    pub within : length rest ≤ length part
    pub few : strips ≤ length part - length rest
    pub so : ahead (length part - length rest) strips (walk len g rest) ≡ walk len start part

  pub walking_start : (start : Shape) (part : List ℕ) → Ready start → Walking start part start part 0
  walking_start start part w = record { is_ready = w; within = omega arith; few = omega arith; so = let z : length part - length part ≡ 0 = omega arith in rw z (ahead-nothing (walk len start part)) }

  module _ (start : Shape) (part : List ℕ) (g : Shape) (rest : List ℕ) (strips : ℕ) (w : Walking start part g rest strips) where
    -- nothing is passed any more, and the state is h
    walking-still : (h : Shape) → walk len g rest ≡ halted (still h) → record { shape = h; bytes = length part - length rest; strips = strips } ≡ walk len start part
    walking-still h p = ap₂ (λ (b k : ℕ). record { shape = h; bytes = b; strips = k }) (sym (add-zero (length part - length rest))) (sym (add-zero strips)) ∙ sym (ap (ahead (length part - length rest) strips) p) ∙ w.so

    pub walking-stop : read_entry len rest ≡ None → (h : Shape) → h ≡ cond (is_cut rest) g refused_shape → record { shape = h; bytes = length part - length rest; strips = strips } ≡ walk len start part
    walking-stop p h q = walking-still h (walk-stop g w.is_ready rest p ∙ ap (λ (x : Shape). halted (still x)) (sym q))

    pub walking-end : length rest ≤ 0 → record { shape = g; bytes = length part; strips = strips } ≡ walk len start part
    walking-end l = let z : length part - length rest ≡ length part = omega arith in (rw z at (walking-still g (walk_none g w.is_ready rest l)))

    module _ (e : Entry) (n : ℕ) (p : read_entry len rest ≡ Some (e, n)) where
      pub walking-refused : (stepped g e).left ≡ 0 → record { shape = refused_shape; bytes = length part - length rest; strips = strips } ≡ walk len start part
      walking-refused z = walking-still refused_shape (walk_refused g w.is_ready rest e n p z)

      pub walking_on : ((stepped g e).left ≡ 0 → ⊥) → Walking start part (stepped g e) (drop n rest) (strips + ends (stepped g e))
      walking_on z =
          let t = found len rest e n p in
          let l : length (drop n rest) ≡ length rest - n = length-drop n rest in
          let a : (length part - length rest) + n ≡ length part - length (drop n rest) = omega (arith, t.within, w.within) in
          record {
            is_ready = step-ready g e w.is_ready z;
            within = omega (arith, w.within);
            few = omega (arith, t.forward, t.within, w.within, w.few, ends-few (stepped g e));
            so = sym (ap (ahead (length part - length rest) strips) (walk-passed g w.is_ready rest e n p z) ∙ ahead-ahead (length part - length rest) strips n (ends (stepped g e)) (walk len (stepped g e) (drop n rest)) ∙ ap (λ (b : ℕ). ahead b (strips + ends (stepped g e)) (walk len (stepped g e) (drop n rest))) a) ∙ w.so;
          }

  -- what holds of a walk that stops, that refuses, and of one with a step more, holds of each
  walk-each : (P : Shape → List ℕ → Walked → Type 0)
      → ((g : Shape) (s : List ℕ) → Ready g → read_entry len s ≡ None → P g s (halted (still (cond (is_cut s) g refused_shape))))
      → ((g : Shape) (s : List ℕ) (e : Entry) (n : ℕ) → Ready g → read_entry len s ≡ Some (e, n) → (stepped g e).left ≡ 0 → P g s (halted (still refused_shape)))
      → ((g : Shape) (s : List ℕ) (e : Entry) (n : ℕ) → Ready g → read_entry len s ≡ Some (e, n) → ((stepped g e).left ≡ 0 → ⊥) → (w : Walked) → P (stepped g e) (drop n s) w → P g s (ahead n (ends (stepped g e)) w))
      → (m : ℕ) (s : List ℕ) → length s ≤ m → (g : Shape) → Ready g → P g s (walk len g s)
  unfolding read_entry
  walk-each P stops refuses passes zero s l g w = none_left s l
    where
      none_left : (s : List ℕ) → length s ≤ 0 → P g s (walk len g s)
      none_left [] l = subst (P g []) (sym (walk-stop g w [] refl)) (stops g [] w refl)
      none_left (b ∷ s) l = absurd (omega arith)
  walk-each P stops refuses passes (suc m) s l g w = go (walk-each P stops refuses passes m) (read_entry len s) refl
    where
      go : ((t : List ℕ) → length t ≤ m → (h : Shape) → Ready h → P h t (walk len h t)) → (r : Read) → read_entry len s ≡ r → P g s (walk len g s)
      go ih None p = subst (P g s) (sym (walk-stop g w s p)) (stops g s w p)
      go ih (Some (e, n)) p = by (eqb (stepped g e).left 0) refl
        where
          by : (z : Bool) → eqb (stepped g e).left 0 ≡ z → P g s (walk len g s)
          by true z = subst (P g s) (sym (walk_refused g w s e n p (eqb-true _ _ z))) (refuses g s e n w p (eqb-true _ _ z))
          by false z =
              let t = found len s e n p in
              let less : length (drop n s) ≤ m = rw (length-drop n s) (omega (arith, t.forward, t.within)) in
              subst (P g s) (sym (walk-passed g w s e n p (eqb-false _ _ z)))
              (passes g s e n w p (eqb-false _ _ z) (walk len (stepped g e) (drop n s)) (ih (drop n s) less (stepped g e) (step-ready g e w (eqb-false _ _ z))))

  -- it passes no more bytes than there are
  pub walk-within : (g : Shape) → Ready g → (s : List ℕ) → (walk len g s).bytes ≤ length s
  walk-within g w s =
      walk-each (λ g s v. v.bytes ≤ length s)
      (λ g s w p. omega arith)
      (λ g s e n w p z. omega arith)
      (λ g s e n w p z v h. let t = found len s e n p in let d : length (drop n s) ≡ length s - n = length-drop n s in omega (arith, t.within))
      (length s) s (omega arith) g w

  -- and each strip that ends has a byte
  pub walk-few : (g : Shape) → Ready g → (s : List ℕ) → (walk len g s).strips ≤ (walk len g s).bytes
  walk-few g w s =
      walk-each (λ g s v. v.strips ≤ v.bytes)
      (λ g s w p. omega arith)
      (λ g s e n w p z. omega arith)
      (λ g s e n w p z v h. let t = found len s e n p in let o = ends-few (stepped g e) in omega (arith, t.forward))
      (length s) s (omega arith) g w

  -- where it refuses nothing, what is left is the beginning of an entry that is cut
  pub record Waits (g : Shape) (s : List ℕ) : Type 0 where
    pub is_ready : Ready g
    pub stops : read_entry len s ≡ None
    pub cut : is_cut s ≡ true

  pub walk-waits : (g : Shape) → Ready g → (s : List ℕ) → ((walk len g s).shape.left ≡ 0 → ⊥) → Waits (walk len g s).shape (drop (walk len g s).bytes s)
  walk-waits g w s =
      walk-each (λ g s v. (v.shape.left ≡ 0 → ⊥) → Waits v.shape (drop v.bytes s))
      (λ g s w p. stop g s w p (is_cut s) refl)
      (λ g s e n w p z x. absurd (x refl))
      (λ g s e n w p z v h x. subst (Waits v.shape) (drop-drop v.bytes n s) (h x))
      (length s) s (omega arith) g w
    where
      stop : (g : Shape) (s : List ℕ) → Ready g → read_entry len s ≡ None → (b : Bool) → is_cut s ≡ b → ((cond b g refused_shape).left ≡ 0 → ⊥) → Waits (cond b g refused_shape) s
      stop g s w p true q x = record { is_ready = w; stops = p; cut = q }
      stop g s w p false q x = absurd (x refl)

  -- a walk over two parts is the walk over the first, and then from where it stops
  Joins : Shape → List ℕ → Walked → Type 0
  Joins g s v = (t : List ℕ) → walk len g (s ++ t) ≡ ahead v.bytes v.strips (walk len v.shape (drop v.bytes s ++ t))

  joins-refused : (g : Shape) (s : List ℕ) → ((t : List ℕ) → walk len g (s ++ t) ≡ halted (still refused_shape)) → Joins g s (halted (still refused_shape))
  unfolding Joins ready
  joins-refused g s h t = h t ∙ sym (ap (ahead 0 0) (walk-unready refused_shape refl (s ++ t)))

  pub walk-append : (g : Shape) → Ready g → (s t : List ℕ) → walk len g (s ++ t) ≡ ahead (walk len g s).bytes (walk len g s).strips (walk len (walk len g s).shape (drop (walk len g s).bytes s ++ t))
  unfolding Joins
  walk-append g w s =
      walk-each Joins
      (λ g s w p. stop g s w p (is_cut s) refl)
      (λ g s e n w p z. joins-refused g s (λ t. walk_refused g w (s ++ t) e n (read_more len s t e n p) z))
      (λ g s e n w p z v h t. let f = found len s e n p in
      walk-passed g w (s ++ t) e n (read_more len s t e n p) z
      ∙ ap (λ (l : List ℕ). ahead n (ends (stepped g e)) (walk len (stepped g e) l)) (drop-append-le n s t f.within)
      ∙ ap (ahead n (ends (stepped g e))) (h t)
      ∙ ahead-ahead n (ends (stepped g e)) v.bytes v.strips (walk len v.shape (drop v.bytes (drop n s) ++ t))
      ∙ ap (λ (l : List ℕ). ahead (n + v.bytes) (ends (stepped g e) + v.strips) (walk len v.shape (l ++ t))) (drop-drop v.bytes n s))
      (length s) s (omega arith) g w
    where
      stop : (g : Shape) (s : List ℕ) → Ready g → read_entry len s ≡ None → (b : Bool) → is_cut s ≡ b → Joins g s (halted (still (cond b g refused_shape)))
      stop g s w p true q t = sym (ahead-nothing (walk len g (s ++ t)))
      stop g s w p false q t = joins-refused g s (λ t. let u = unknown-stops len s q t in walk-stop g w (s ++ t) u.0 ∙ ap (λ (b : Bool). halted (still (cond b g refused_shape))) u.1) t

  -- the walk passes the whole of a well-formed run, to the end of a strip
  Passes : Shape → List ℕ → Walked → Type 0
  Passes g s v = eqb v.bytes (length s) && eqb v.shape.left 64 ≡ pass_from g (reads_from len 0 s)

  walk-pass : (g : Shape) → Ready g → (s : List ℕ) → Passes g s (walk len g s)
  unfolding Passes pass_from reads_from is_cut
  walk-pass g w s =
      walk-each Passes stop
      (λ g s e n w p z. and-false (eqb 0 (length s)) ∙ pass-refused g (reads_from len 0 s) e n (reads_from len 0 (drop n s)) (reads-found len s e n p) z)
      (λ g s e n w p z v h. let t = found len s e n p in let d : length (drop n s) ≡ length s - n = length-drop n s in
      ap (λ (c : Bool). c && eqb v.shape.left 64) (eqb-plus n v.bytes (length s) (length (drop n s)) (omega (arith, t.within)))
      ∙ h
      ∙ pass-taken g (reads_from len 0 s) e n (reads_from len 0 (drop n s)) (reads-found len s e n p) z)
      (length s) s (omega arith) g w
    where
      stop : (g : Shape) (s : List ℕ) → Ready g → read_entry len s ≡ None → Passes g s (halted (still (cond (is_cut s) g refused_shape)))
      stop g [] w p = refl
      stop g (b ∷ s) w p = ap (λ (c : Bool). c && eqb (cond (is_cut (b ∷ s)) g refused_shape).left 64) (ne_eqb 0 (length (b ∷ s)) (λ z. omega arith)) ∙ pass-stop g (reads_from len 0 (b ∷ s)) (reads-stop len (b ∷ s) p (omega arith))

  pub walk-shape : (s : List ℕ) (g : Shape) → g ≡ fresh → (w : Walked) → w ≡ walk len g s → (all : Bool) → eqb w.bytes (length s) ≡ all → all && eqb w.shape.left 64 ≡ shape_ok len s
  unfolding Passes
  walk-shape s g f w p all q =
      ap (λ (b : Bool). b && eqb w.shape.left 64) (sym q)
      ∙ ap (λ (v : Walked). eqb v.bytes (length s) && eqb v.shape.left 64) (p ∙ ap (λ (h : Shape). walk len h s) f)
      ∙ walk-pass fresh ready-fresh s
      ∙ pass_shape len s

  -- where the run is well-formed, as many strips end as it has
  Strips : Shape → List ℕ → Walked → Type 0
  Strips g s v = (ss : List (List Entry)) → cut_at_ends (reads_from len 0 s) ≡ some ss → pass_from g (reads_from len 0 s) ≡ true → v.strips ≡ length ss

  strips-on : (e : Entry) (strips : ℕ) (o : Option (List (List Entry))) → ((ss : List (List Entry)) → o ≡ some ss → strips ≡ length ss) → (ss : List (List Entry)) → joined e o ≡ some ss → cond (is_end e) 1 0 + strips ≡ length ss
  strips-on e strips none h ss q = absurd (some-none ss (sym q))
  strips-on e strips (some ts) h ss q = go (is_end e) ts h q
    where
      go : (b : Bool) (ts : List (List Entry)) → ((us : List (List Entry)) → some ts ≡ some us → strips ≡ length us) → cond b (some ((e ∷ []) ∷ ts)) (grown e ts) ≡ some ss → cond b 1 0 + strips ≡ length ss
      go true ts h q = let n : length ((e ∷ []) ∷ ts) ≡ length ss = ap length (some_same _ _ q) in let m = h ts refl in omega arith
      go false [] h q = absurd (some-none ss (sym q))
      go false (t ∷ ts) h q = let n : length ((e ∷ t) ∷ ts) ≡ length ss = ap length (some_same _ _ q) in let m : strips ≡ length (t ∷ ts) = h (t ∷ ts) refl in omega arith

  walk-strips : (g : Shape) → Ready g → (s : List ℕ) → Strips g s (walk len g s)
  unfolding Strips cut_at_ends reads_from
  walk-strips g w s =
      walk-each Strips stop
      (λ g s e n w p z ss c q. absurd (false≢true (pass-refused g (reads_from len 0 s) e n (reads_from len 0 (drop n s)) (reads-found len s e n p) z ∙ q)))
      passed
      (length s) s (omega arith) g w
    where
      stop : (g : Shape) (s : List ℕ) → Ready g → read_entry len s ≡ None → Strips g s (halted (still (cond (is_cut s) g refused_shape)))
      stop g s w p ss c q = go s p c
        where
          go : (s : List ℕ) → read_entry len s ≡ None → cut_at_ends (reads_from len 0 s) ≡ some ss → 0 ≡ length ss
          go [] p c = ap length (some_same _ _ c)
          go (b ∷ s) p c = absurd (some-none ss (sym c ∙ ap cut_at_ends (reads-stop len (b ∷ s) p (omega arith))))

      passed : (g : Shape) (s : List ℕ) (e : Entry) (n : ℕ) → Ready g → read_entry len s ≡ Some (e, n) → ((stepped g e).left ≡ 0 → ⊥) → (v : Walked) → Strips (stepped g e) (drop n s) v → Strips g s (ahead n (ends (stepped g e)) v)
      passed g s e n w p z v h ss c q =
          ap (λ (k : ℕ). k + v.strips) (ends_is g w e z)
          ∙ strips-on e v.strips (cut_at_ends (reads_from len 0 (drop n s)))
          (λ ts d. h ts d (pass-taken g (reads_from len 0 s) e n (reads_from len 0 (drop n s)) (reads-found len s e n p) z ∙ q)) ss
          (sym (ap cut_at_ends (reads-found len s e n p)) ∙ c)

  -- so the whole is passed, and N strips are N
  pub walk-well-formed : (s : List ℕ) → shape_ok len s ≡ true → (ss : List (List Entry)) → decode len s ≡ some ss → ((walk len fresh s).bytes ≡ length s) × ((walk len fresh s).strips ≡ length ss)
  unfolding decode Strips
  walk-well-formed s ok ss d = (
    eqb-true _ _ (and_left (eqb (walk len fresh s).bytes (length s)) _ (walk-shape s fresh refl (walk len fresh s) refl _ refl ∙ ok)),
    walk-strips fresh ready-fresh s ss d (pass_shape len s ∙ ok),
  )
