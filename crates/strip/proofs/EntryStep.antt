-- One step of the pass, body by body, as the code tests it.
use mathlib.Core.Path.{◌≡◌, refl, ap, ap₂, ◌∙◌}
use mathlib.Core.List.{List, [], ◌∷◌}
use mathlib.Core.Bool.{Bool, true, false, cond, ◌&&◌, and-true}
use Prim.Native.Nat.{ℕ, ◌<◌}
use native.Mathlib.Omega.{arith}
use lib.Dec.{ltb, leb, eqb, leb-zero}
use borrow.Author.Tests.{ltb-true, lt-ltb, ne_eqb}
use Rattle.strip.specs.declared.format.Body.{Body}
use Rattle.strip.specs.declared.reader.Entry.{Entry}
use Rattle.strip.specs.declared.reader.Entry.TheVariants.{Bare, Word, Cell, Store, One, Two, Three, Four}
use Rattle.strip.specs.declared.shape.Shape.{Shape}
use Rattle.strip.specs.Format.{format_of}
use Rattle.strip.specs.Entry.{kind_of, cells_of, refs_of}
use Rattle.strip.specs.Shape.{cell_in, cell_ok, refs_pass}
use Rattle.strip.specs.Pass.{bit_at, values_mask, has, refused_shape, after, entry_ok, stepped, placed, opened, closed}
use Rattle.strip.specs.Pass as P
use Rattle.strip.proofs.Table.{least_by_lem, limit-by, operands-by, result-by, no-open, no-close, no_end, one_last, one-low}

-- a step that refuses nothing is what stands for a passed test
pub taken : (t : Bool) (x h : Shape) → h ≡ cond t x refused_shape → (h.left ≡ 0 → ⊥) → (t ≡ true) × (h ≡ x)
taken true x h p some = (refl, p)
taken false x h p some = absurd (some (ap (λ (g : Shape). g.left) p))

module _ (g : Shape) where
  -- an entry that opens, closes and ends nothing
  plain_step : (e : Entry) → eqb (kind_of e) 100 ≡ false → eqb (kind_of e) 101 ≡ false → eqb (kind_of e) 255 ≡ false → (b : Bool) → entry_ok g e ≡ b → (kind : ℕ) → (format_of (kind_of e)).result ≡ kind → stepped g e ≡ cond b (placed g kind) refused_shape
  unfolding stepped after
  plain_step e o c x b fit kind res = rw (o, c, x, fit, res)

  -- the parts of the test
  no_cells : (e : Entry) → cells_of e ≡ [] → (kinds : List ℕ) → (format_of (kind_of e)).operands ≡ kinds → entry_ok g e ≡ refs_pass (has g) kinds (refs_of e)
  unfolding entry_ok cell_ok
  no_cells e none kinds ops = rw (none, ops)

  mask-cond : (b : Bool) (x y : ℕ) → values_mask g (cond b x y) ≡ cond b (values_mask g x) (values_mask g y)
  mask-cond true x y = refl
  mask-cond false x y = refl

  pub step-word : (w : ℕ) → stepped g (Word w) ≡ placed g 1
  unfolding kind_of cells_of refs_of format_of refs_pass
  step-word w = plain_step (Word w) refl refl refl true (no_cells (Word w) refl [] refl) 1 refl

  -- close and end
  pub step-close : stepped g (Bare 101) ≡ closed g
  unfolding stepped after entry_ok cell_ok kind_of cells_of refs_of refs_pass format_of
  step-close = refl

  pub step_end : stepped g (Bare 255) ≡ P.ended g
  unfolding stepped after entry_ok cell_ok kind_of cells_of refs_of refs_pass format_of
  step_end = refl

  module _ (k : ℕ) (h : k < 256) where
    pub step-bare : (format_of k).body ≡ Body.Bare → eqb k 255 ≡ false → eqb k 101 ≡ false → stepped g (Bare k) ≡ placed g 2
    unfolding kind_of cells_of refs_of refs_pass
    step-bare b x c =
        plain_step (Bare k) (no-open k h (rw b refl)) c x true (no_cells (Bare k) refl [] (rw b at (operands-by k h))) 2 (rw (b, x, c) at (result-by k h))

    pub step-cell : (format_of k).body ≡ Body.Cell → (n : ℕ) → stepped g (Cell k n) ≡ cond (leb (cond (eqb k 110) 1 0) n && ltb n (cond (eqb k 4) 255 (cond (eqb k 10) 32 (cond (eqb k 110) 6 (cond (eqb k 5) 7 4))))) (placed g (cond (eqb k 4) 1 (cond (eqb k 10) 3 (cond (eqb k 110) 0 2)))) refused_shape
    unfolding kind_of entry_ok cell_ok cells_of refs_of refs_pass
    step-cell b n = plain_step (Cell k n) (no-open k h (rw b refl)) (no-close k h (rw b refl)) (no_end k h (rw b refl)) _ fit _ (rw b at (result-by k h))
      where
        fit : entry_ok g (Cell k n) ≡ leb (cond (eqb k 110) 1 0) n && ltb n (cond (eqb k 4) 255 (cond (eqb k 10) 32 (cond (eqb k 110) 6 (cond (eqb k 5) 7 4))))
        fit =
            ap (λ (kinds : List ℕ). ((cell_in (format_of k) n && true) && refs_pass (has g) kinds [])) (rw b at (operands-by k h))
            ∙ and-true (cell_in (format_of k) n && true)
            ∙ and-true (cell_in (format_of k) n)
            ∙ ap₂ (λ (l m : ℕ). leb l n && ltb n m) (rw b at (least_by_lem k h)) (rw b at (limit-by k h))

    pub step-flag : (format_of k).body ≡ Body.Cell → eqb k 4 ≡ false → eqb k 10 ≡ false → eqb k 110 ≡ false → (n : ℕ) → stepped g (Cell k n) ≡ cond (ltb n (cond (eqb k 5) 7 4)) (placed g 2) refused_shape
    step-flag b p q r n = rw (p, q, r, leb-zero) at (step-cell b n)

    pub step-store : (format_of k).body ≡ Body.Store → (n r : ℕ) → stepped g (Store k n r) ≡ cond (ltb n (cond (eqb k 7) 255 (cond (eqb k 8) 7 4)) && bit_at (cond (eqb k 7) g.words g.truths) r) (placed g 0) refused_shape
    unfolding kind_of entry_ok cell_ok cells_of refs_of refs_pass values_mask
    step-store b n r = plain_step (Store k n r) (no-open k h (rw b refl)) (no-close k h (rw b refl)) (no_end k h (rw b refl)) _ fit _ (rw b at (result-by k h))
      where
        fit : entry_ok g (Store k n r) ≡ ltb n (cond (eqb k 7) 255 (cond (eqb k 8) 7 4)) && bit_at (cond (eqb k 7) g.words g.truths) r
        fit =
            ap (λ (kinds : List ℕ). ((cell_in (format_of k) n && true) && refs_pass (has g) kinds (r ∷ []))) (rw b at (operands-by k h))
            ∙ ap₂ ◌&&◌ (and-true (cell_in (format_of k) n) ∙ ap₂ (λ (l m : ℕ). leb l n && ltb n m) (rw b at (least_by_lem k h)) (rw b at (limit-by k h)) ∙ ap (λ (t : Bool). t && ltb n (cond (eqb k 7) 255 (cond (eqb k 8) 7 4))) (leb-zero n))
            (and-true (has g (cond (eqb k 7) 1 2) r) ∙ ap (λ (m : ℕ). bit_at m r) (mask-cond (eqb k 7) 1 2))

    -- a load at an address, an operation on a word, not of a truth, open
    after_one : (format_of k).body ≡ Body.One → after g k ≡ cond (ltb k 80) (placed g 1) (cond (ltb k 100) (placed g 2) (opened g))
    unfolding after
    after_one b = go (ltb k 100) refl
      where
        placed-cond : (b : Bool) → placed g (cond b 1 2) ≡ cond b (placed g 1) (placed g 2)
        placed-cond true = refl
        placed-cond false = refl

        go : (l : Bool) → ltb k 100 ≡ l → after g k ≡ cond (ltb k 80) (placed g 1) (cond l (placed g 2) (opened g))
        go true l =
            let m = ltb-true k 100 l in
            rw (ne_eqb k 100 (λ z. omega arith), no-close k h (rw b refl), no_end k h (rw b refl))
            (ap (λ (kind : ℕ). placed g kind) (rw (b, l) at (result-by k h)) ∙ placed-cond (ltb k 80))
        go false l = rw (one_last k h b l)

    pub step-one : (format_of k).body ≡ Body.One → (a : ℕ) → stepped g (One k a) ≡ cond (bit_at (cond (eqb k 12) g.addresses (cond (ltb k 80) g.words g.truths)) a) (cond (ltb k 80) (placed g 1) (cond (ltb k 100) (placed g 2) (opened g))) refused_shape
    unfolding stepped kind_of cells_of refs_of refs_pass values_mask
    step-one b a = ap₂ (λ (t : Bool) (s : Shape). cond t s refused_shape) fit (after_one b)
      where
        fit : entry_ok g (One k a) ≡ bit_at (cond (eqb k 12) g.addresses (cond (ltb k 80) g.words g.truths)) a
        fit =
            no_cells (One k a) refl _ (rw b at (operands-by k h))
            ∙ and-true (has g (cond (eqb k 12) 4 (cond (ltb k 80) 1 2)) a)
            ∙ ap (λ (m : ℕ). bit_at m a) (mask-cond (eqb k 12) 4 (cond (ltb k 80) 1 2) ∙ ap (cond (eqb k 12) g.addresses) (mask-cond (ltb k 80) 1 2))

    pub step-unary : (format_of k).body ≡ Body.One → eqb k 12 ≡ false → eqb k 80 ≡ false → eqb k 100 ≡ false → (a : ℕ) → stepped g (One k a) ≡ cond (bit_at g.words a) (placed g 1) refused_shape
    step-unary b p q r a = rw (p, one-low k h b q r) at (step-one b a)

    pub step-two : (format_of k).body ≡ Body.Two → (a b : ℕ) → stepped g (Two k a b) ≡ cond (bit_at (cond (ltb k 80) g.words g.truths) a && bit_at (cond (ltb k 80) g.words g.truths) b) (placed g (cond (ltb k 60) 1 2)) refused_shape
    unfolding kind_of cells_of refs_of refs_pass values_mask
    step-two y a b = plain_step (Two k a b) (no-open k h (rw y refl)) (no-close k h (rw y refl)) (no_end k h (rw y refl)) _ fit _ (rw y at (result-by k h))
      where
        fit : entry_ok g (Two k a b) ≡ bit_at (cond (ltb k 80) g.words g.truths) a && bit_at (cond (ltb k 80) g.words g.truths) b
        fit =
            no_cells (Two k a b) refl _ (rw y at (operands-by k h))
            ∙ ap (λ (t : Bool). has g (cond (ltb k 80) 1 2) a && t) (and-true (has g (cond (ltb k 80) 1 2) b))
            ∙ ap (λ (m : ℕ). bit_at m a && bit_at m b) (mask-cond (ltb k 80) 1 2)

    pub step-binary : (format_of k).body ≡ Body.Two → ltb k 60 ≡ true → (a b : ℕ) → stepped g (Two k a b) ≡ cond (bit_at g.words a && bit_at g.words b) (placed g 1) refused_shape
    step-binary y p a b = let l = ltb-true k 60 p in rw (p, lt-ltb k 80 (omega arith)) at (step-two y a b)

    pub step-compare : (format_of k).body ≡ Body.Two → ltb k 60 ≡ false → ltb k 80 ≡ true → (a b : ℕ) → stepped g (Two k a b) ≡ cond (bit_at g.words a && bit_at g.words b) (placed g 2) refused_shape
    step-compare y p q a b = rw (p, q) at (step-two y a b)

    pub step-logic : (format_of k).body ≡ Body.Two → ltb k 60 ≡ false → ltb k 80 ≡ false → (a b : ℕ) → stepped g (Two k a b) ≡ cond (bit_at g.truths a && bit_at g.truths b) (placed g 2) refused_shape
    step-logic y p q a b = rw (p, q) at (step-two y a b)

    pub step-three : (format_of k).body ≡ Body.Three → (a b c : ℕ) → stepped g (Three k a b c) ≡ cond (bit_at (cond (eqb k 90) g.truths g.words) a && (bit_at g.words b && bit_at g.words c)) (placed g 1) refused_shape
    unfolding kind_of cells_of refs_of refs_pass values_mask
    step-three y a b c = plain_step (Three k a b c) (no-open k h (rw y refl)) (no-close k h (rw y refl)) (no_end k h (rw y refl)) _ fit _ (rw y at (result-by k h))
      where
        fit : entry_ok g (Three k a b c) ≡ bit_at (cond (eqb k 90) g.truths g.words) a && (bit_at g.words b && bit_at g.words c)
        fit =
            no_cells (Three k a b c) refl _ (rw y at (operands-by k h))
            ∙ ap₂ (λ (s t : Bool). s && (has g 1 b && t)) (ap (λ (m : ℕ). bit_at m a) (mask-cond (eqb k 90) 2 1)) (and-true (has g 1 c))

    pub step-four : (format_of k).body ≡ Body.Four → (a b c d : ℕ) → stepped g (Four k a b c d) ≡ cond (bit_at (cond (eqb k 11) g.slots g.words) a && (bit_at g.words b && (bit_at g.words c && bit_at g.words d))) (placed g (cond (eqb k 11) 4 1)) refused_shape
    unfolding kind_of cells_of refs_of refs_pass values_mask
    step-four y a b c d = plain_step (Four k a b c d) (no-open k h (rw y refl)) (no-close k h (rw y refl)) (no_end k h (rw y refl)) _ fit _ (rw y at (result-by k h))
      where
        fit : entry_ok g (Four k a b c d) ≡ bit_at (cond (eqb k 11) g.slots g.words) a && (bit_at g.words b && (bit_at g.words c && bit_at g.words d))
        fit =
            no_cells (Four k a b c d) refl _ (rw y at (operands-by k h))
            ∙ ap₂ (λ (s t : Bool). s && (has g 1 b && (has g 1 c && t))) (ap (λ (m : ℕ). bit_at m a) (mask-cond (eqb k 11) 3 1)) (and-true (has g 1 d))

  -- the kinds that stand alone in their body
  pub step-register : (n : ℕ) → stepped g (Cell 4 n) ≡ cond (ltb n 255) (placed g 1) refused_shape
  unfolding format_of
  step-register n = rw leb-zero at (step-cell 4 (omega arith) refl n)

  pub step-slot : (n : ℕ) → stepped g (Cell 10 n) ≡ cond (ltb n 32) (placed g 3) refused_shape
  unfolding format_of
  step-slot n = rw leb-zero at (step-cell 10 (omega arith) refl n)

  pub step-note : (n : ℕ) → stepped g (Cell 110 n) ≡ cond (leb 1 n && ltb n 6) (placed g 0) refused_shape
  unfolding format_of
  step-note n = step-cell 110 (omega arith) refl n

  pub step-load-at : (a : ℕ) → stepped g (One 12 a) ≡ cond (bit_at g.addresses a) (placed g 1) refused_shape
  unfolding format_of
  step-load-at a = step-one 12 (omega arith) refl a

  pub step-negate : (a : ℕ) → stepped g (One 80 a) ≡ cond (bit_at g.truths a) (placed g 2) refused_shape
  unfolding format_of
  step-negate a = step-one 80 (omega arith) refl a

  pub step-open : (a : ℕ) → stepped g (One 100 a) ≡ cond (bit_at g.truths a) (opened g) refused_shape
  unfolding format_of
  step-open a = step-one 100 (omega arith) refl a
