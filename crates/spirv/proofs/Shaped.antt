-- What the shape test says of a strip's entries, in the form that the simulation takes.
use Rattle.std.proofs.Common.{◌≡◌, ℕ, suc, ◌≤◌, Bool, true, false, cond, not, ◌&&◌, eqb, leb, List, [], ◌∷◌, ◌++◌, length, sym, refl, ◌∙◌, true≢false, arith, eqb-true, leb-true}
use mathlib.Core.Bool.{false≢true}
use borrow.Author.Tests.{not-true}
use Rattle.strip.specs.declared.reader.Entry.{Entry}
use Rattle.strip.specs.Format.{format_of}
use Rattle.strip.specs.Entry.{kind_of, Each, Formed, wide}
use Rattle.strip.specs.Shape.{all, count, is_open, is_close, is_end, ends_once, cell_ok, makes, refs_ok, end_alone, closes_last, blocks_ok, strip_ok}
use Rattle.strip.proofs.Tests.{and_left, and_right}
use Rattle.spirv.specs.Writer.{Given, const_of, listed}
use Rattle.spirv.proofs.Simulation.{FairFrom}
use Rattle.spirv.proofs.Walk.{nothing_left, blocks}

-- ---- blocks
ended-tail : (e : Entry) (es : List Entry) → is_end e ≡ false → ends_once (e ∷ es) ≡ true → ends_once es ≡ true
unfolding ends_once
ended-tail e [] p h = absurd (true≢false (sym h ∙ p))
ended-tail e (d ∷ es) p h = and_right (not (is_end e)) _ h

ended-last : (e : Entry) (es : List Entry) → is_end e ≡ true → ends_once (e ∷ es) ≡ true → nothing_left es ≡ true
unfolding ends_once
ended-last e [] p h = refl
ended-last e (d ∷ es) p h = absurd (true≢false (sym p ∙ not-true (is_end e) (and_left (not (is_end e)) _ h)))

none_left : (f : Entry → Bool) (es : List Entry) → nothing_left es ≡ true → count f es ≡ 0
none_left f [] h = refl
none_left f (e ∷ es) h = absurd (false≢true h)

alone-opens : (es : List Entry) → end_alone es ≡ true → count is_open es ≡ 0
alone-opens [] h = refl
alone-opens (e ∷ []) h = rw (eqb-true (kind_of e) 255 h)
alone-opens (e ∷ d ∷ es) h = absurd (false≢true h)

inside : (es : List Entry) → ends_once es ≡ true → count is_open es ≡ 0 → count is_close es ≡ 1 → closes_last es ≡ true → blocks true es ≡ true
unfolding blocks closes_last
inside [] h o c l = absurd (omega arith)
inside (e ∷ es) h o c l = go (is_open e) refl (is_close e) refl (is_end e) refl (λ p q r. inside es (ended-tail e es p h) q r (and_right (cond (is_close e) (end_alone es) true) _ l)) o c l
  where
    go : (x : Bool) → is_open e ≡ x → (y : Bool) → is_close e ≡ y → (z : Bool) → is_end e ≡ z
        → (is_end e ≡ false → count is_open es ≡ 0 → count is_close es ≡ 1 → blocks true es ≡ true)
        → cond x (suc (count is_open es)) (count is_open es) ≡ 0 → cond y (suc (count is_close es)) (count is_close es) ≡ 1 → cond y (end_alone es) true && closes_last es ≡ true
        → cond x (false && blocks true es) (cond y (true && end_alone es) (cond z (false && nothing_left es) (blocks true es))) ≡ true
    go true x y q z r ih o c l = absurd (omega arith)
    go false x true q z r ih o c l = and_left (end_alone es) _ l
    go false x false q true r ih o c l = let n = none_left is_close es (ended-last e es r h) in absurd (omega arith)
    go false x false q false r ih o c l = ih r o c

outside : (es : List Entry) → ends_once es ≡ true → count is_open es ≤ 1 → count is_open es ≡ count is_close es → closes_last es ≡ true → blocks false es ≡ true
unfolding blocks closes_last ends_once
outside [] h o c l = absurd (false≢true h)
outside (e ∷ es) h o c l = go (is_open e) refl (is_close e) refl (is_end e) refl (λ p q r. outside es (ended-tail e es p h) q r (and_right (cond (is_close e) (end_alone es) true) _ l)) o c l
  where
    go : (x : Bool) → is_open e ≡ x → (y : Bool) → is_close e ≡ y → (z : Bool) → is_end e ≡ z
        → (is_end e ≡ false → count is_open es ≤ 1 → count is_open es ≡ count is_close es → blocks false es ≡ true)
        → cond x (suc (count is_open es)) (count is_open es) ≤ 1 → cond x (suc (count is_open es)) (count is_open es) ≡ cond y (suc (count is_close es)) (count is_close es) → cond y (end_alone es) true && closes_last es ≡ true
        → cond x (true && blocks true es) (cond y (false && end_alone es) (cond z (true && nothing_left es) (blocks false es))) ≡ true
    go true x true q z r ih o c l = let a = eqb-true (kind_of e) 100 x in let b = eqb-true (kind_of e) 101 q in absurd (omega arith)
    go true x false q z r ih o c l =
        let a = eqb-true (kind_of e) 100 x in
        let n : is_end e ≡ false = rw a in
        inside es (ended-tail e es n h) (omega arith) (omega arith) l
    go false x true q z r ih o c l = let n = alone-opens es (and_left (end_alone es) _ l) in absurd (omega arith)
    go false x false q true r ih o c l = ended-last e es r h
    go false x false q false r ih o c l = ih r o c

pub shaped-blocks : (es : List Entry) → strip_ok es ≡ true → blocks false es ≡ true
unfolding strip_ok blocks_ok
shaped-blocks es h =
    let n = and_left (ends_once es) _ h in
    let b = and_right (refs_ok [] es) _ (and_right (all (λ e. cell_ok (format_of (kind_of e)) e) es) _ (and_right (leb (length es) 64) _ (and_right (ends_once es) _ h))) in
    let o = leb-true (count is_open es) 1 (and_left (leb (count is_open es) 1) _ b) in
    let c = and_right (leb (count is_open es) 1) _ b in
    outside es n o (eqb-true (count is_open es) (count is_close es) (and_left (eqb (count is_open es) (count is_close es)) _ c)) (and_right (eqb (count is_open es) (count is_close es)) _ c)

-- ---- entries
module _ (g : Given) (cs : List ℕ) where
  fair-from : (es : List Entry) (before : List ℕ) → Each (Formed wide) es → all (λ e. cell_ok (format_of (kind_of e)) e) es ≡ true → refs_ok before es ≡ true → all (λ e. all (listed g.constants) (const_of e)) es ≡ true → FairFrom g cs before es
  unfolding refs_ok
  fair-from [] before f c r k = tt
  fair-from (e ∷ es) before f c r k = (
    record { body = f.0.body; cells = and_left (cell_ok (format_of (kind_of e)) e) _ c; refs = and_left (Rattle.strip.specs.Shape.refs_pass (Rattle.strip.specs.Shape.names before) (format_of (kind_of e)).operands (Rattle.strip.specs.Entry.refs_of e)) _ r; consts = and_left (all (listed g.constants) (const_of e)) _ k },
    fair-from es (before ++ makes e) f.1 (and_right (cell_ok (format_of (kind_of e)) e) _ c) (and_right (Rattle.strip.specs.Shape.refs_pass (Rattle.strip.specs.Shape.names before) (format_of (kind_of e)).operands (Rattle.strip.specs.Entry.refs_of e)) _ r) (and_right (all (listed g.constants) (const_of e)) _ k),
  )

  pub shaped-fair : (es : List Entry) → Each (Formed wide) es → strip_ok es ≡ true → all (λ e. all (listed g.constants) (const_of e)) es ≡ true → FairFrom g cs [] es
  unfolding strip_ok
  shaped-fair es f h k =
      let a = and_right (leb (length es) 64) _ (and_right (ends_once es) _ h) in
      let b = and_right (all (λ e. cell_ok (format_of (kind_of e)) e) es) _ a in
      fair-from es [] f (and_left (all (λ e. cell_ok (format_of (kind_of e)) e) es) _ a) (and_left (refs_ok [] es) _ b) k
