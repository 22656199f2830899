-- The blocks of a strip's instructions are in order, ids are used in their scope, and constants stand before the body.
use Rattle.std.proofs.Common.{◌≡◌, ℕ, suc, Bool, true, false, not, eqb, List, [], ◌∷◌, ◌++◌, sym, refl, ap, ◌∙◌, arith, eq-eqb, ne_eqb}
use mathlib.Core.Bool.{or-true}
use Rattle.strip.specs.declared.reader.Entry.{Entry}
use Rattle.strip.specs.Entry.{Each, Formed, wide}
use Rattle.strip.specs.Shape.{all, strip_ok}
use Rattle.strip.proofs.Tests.{and_right}
use Rattle.spirv.specs.Instr.{Instr, instr}
use Rattle.spirv.specs.Reading.{labels}
use Rattle.spirv.specs.Valid.{results_of, InBlock, structured_from, structured, until, since, unused, scoped, declares, laid_out}
use Rattle.spirv.specs.Writer.{Const, Given, Plan, Silent, Known, Made, Stores, Opens, Closes, Midway, instrs_by, after, body_from, const_instrs, given_of, start_of, instrs_of_strip}
use Rattle.spirv.proofs.Shaped.{shaped-blocks}
use Rattle.spirv.proofs.Walk.{Calm, Straight, const-all, waiting, bodied, walk}

-- ---- blocks

abbrev Ordered : Bool → Midway → List Instr → Midway → Type 0
Ordered i w is l = structured_from InBlock (waiting i w) is ≡ true

closed : (w : Midway) → Ordered true w (instrs_by w Closes) w
unfolding instrs_by structured_from labels
closed w = rw (eq-eqb w.merge w.merge refl)

opened : (w : Midway) (c : ℕ) (is : List Instr) (l : Midway) → Ordered true (after w (Opens c)) is l → Ordered false w (instrs_by w (Opens c) ++ is) l
unfolding instrs_by after structured_from labels
opened w c is l h = rw (eq-eqb w.next w.next refl, eq-eqb (suc w.next) (suc w.next) refl) h

in_block : (ms : List ℕ) (i : Instr) (is : List Instr) → Calm i.op → structured_from InBlock ms (i ∷ is) ≡ structured_from InBlock ms is
unfolding structured_from
in_block ms i is c = rw (c.merge, c.label, c.branch, c.conditional)

waits : (w v : Midway) → v.merge ≡ w.merge → (i : Bool) → waiting i v ≡ waiting i w
waits w v e true = ap (λ (m : ℕ). m ∷ []) e
waits w v e false = refl

gone : (i : Bool) (w : Midway) (p : Plan) (is : List Instr) (l : Midway) → Straight p → Ordered i (after w p) is l → Ordered i w (instrs_by w p ++ is) l
unfolding instrs_by after structured_from
gone i w Silent is l s h = h
gone i w (Known x) is l s h = rw (waits w (after w (Known x)) refl i) at h
gone i w (Made op t xs b) is l s h = in_block (waiting i w) (instr op (t ∷ w.next ∷ xs)) is s ∙ (rw (waits w (after w (Made op t xs b)) refl i) at h)
gone i w (Stores p v) is l s h = h
gone i w (Opens c) is l s h = absurd s
gone i w Closes is l s h = absurd s

module _ (g : Given) where
  consts-ordered : (ks : List Const) (i : ℕ) (is : List Instr) → structured (const_instrs g i ks ++ is) ≡ structured is
  unfolding const_instrs structured_from
  consts-ordered [] i is = refl
  consts-ordered (k ∷ ks) i is = const-all g i k (λ (c : Instr). structured (c ∷ const_instrs g (suc i) ks ++ is) ≡ structured (const_instrs g (suc i) ks ++ is)) refl refl refl ∙ consts-ordered ks (suc i) is

pub strip-structured : (table : List ℕ) (bound : ℕ) (es : List Entry) → Each (Formed wide) es → strip_ok es ≡ true → structured (instrs_of_strip table bound es) ≡ true
unfolding instrs_of_strip structured_from
strip-structured table bound es f h =
    let g : Given = given_of table bound es in
    consts-ordered g g.constants bound (body_from g (start_of g) es) ∙ walk g Ordered (λ w. refl) closed opened gone es (bodied es f) false (shaped-blocks es h) (start_of g)

-- ---- scope: nothing stands after the merge label
abbrev Nothing-since : Bool → Midway → List Instr → Type 0
Nothing-since true w is = since w.merge is ≡ []
Nothing-since false w is = Unit {0}

abbrev Scoped : Bool → Midway → List Instr → Midway → Type 0
Scoped i w is l = (scoped is ≡ true) × Nothing-since i w is

nothing-since : (w v : Midway) (is js : List Instr) → v.merge ≡ w.merge → since w.merge js ≡ since w.merge is → (i : Bool) → Nothing-since i v is → Nothing-since i w js
nothing-since w v is js e p true h = p ∙ ap (λ (m : ℕ). since m is) (sym e) ∙ h
nothing-since w v is js e p false h = tt

unused-by-none : (xs : List ℕ) → all (unused []) xs ≡ true
unused-by-none [] = refl
unused-by-none (x ∷ xs) = unused-by-none xs

scope-closed : (w : Midway) → Scoped true w (instrs_by w Closes) w
unfolding instrs_by scoped since labels
scope-closed w = (refl, rw (eq-eqb w.merge w.merge refl))

scope-opened : (w : Midway) (c : ℕ) (is : List Instr) (l : Midway) → Scoped true (after w (Opens c)) is l → Scoped false w (instrs_by w (Opens c) ++ is) l
unfolding instrs_by after scoped since labels
scope-opened w c is l h =
    let n : eqb w.next (suc w.next) ≡ false = ne_eqb w.next (suc w.next) (λ (q : w.next ≡ suc w.next). absurd (omega arith)) in
    (rw (n, h.1, unused-by-none (results_of (until (suc w.next) (instr 250 (c ∷ w.next ∷ suc w.next ∷ []) ∷ instr 248 (w.next ∷ []) ∷ is)))) h.0, tt)

scope-gone : (i : Bool) (w : Midway) (p : Plan) (is : List Instr) (l : Midway) → Straight p → Scoped i (after w p) is l → Scoped i w (instrs_by w p ++ is) l
unfolding instrs_by after scoped since labels
scope-gone i w Silent is l s h = h
scope-gone i w (Known x) is l s h = (h.0, nothing-since w (after w (Known x)) is is refl refl i h.1)
scope-gone i w (Made op t xs b) is l s h = (rw s.merge h.0, nothing-since w (after w (Made op t xs b)) is (instrs_by w (Made op t xs b) ++ is) refl refl i h.1)
scope-gone i w (Stores p v) is l s h = (h.0, nothing-since w w is (instrs_by w (Stores p v) ++ is) refl refl i h.1)
scope-gone i w (Opens c) is l s h = absurd s
scope-gone i w Closes is l s h = absurd s

module _ (g : Given) where
  consts-scoped : (ks : List Const) (i : ℕ) (is : List Instr) → scoped (const_instrs g i ks ++ is) ≡ scoped is
  unfolding const_instrs scoped
  consts-scoped [] i is = refl
  consts-scoped (k ∷ ks) i is = const-all g i k (λ (c : Instr). scoped (c ∷ const_instrs g (suc i) ks ++ is) ≡ scoped (const_instrs g (suc i) ks ++ is)) refl refl refl ∙ consts-scoped ks (suc i) is

pub strip-scoped : (table : List ℕ) (bound : ℕ) (es : List Entry) → Each (Formed wide) es → strip_ok es ≡ true → scoped (instrs_of_strip table bound es) ≡ true
unfolding instrs_of_strip scoped
strip-scoped table bound es f h =
    let g : Given = given_of table bound es in
    consts-scoped g g.constants bound (body_from g (start_of g) es) ∙ (walk g Scoped (λ w. (refl, tt)) scope-closed scope-opened scope-gone es (bodied es f) false (shaped-blocks es h) (start_of g)).0

-- ---- layout
abbrev Bodily : List Instr → Type 0
Bodily is = all (λ j. not (declares j.op)) is ≡ true

body-gone : (i : Bool) (w : Midway) (p : Plan) (is : List Instr) (l : Midway) → Straight p → Bodily is → Bodily (instrs_by w p ++ is)
unfolding instrs_by
body-gone i w Silent is l s h = h
body-gone i w (Known x) is l s h = h
body-gone i w (Made op t xs b) is l s h = rw s.constant h
body-gone i w (Stores p v) is l s h = h
body-gone i w (Opens c) is l s h = absurd s
body-gone i w Closes is l s h = absurd s

body-laid : (is : List Instr) → Bodily is → laid_out is ≡ true
unfolding laid_out
body-laid [] h = refl
body-laid (i ∷ is) h = let r = and_right (not (declares i.op)) _ h in rw (r, body-laid is r, or-true (declares i.op))

module _ (g : Given) where
  consts-laid : (ks : List Const) (i : ℕ) (is : List Instr) → laid_out (const_instrs g i ks ++ is) ≡ laid_out is
  unfolding const_instrs laid_out
  consts-laid [] i is = refl
  consts-laid (k ∷ ks) i is = const-all g i k (λ (c : Instr). laid_out (c ∷ const_instrs g (suc i) ks ++ is) ≡ laid_out (const_instrs g (suc i) ks ++ is)) refl refl refl ∙ consts-laid ks (suc i) is

pub strip-laid : (table : List ℕ) (bound : ℕ) (es : List Entry) → Each (Formed wide) es → strip_ok es ≡ true → laid_out (instrs_of_strip table bound es) ≡ true
unfolding instrs_of_strip instrs_by
strip-laid table bound es f h =
    let g : Given = given_of table bound es in
    consts-laid g g.constants bound (body_from g (start_of g) es)
    ∙ body-laid (body_from g (start_of g) es) (walk g (λ i w is l. Bodily is) (λ w. refl) (λ w. refl) (λ w c is l q. q) body-gone es (bodied es f) false (shaped-blocks es h) (start_of g))
