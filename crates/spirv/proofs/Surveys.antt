-- The shape and the constants in the pass over the bytes: what each turn keeps, and what it comes to.
use Rattle.std.specs.Prelude.{Some, None}
use Rattle.std.proofs.Common.{◌≡◌, ℕ, suc, ◌+◌, ◌<◌, ◌≤◌, Bool, true, false, cond, ◌||◌, eqb, List, [], ◌∷◌, ◌++◌, length, drop, sym, refl, ap, ◌∙◌, arith, length-append, eq-eqb, ne_eqb, eqb-true}
use mathlib.Core.Option.{Option, none, some}
use mathlib.Core.Bool.{false≢true}
use borrow.Author.Tests.{eqb-false}
use Rattle.strip.specs.declared.reader.Entry.{Entry}
use Rattle.strip.specs.declared.reader.Entry.TheVariants as Of
use Rattle.strip.specs.declared.shape.Shape.{Shape}
use Rattle.strip.specs.Entry.{Read, wide, kind_of, read_entry, reads_from}
use Rattle.strip.specs.Shape.{is_end, grown, joined, cut_at_ends, decode, shape_ok}
use Rattle.strip.specs.Pass.{Ready, fresh, refused_shape, after, entry_ok, stepped, pass_from}
use Rattle.strip.specs.Pass as Pass
use Rattle.strip.proofs.EntryRead.{reads-found, reads-stop, reads_none}
use Rattle.strip.proofs.Pass.{pass_shape, ready-fresh, step-ready, left-falls}
use Rattle.spirv.specs.Writer.{Const, const, const_of, listed, with_new, constants_from, constants_of}
use Rattle.spirv.specs.Page.{ending, survey_from}

-- ---- reading that gives one strip

-- what is not empty has a strip
pub cut-none : (rs : List Read) → cut_at_ends rs ≡ some [] → rs ≡ []
unfolding cut_at_ends
cut-none [] q = refl
cut-none (None ∷ rs) q = let z : ◌≡◌ {A = ℕ} 0 1 = cc in absurd (omega arith)
cut-none (Some (e, n) ∷ rs) q = absurd (never (cut_at_ends rs) q)
  where
    by_end : (b : Bool) (ss : List (List Entry)) → cond b (some ((e ∷ []) ∷ ss)) (grown e ss) ≡ some [] → ⊥
    by_end true ss q = let z : ◌≡◌ {A = ℕ} 0 1 = cc in absurd (omega arith)
    by_end false [] q = let z : ◌≡◌ {A = ℕ} 0 1 = cc in absurd (omega arith)
    by_end false (s ∷ ss) q = let z : ◌≡◌ {A = ℕ} 0 1 = cc in absurd (omega arith)

    never : (o : Option (List (List Entry))) → joined e o ≡ some [] → ⊥
    never none q = let z : ◌≡◌ {A = ℕ} 0 1 = cc in absurd (omega arith)
    never (some ss) q = by_end (is_end e) ss q

-- the first entry of the only strip is its end, or the rest is a strip's
module _ (e : Entry) (es : List Entry) where
  pub only_end : (o : Option (List (List Entry))) → is_end e ≡ true → joined e o ≡ some (es ∷ []) → (o ≡ some []) × (es ≡ e ∷ [])
  only_end none x h = let z : ◌≡◌ {A = ℕ} 0 1 = cc in absurd (omega arith)
  only_end (some us) x h =
      let y : ◌≡◌ {A = Option (List (List Entry))} (some ((e ∷ []) ∷ us)) (some (es ∷ [])) = rw x at h in
      let u : us ≡ [] = cc in
      (ap some u, cc)

  pub only-more : (o : Option (List (List Entry))) → is_end e ≡ false → joined e o ≡ some (es ∷ []) → (s : List Entry) × (o ≡ some (s ∷ [])) × (es ≡ e ∷ s)
  only-more none x h = let z : ◌≡◌ {A = ℕ} 0 1 = cc in absurd (omega arith)
  only-more (some []) x h =
      let y : ◌≡◌ {A = Option (List (List Entry))} none (some (es ∷ [])) = rw x at h in
      let z : ◌≡◌ {A = ℕ} 0 1 = cc in absurd (omega arith)
  only-more (some (s ∷ ss)) x h =
      let y : ◌≡◌ {A = Option (List (List Entry))} (some ((e ∷ s) ∷ ss)) (some (es ∷ [])) = rw x at h in
      let u : ss ≡ [] = cc in
      (s, ap (λ (l : List (List Entry)). some (s ∷ l)) u, cc)

-- ---- the pass
-- 64 entries may come after the end alone
end-full : (g : Shape) → Ready g → (e : Entry) → ((stepped g e).left ≡ 0 → ⊥) → eqb (stepped g e).left 64 ≡ is_end e
unfolding stepped after Pass.ended
end-full g w e z = go (is_end e) refl
  where
    last : (a b : Bool) → ((cond a (cond b refused_shape fresh) refused_shape).left ≡ 0 → ⊥) → eqb (cond a (cond b refused_shape fresh) refused_shape).left 64 ≡ true
    last false b z = absurd (z refl)
    last true true z = absurd (z refl)
    last true false z = refl

    go : (b : Bool) → is_end e ≡ b → eqb (stepped g e).left 64 ≡ b
    go true x = let k = eqb-true (kind_of e) 255 x in rw k (last (entry_ok g e) g.inside (rw k at z))
    go false x = let l = left-falls g e w x in let v = w.values in rw (ne_eqb (stepped g e).left 64 (λ q. omega arith))

-- an entry has one constant at most
one-le : (l : List Const) (k : Const) → length (with_new l (k ∷ [])) ≤ suc (length l)
unfolding with_new
one-le l k = go (listed l k)
  where
    go : (b : Bool) → length (cond b l (l ++ (k ∷ []))) ≤ suc (length l)
    go true = omega arith
    go false = rw (length-append l (k ∷ [])) (omega arith)

noted-le : (l : List Const) (e : Entry) → length (with_new l (const_of e)) ≤ suc (length l)
unfolding const_of with_new
noted-le l (Of.Bare k) = go (eqb k 2 || eqb k 3)
  where
    go : (b : Bool) → length (with_new l (cond b (const k 0 ∷ []) [])) ≤ suc (length l)
    go true = one-le l (const k 0)
    go false = omega arith
noted-le l (Of.Word w) = one-le l (const 1 w)
noted-le l (Of.Cell k n) = omega arith
noted-le l (Of.Store k n r) = omega arith
noted-le l (Of.One k a) = omega arith
noted-le l (Of.Two k a b) = omega arith
noted-le l (Of.Three k a b c) = omega arith
noted-le l (Of.Four k a b c d) = omega arith

-- what each turn keeps, where these bytes are left
module _ (whole : Option (List Const)) where
  pub record Going (rest : List ℕ) (g : Shape) (l : List Const) : Type 0 where
    pub ready : Ready g
    pub most : length l + g.left ≤ 64
    pub is : survey_from g l (reads_from wide 0 rest) ≡ whole

  module _ (rest : List ℕ) (g : Shape) (l : List Const) (h : Going rest g l) where
    pub room : length l < 64
    room = omega (arith, h.most, h.ready.left)

    pub stops : read_entry wide rest ≡ None → 1 ≤ length rest → whole ≡ none
    unfolding survey_from
    stops p any = sym h.is ∙ ap (survey_from g l) (reads-stop wide rest p any)

    pub runs-out : length rest ≤ 0 → whole ≡ none
    unfolding survey_from
    runs-out p = sym h.is ∙ ap (survey_from g l) (reads_none wide rest p)

    module _ (e : Entry) (m : ℕ) (p : read_entry wide rest ≡ Some (e, m)) where
      abbrev l' : List Const
      l' = with_new l (const_of e)

      pub few : length l' ≤ 64
      few = omega (arith, noted-le l e, h.most, h.ready.left)

      step : survey_from g l (Some (e, m) ∷ reads_from wide 0 (drop m rest)) ≡ whole
      step = ap (survey_from g l) (sym (reads-found wide rest e m p)) ∙ h.is

      pub refused : (stepped g e).left ≡ 0 → whole ≡ none
      unfolding survey_from
      refused z = sym step ∙ rw (eq-eqb (stepped g e).left 0 z) refl

      module _ (any : (stepped g e).left ≡ 0 → ⊥) where
        on : (b : Bool) → is_end e ≡ b → cond b (ending l' (reads_from wide 0 (drop m rest))) (survey_from (stepped g e) l' (reads_from wide 0 (drop m rest))) ≡ whole
        unfolding survey_from
        on b x = rw (← x) (sym (rw (ne_eqb (stepped g e).left 0 any) refl) ∙ step)

        pub ends-alone : (stepped g e).left ≡ 64 → length (drop m rest) ≤ 0 → whole ≡ some l'
        ends-alone f z = sym (on true (sym (end-full g h.ready e any) ∙ eq-eqb (stepped g e).left 64 f)) ∙ ap (ending l') (reads_none wide (drop m rest) z)

        more-follows : (s : List ℕ) → 1 ≤ length s → ending l' (reads_from wide 0 s) ≡ none
        more-follows s z = go (read_entry wide s) refl
          where
            go : (r : Read) → read_entry wide s ≡ r → ending l' (reads_from wide 0 s) ≡ none
            go (Some (d, k)) q = ap (ending l') (reads-found wide s d k q)
            go None q = ap (ending l') (reads-stop wide s q z)

        pub ends-early : (stepped g e).left ≡ 64 → 1 ≤ length (drop m rest) → whole ≡ none
        ends-early f z = sym (on true (sym (end-full g h.ready e any) ∙ eq-eqb (stepped g e).left 64 f)) ∙ more-follows (drop m rest) z

        pub goes_on : ((stepped g e).left ≡ 64 → ⊥) → Going (drop m rest) (stepped g e) l'
        goes_on f =
            let x : is_end e ≡ false = sym (end-full g h.ready e any) ∙ ne_eqb (stepped g e).left 64 f in
            let fewer = left-falls g e h.ready x in
            let q = noted-le l e in
            let o = h.most in
            record { ready = step-ready g e h.ready any; most = omega arith; is = on false x }

  pub begins : (run : List ℕ) → survey_from fresh [] (reads_from wide 0 run) ≡ whole → Going run fresh []
  begins run p = record { ready = ready-fresh; most = omega arith; is = p }

-- ---- its answer says whether there is one strip in order, and what its constants are
abbrev Told : Shape → List Const → List Read → Option (List Const) → Type 0
Told g ks rs none = (es : List Entry) → cut_at_ends rs ≡ some (es ∷ []) → pass_from g rs ≡ true → ⊥
Told g ks rs (some l) = (es : List Entry) × (cut_at_ends rs ≡ some (es ∷ [])) × (pass_from g rs ≡ true) × (l ≡ constants_from ks es)

told : (rs : List Read) (g : Shape) (ks : List Const) → Ready g → Told g ks rs (survey_from g ks rs)
unfolding survey_from cut_at_ends pass_from constants_from
told [] g ks w = λ es p q. let z : ◌≡◌ {A = ℕ} 0 1 = cc in absurd (omega arith)
told (None ∷ rs) g ks w = λ es p q. let z : ◌≡◌ {A = ℕ} 0 1 = cc in absurd (omega arith)
told (Some (e, n) ∷ rs) g ks w = go (eqb (stepped g e).left 0) refl (is_end e) refl (told rs (stepped g e) (with_new ks (const_of e)))
  where
    l : List Const
    l = with_new ks (const_of e)

    alone : (rs : List Read) → is_end e ≡ true → eqb (stepped g e).left 0 ≡ false → Told g ks (Some (e, n) ∷ rs) (ending l rs)
    alone [] x z = (e ∷ [], rw x, rw z (end-full g w e (eqb-false (stepped g e).left 0 z) ∙ x), refl)
    alone (r ∷ rs) x z = λ es p q. let h = cut-none (r ∷ rs) (only_end e es (cut_at_ends (r ∷ rs)) x p).0 in let y : ◌≡◌ {A = ℕ} 0 1 = cc in absurd (omega arith)

    on : eqb (stepped g e).left 0 ≡ false → is_end e ≡ false → (o : Option (List Const)) → Told (stepped g e) l rs o → Told g ks (Some (e, n) ∷ rs) o
    on z x none ih = λ es p q. let m = only-more e es (cut_at_ends rs) x p in ih m.0 m.1 (rw z at q)
    on z x (some k) ih = (e ∷ ih.0, rw (ih.1, x), rw z ih.2, ih.3)

    go : (z : Bool) → eqb (stepped g e).left 0 ≡ z → (x : Bool) → is_end e ≡ x → (Ready (stepped g e) → Told (stepped g e) l rs (survey_from (stepped g e) l rs))
        → Told g ks (Some (e, n) ∷ rs) (cond z none (cond x (ending l rs) (survey_from (stepped g e) l rs)))
    go true z x y ih = λ es p q. absurd (false≢true (rw z at q))
    go false z true x ih = alone rs x z
    go false z false x ih = on z x (survey_from (stepped g e) l rs) (ih (step-ready g e w (eqb-false (stepped g e).left 0 z)))

module _ (run : List ℕ) where
  abbrev survey : Option (List Const)
  survey = survey_from fresh [] (reads_from wide 0 run)

  pub surveyed-none : survey ≡ none → (es : List Entry) → decode wide run ≡ some (es ∷ []) → shape_ok wide run ≡ true → ⊥
  unfolding decode
  surveyed-none p es d s = (rw p at (told (reads_from wide 0 run) fresh [] ready-fresh)) es d (pass_shape wide run ∙ s)

  pub surveyed-some : (l : List Const) → survey ≡ some l → (es : List Entry) × (decode wide run ≡ some (es ∷ [])) × (shape_ok wide run ≡ true) × (l ≡ constants_of es)
  unfolding decode
  surveyed-some l p = let t : Told fresh [] (reads_from wide 0 run) (some l) = rw p at (told (reads_from wide 0 run) fresh [] ready-fresh) in (t.0, t.1, sym (pass_shape wide run) ∙ t.2, t.3)
