-- The ids that a strip's instructions make: each from the bound to the first free one, once.
use Rattle.std.proofs.Common.{◌≡◌, ℕ, suc, ◌+◌, ◌<◌, ◌≤◌, Bool, true, false, cond, ◌&&◌, eqb, ltb, leb, List, [], ◌∷◌, ◌++◌, length, sym, refl, ap, ◌∙◌, arith, ltb-false, ltb-true, le-ltb, lt-ltb, eqb-true, le-leb}
use mathlib.Core.Bool.{and-false}
use borrow.Author.Tests.{lt-leb, eqb-false}
use Rattle.strip.specs.declared.reader.Entry.{Entry}
use Rattle.strip.specs.Entry.{Each, Formed, wide}
use Rattle.strip.specs.Shape.{count, strip_ok}
use Rattle.spirv.specs.Instr.{Instr}
use Rattle.spirv.specs.Valid.{results_of, made_by}
use Rattle.spirv.specs.Writer.{Const, Given, Plan, Silent, Known, Made, Stores, Opens, Closes, Midway, instrs_by, after, body_from, const_instrs, constants_of, given_of, start_of, instrs_of_strip, strip_words, next_id}
use Rattle.spirv.proofs.Parse.{read-words}
use Rattle.spirv.proofs.Shaped.{shaped-blocks}
use Rattle.spirv.proofs.Walk.{Straight, const-all, waiting, bodied, walk}
use Rattle.spirv.proofs.Theorem.{coded-strip}

-- how often x stands among ids
abbrev times : ℕ → List ℕ → ℕ
times x is = count (λ i. eqb i x) is

times-append : (x : ℕ) (is js : List ℕ) → times x (is ++ js) ≡ times x is + times x js
times-append x [] js = omega arith
times-append x (i ∷ is) js = go (eqb i x) (times-append x is js)
  where
    go : (b : Bool) → times x (is ++ js) ≡ times x is + times x js → ◌≡◌ {A = ℕ} (cond b (suc (times x (is ++ js))) (times x (is ++ js))) (cond b (suc (times x is)) (times x is) + times x js)
    go true h = omega arith
    go false h = h

-- once where x is from a to b, b not with it
unfoldable once : ℕ → ℕ → ℕ → ℕ
once x a b = cond (leb a x && ltb x b) 1 0

module _ (x : ℕ) where
  once-in : (a b : ℕ) → a ≤ x → x < b → once x a b ≡ 1
  unfolding once
  once-in a b l m = rw (le-leb a x l, lt-ltb x b m)

  once-below : (a b : ℕ) → x < a → once x a b ≡ 0
  unfolding once
  once-below a b l = rw (lt-leb a x l)

  once-past : (a b : ℕ) → b ≤ x → once x a b ≡ 0
  unfolding once
  once-past a b l = rw (le-ltb x b l, and-false (leb a x))

  once-none : (a : ℕ) → once x a a ≡ 0
  once-none a = go (ltb x a) refl
    where
      go : (t : Bool) → ltb x a ≡ t → once x a a ≡ 0
      go true p = once-below a a (ltb-true x a p)
      go false p = once-past a a (ltb-false x a p)

  once_join : (a b c : ℕ) → a ≤ b → b ≤ c → once x a b + once x b c ≡ once x a c
  once_join a b c l m = go (ltb x a) refl (ltb x b) refl (ltb x c) refl
    where
      go : (t : Bool) → ltb x a ≡ t → (u : Bool) → ltb x b ≡ u → (v : Bool) → ltb x c ≡ v → once x a b + once x b c ≡ once x a c
      go true p u q v r = let p = ltb-true x a p in rw (once-below a b p, once-below b c (omega arith), once-below a c p)
      go false p true q v r = let p = ltb-false x a p in let q = ltb-true x b q in rw (once-in a b p q, once-below b c q, once-in a c p (omega arith))
      go false p false q true r = let q = ltb-false x b q in let r = ltb-true x c r in rw (once-past a b q, once-in b c q r, once-in a c (omega arith) r)
      go false p false q false r = let r = ltb-false x c r in rw (once-past a b (omega arith), once-past b c r, once-past a c r)

  once-one : (a : ℕ) → times x (a ∷ []) ≡ once x a (suc a)
  once-one a = go (eqb a x) refl
    where
      go : (t : Bool) → eqb a x ≡ t → ◌≡◌ {A = ℕ} (cond t 1 0) (once x a (suc a))
      go true p = let q = eqb-true a x p in sym (once-in a (suc a) (omega arith) (omega arith))
      go false p = out (ltb x a) refl (ltb a x) refl
        where
          out : (u : Bool) → ltb x a ≡ u → (v : Bool) → ltb a x ≡ v → 0 ≡ once x a (suc a)
          out true q v r = sym (once-below a (suc a) (ltb-true x a q))
          out false q true r = sym (once-past a (suc a) (ltb-true a x r))
          out false q false r =
              let l = ltb-false x a q in
              let m = ltb-false a x r in
              absurd (eqb-false a x p (omega arith))

  -- the next id, then the others
  once_more : (is : List ℕ) (a b : ℕ) → suc a ≤ b → (n : ℕ) → times x is ≡ n + once x (suc a) b → times x (a ∷ is) ≡ n + once x a b
  once_more is a b l n h =
      let first = times-append x (a ∷ []) is in
      let one = once-one a in
      let all = once_join a (suc a) b (omega arith) l in
      omega arith

-- ---- the body

-- in the block, the id of its merge label is below the next
abbrev Below : Bool → Midway → Type 0
Below true w = w.merge < w.next
Below false w = Unit {0}

abbrev Makes : ℕ → Bool → Midway → List Instr → Midway → Type 0
Makes x i w is l = Below i w → (w.next ≤ l.next) × (times x (results_of is) ≡ times x (waiting i w) + once x w.next l.next)

module _ (x : ℕ) where
  ended : (w : Midway) → Makes x false w [] w
  unfolding results_of
  ended w b = (omega arith, let z = once-none x w.next in omega arith)

  closed : (w : Midway) → Makes x true w (instrs_by w Closes) w
  unfolding results_of instrs_by
  closed w b = (omega arith, let z = once-none x w.next in omega arith)

  opened : (w : Midway) (c : ℕ) (is : List Instr) (l : Midway) → Makes x true (after w (Opens c)) is l → Makes x false w (instrs_by w (Opens c) ++ is) l
  unfolding results_of instrs_by after
  opened w c is l k b =
      let h = k (omega arith) in
      let up : suc (suc w.next) ≤ l.next = h.0 in
      let one = once-one x (suc w.next) in
      let all = once_join x (suc w.next) (suc (suc w.next)) l.next (omega arith) up in
      let e : times x (results_of is) ≡ times x (suc w.next ∷ []) + once x (suc (suc w.next)) l.next = h.1 in
      (omega arith, once_more x (results_of is) w.next l.next (omega arith) 0 (omega arith))

  gone : (i : Bool) (w : Midway) (p : Plan) (is : List Instr) (l : Midway) → Straight p → Makes x i (after w p) is l → Makes x i w (instrs_by w p ++ is) l
  unfolding results_of instrs_by after
  gone i w Silent is l s k b = k b
  gone i w (Known n) is l s k b = same i k b
    where
      same : (i : Bool) → Makes x i (after w (Known n)) is l → Makes x i w is l
      same true k b = k b
      same false k b = k b
  gone i w (Made op t xs t₁) is l s k b = rw (s.store, s.merge, s.label, s.branch, s.conditional) (more i k b)
    where
      more : (i : Bool) → Makes x i (after w (Made op t xs t₁)) is l → Below i w → (w.next ≤ l.next) × (times x (w.next ∷ results_of is) ≡ times x (waiting i w) + once x w.next l.next)
      more true k b =
          let h = k (omega arith) in
          let up : suc w.next ≤ l.next = h.0 in
          (omega arith, once_more x (results_of is) w.next l.next up (times x (w.merge ∷ [])) h.1)
      more false k b =
          let h = k tt in
          let up : suc w.next ≤ l.next = h.0 in
          (omega arith, once_more x (results_of is) w.next l.next up 0 h.1)
  gone i w (Stores p v) is l s k b = k b
  gone i w (Opens c) is l s k b = absurd s
  gone i w Closes is l s k b = absurd s

  -- ---- the list of constants
  consts : (g : Given) (ks : List Const) (i : ℕ) (is : List Instr) → times x (results_of (const_instrs g i ks ++ is)) ≡ times x (results_of is) + once x i (i + length ks)
  unfolding results_of const_instrs
  consts g [] i is = let z : once x i (i + 0) ≡ 0 = ap (once x i) (omega arith) ∙ once-none x i in omega arith
  consts g (k ∷ ks) i is =
      let js : List Instr = const_instrs g (suc i) ks ++ is in
      let e : suc i + length ks ≡ i + suc (length ks) = omega arith in
      ap (times x) (const-all g i k (λ (c : Instr). results_of (c ∷ js) ≡ i ∷ results_of js) refl refl refl)
      ∙ once_more x (results_of js) i (i + suc (length ks)) (omega arith) (times x (results_of is)) (consts g ks (suc i) is ∙ ap (λ (n : ℕ). times x (results_of is) + once x (suc i) n) e)

instrs-ids : (table : List ℕ) (bound : ℕ) (es : List Entry) → Each (Formed wide) es → strip_ok es ≡ true
    → (i : ℕ) → count (λ j. eqb j i) (results_of (instrs_of_strip table bound es)) ≡ cond (leb bound i && ltb i (next_id table bound es)) 1 0
unfolding instrs_of_strip next_id given_of once
instrs-ids table bound es f h i =
    let g : Given = given_of table bound es in
    let n : ℕ = bound + length (constants_of es) in
    let body = walk g (Makes i) (ended i) (closed i) (opened i) (gone i) es (bodied es f) false (shaped-blocks es h) (start_of g) tt in
    let all : once i bound n + once i n (next_id table bound es) ≡ once i bound (next_id table bound es) = once_join i bound n (next_id table bound es) (omega arith) body.0 in
    let b : times i (results_of (body_from g (start_of g) es)) ≡ 0 + once i n (next_id table bound es) = body.1 in
    let c : times i (results_of (instrs_of_strip table bound es)) ≡ times i (results_of (body_from g (start_of g) es)) + once i bound n = consts i g (constants_of es) bound (body_from g (start_of g) es) in
    omega arith

-- the ids that the words of a strip in order make are those from the bound to the first free one, each once
pub strip-ids : (table : List ℕ) (bound : ℕ) (es : List Entry) → Each (Formed wide) es → strip_ok es ≡ true
    → (i : ℕ) → count (λ j. eqb j i) (made_by (strip_words table bound es)) ≡ cond (leb bound i && ltb i (next_id table bound es)) 1 0
unfolding made_by strip_words
strip-ids table bound es f h i = rw (read-words (instrs_of_strip table bound es) (coded-strip table bound es)) (instrs-ids table bound es f h i)
