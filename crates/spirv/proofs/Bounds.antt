-- The words of a strip in order fit the code's buffer; what holds of small numbers and of ids, as that they fit 32 bits, holds of each word.
use Rattle.std.proofs.Common.{◌≡◌, ℕ, zero, suc, ◌+◌, ◌*◌, ◌<◌, ◌≤◌, Bool, true, false, cond, not, ◌||◌, eqb, ltb, leb, List, [], ◌∷◌, ◌++◌, map, length, get_or, refl, ap, ◌∙◌, append-nil, arith, length-append, ltb-true, leb-true}
use mathlib.Core.Bool.{xor, false≢true}
use Rattle.strip.specs.declared.reader.Entry.{Entry}
use Rattle.strip.specs.declared.reader.Entry.TheVariants as Of
use Rattle.strip.specs.Format.{format_of}
use Rattle.strip.specs.Entry.{kind_of, body_of, Each, Bounded, Formed, wide}
use Rattle.strip.specs.Shape.{all, count, is_open, is_end, ends_once, makes, cell_ok, refs_ok, blocks_ok, strip_ok}
use Rattle.strip.proofs.Tests.{and_left, and_right}
use Rattle.strip.proofs.Table.{body_number}
use Rattle.strip.proofs.Run.{at-most-64}
use Rattle.evaluation.proofs.Laws.{cond-all}
use Rattle.spirv.specs.declared.opcodes.Op.{Op}
use Rattle.spirv.specs.declared.opcodes.Op.TheVariants.{Core, Glsl}
use Rattle.spirv.specs.declared.plan.Name.{Name}
use Rattle.spirv.specs.Opcodes.{Row, rows, lookup, op_of}
use Rattle.spirv.specs.Instr.{Instr, instr, words_of, all_words}
use Rattle.spirv.specs.Writer.{Const, const_of, listed, with_new, constants_from, constants_of, Given, lent, type_id, const_id, name, name_at, Plan, Silent, Known, Made, Stores, Opens, Closes, planned, sign_of, operation, casting, plan_of, Midway, instrs_by, after, stepped, body_from, last_from, const_instr, const_instrs, given_of, start_of, instrs_of_strip, strip_words, id_limit, lent_ok}
use Rattle.spirv.proofs.Keys.{keys, kinds_of, kind-among}
use Rattle.spirv.proofs.Constants.{all_listed}
use Rattle.spirv.proofs.Linked.{next_grows, words_append}
use Rattle.spirv.proofs.Simulation.{FairFrom}
use Rattle.spirv.proofs.Shaped.{shaped-fair}

-- ---- how many words
unfoldable size : Plan → ℕ
size Silent = 0
size (Known x) = 0
size (Made op t xs s) = 3 + length xs
size (Stores p v) = 3
size (Opens c) = 9
size Closes = 4

plan-length : (m : Midway) (p : Plan) → length (all_words (instrs_by m p)) ≡ size p
unfolding size instrs_by all_words words_of
plan-length m Silent = refl
plan-length m (Known x) = refl
plan-length m (Made op t xs s) = ap (λ (l : List ℕ). suc (suc (suc (length l)))) (append-nil xs) ∙ three (length xs)
  where
    three : (n : ℕ) → suc (suc (suc n)) ≡ 3 + n
    three n = omega arith
plan-length m (Stores p v) = refl
plan-length m (Opens c) = refl
plan-length m Closes = refl

-- a constant's words count where it stands: four at most; an entry takes seven at most, an open nine, the end none
abbrev Sized : Entry → Plan → Type 0
Sized e p = size p + 4 * length (const_of e) + cond (is_end e) 7 0 ≤ 7 + cond (is_open e) 2 0

module _ (g : Given) (look : ℕ → Name) where
  cast-sized : (k a : ℕ) → size (casting g look k a) ≤ 6
  unfolding casting size planned
  cast-sized k a = cond-all (λ (p : Plan). size p ≤ 6) (xor (eqb k 23) (look a).signed) _ _ (go (op_of k)) (omega arith)
    where
      go : (op : Op) → size (planned (lent g 4) op (type_id g 1 (eqb k 23)) ((look a).id ∷ []) (eqb k 23)) ≤ 6
      go (Core n) = omega arith
      go (Glsl n) = omega arith

  plan-sized : (e : Entry) → (format_of (kind_of e)).body ≡ body_of e → Sized e (plan_of g look e)
  unfolding plan_of operation planned size const_of kind_of body_of body_number op_of
  plan-sized (Of.Bare k) b = keys (λ (k : ℕ). Sized (Of.Bare k) (plan_of g look (Of.Bare k))) (kinds_of 1) k (kind-among k (Of.Bare k) b) (omega arith, (omega arith, (omega arith, (omega arith, tt))))
  plan-sized (Of.Word w) b = omega arith
  plan-sized (Of.Cell k n) b = keys (λ (k : ℕ). Sized (Of.Cell k n) (plan_of g look (Of.Cell k n))) (kinds_of 3) k (kind-among k (Of.Cell k n) b) (omega arith, (omega arith, (omega arith, (omega arith, (omega arith, tt)))))
  plan-sized (Of.Store k n r) b = keys (λ (k : ℕ). Sized (Of.Store k n r) (plan_of g look (Of.Store k n r))) (kinds_of 4) k (kind-among k (Of.Store k n r) b) (omega arith, (omega arith, (omega arith, tt)))
  plan-sized (Of.One k a) b = keys (λ (k : ℕ). Sized (Of.One k a) (plan_of g look (Of.One k a))) (kinds_of 5) k (kind-among k (Of.One k a) b)
      (omega arith, (omega arith, (omega arith, (omega arith, (omega (arith, cast-sized 23 a), (omega (arith, cast-sized 24 a), (omega arith, (omega arith, (omega arith, (omega arith, (omega arith, tt)))))))))))
  plan-sized (Of.Two k x y) b = keys (λ (k : ℕ). Sized (Of.Two k x y) (plan_of g look (Of.Two k x y))) (kinds_of 6) k (kind-among k (Of.Two k x y) b)
      (omega arith, (omega arith, (omega arith, (omega arith, (omega arith, (omega arith, (omega arith, (omega arith, (omega arith, (omega arith, (omega arith, (omega arith, (omega arith, (omega arith, (omega arith, (omega arith, (omega arith, (omega arith, (omega arith, (omega arith, (omega arith, (omega arith, (omega arith, (omega arith, (omega arith, (omega arith, tt))))))))))))))))))))))))))
  plan-sized (Of.Three k x y z) b = keys (λ (k : ℕ). Sized (Of.Three k x y z) (plan_of g look (Of.Three k x y z))) (kinds_of 7) k (kind-among k (Of.Three k x y z) b) (omega arith, (omega arith, (omega arith, tt)))
  plan-sized (Of.Four k x y z u) b = keys (λ (k : ℕ). Sized (Of.Four k x y z u) (plan_of g look (Of.Four k x y z u))) (kinds_of 8) k (kind-among k (Of.Four k x y z u) b) (omega arith, (omega arith, tt))

-- how many constants entries are, each counted
abbrev const_count : List Entry → ℕ
const_count [] = 0
const_count (e ∷ es) = length (const_of e) + const_count es

module _ (g : Given) (cs : List ℕ) where
  body-sized : (es : List Entry) (before : List ℕ) (m : Midway) → FairFrom g cs before es → length (all_words (body_from g m es)) + 4 * const_count es + 7 * count is_end es ≤ 7 * length es + 2 * count is_open es
  unfolding body_from all_words
  body-sized [] before m f = omega arith
  body-sized (e ∷ es) before m f =
      let p : Plan = plan_of g (name_at m.names) e in
      let a = plan-sized g (name_at m.names) e f.0.body in
      let b = plan-length m p in
      let c = body-sized es (before ++ makes e) (stepped g m e) f.1 in
      let d = ap length (words_append (instrs_by m p) (body_from g (stepped g m e) es)) ∙ length-append (all_words (instrs_by m p)) (all_words (body_from g (stepped g m e) es)) in
      go (is_open e) (is_end e) (length (all_words (instrs_by m p ++ body_from g (stepped g m e) es))) (size p) (length (const_of e)) (length (all_words (body_from g (stepped g m e) es))) (const_count es) (length es) (count is_open es) (count is_end es) a (d ∙ ap (λ (n : ℕ). n + length (all_words (body_from g (stepped g m e) es))) b) c
    where
      go : (o x : Bool) (w s k r q n t u : ℕ) → s + 4 * k + cond x 7 0 ≤ 7 + cond o 2 0 → w ≡ s + r → r + 4 * q + 7 * u ≤ 7 * n + 2 * t → w + 4 * (k + q) + 7 * cond x (suc u) u ≤ 7 * suc n + 2 * cond o (suc t) t
      go true true w s k r q n t u a b c = omega arith
      go true false w s k r q n t u a b c = omega arith
      go false true w s k r q n t u a b c = omega arith
      go false false w s k r q n t u a b c = omega arith

new-sized : (ks l : List Const) → length (with_new l ks) ≤ length l + length ks
unfolding with_new
new-sized [] l = omega arith
new-sized (k ∷ ks) l = let h = new-sized ks (cond (listed l k) l (l ++ (k ∷ []))) in let n = one_more (listed l k) in omega arith
  where
    one_more : (b : Bool) → length (cond b l (l ++ (k ∷ []))) ≤ length l + 1
    one_more true = omega arith
    one_more false = let e = length-append l (k ∷ []) in omega arith

consts-sized : (es : List Entry) (l : List Const) → length (constants_from l es) ≤ length l + const_count es
unfolding constants_from
consts-sized [] l = omega arith
consts-sized (e ∷ es) l = let a = consts-sized es (with_new l (const_of e)) in let b = new-sized (const_of e) l in omega arith

const-words : (g : Given) (ks : List Const) (i : ℕ) → length (all_words (const_instrs g i ks)) ≤ 4 * length ks
unfolding const_instrs all_words words_of
const-words g [] i = omega arith
const-words g (k ∷ ks) i =
    let h = const-words g ks (suc i) in
    let d = length-append (words_of (const_instr g i k)) (all_words (const_instrs g (suc i) ks)) in
    let a = four (eqb k.kind 1) (eqb k.kind 2) in
    omega arith
  where
    four : (a b : Bool) → length (words_of (cond a (instr 43 (lent g 0 ∷ i ∷ k.bits ∷ [])) (cond b (instr 41 (lent g 2 ∷ i ∷ [])) (instr 42 (lent g 2 ∷ i ∷ []))))) ≤ 4
    four true b = omega arith
    four false true = omega arith
    four false false = omega arith

-- one open at most
one-open : (es : List Entry) → strip_ok es ≡ true → count is_open es ≤ 1
unfolding strip_ok blocks_ok
one-open es h =
    let b = and_right (refs_ok [] es) _ (and_right (all (λ e. cell_ok (format_of (kind_of e)) e) es) _ (and_right (leb (length es) 64) _ (and_right (ends_once es) _ h))) in
    leb-true (count is_open es) 1 (and_left (leb (count is_open es) 1) _ b)

-- and an end
has_end : (es : List Entry) → ends_once es ≡ true → 1 ≤ count is_end es
unfolding ends_once
has_end [] h = absurd (false≢true h)
has_end (e ∷ []) h = rw h (omega arith)
has_end (e ∷ d ∷ es) h = more (is_end e) (has_end (d ∷ es) (and_right (not (is_end e)) _ h))
  where
    more : (b : Bool) → 1 ≤ count is_end (d ∷ es) → 1 ≤ cond b (suc (count is_end (d ∷ es))) (count is_end (d ∷ es))
    more true l = omega arith
    more false l = l

module _ (table : List ℕ) (bound : ℕ) (es : List Entry) (formed : Each (Formed wide) es) (ok : strip_ok es ≡ true) where
  -- the words of any strip
  pub strip-sized : length (strip_words table bound es) ≤ 448
  unfolding strip_words instrs_of_strip given_of strip_ok
  strip-sized =
      let g : Given = given_of table bound es in
      let few = at-most-64 es ok in
      let once = one-open es ok in
      let last = has_end es (and_left (ends_once es) _ ok) in
      let a = body-sized g [] es [] (start_of g) (shaped-fair g [] es formed ok (all_listed es)) in
      let b = const-words g (constants_of es) bound in
      let c = consts-sized es [] in
      let d = ap length (words_append (const_instrs g bound (constants_of es)) (body_from g (start_of g) es)) ∙ length-append (all_words (const_instrs g bound (constants_of es))) (all_words (body_from g (start_of g) es)) in
      omega arith

-- ---- how large
each_append : {A : Type 0} (P : A → Type 0) (xs ys : List A) → Each P xs → Each P ys → Each P (xs ++ ys)
each_append P [] ys a b = b
each_append P (x ∷ xs) ys a b = (a.0, each_append P xs ys a.1 b)

each_map : (P : ℕ → Type 0) (f : ℕ → ℕ) → ((r : ℕ) → P (f r)) → (rs : List ℕ) → Each P (map f rs)
each_map P f h [] = tt
each_map P f h (r ∷ rs) = (h r, each_map P f h rs)

-- the table's opcodes and numbers
abbrev pub numbered : Op → ℕ → Bool
numbered (Core n) b = ltb n b
numbered (Glsl n) b = ltb n b

pub opcode-fits : (k : ℕ) → numbered (op_of k) 65536 ≡ true
unfolding op_of
opcode-fits k = go rows refl
  where
    pick : (r : Row) (o : Op) (b : Bool) → numbered r.op 65536 ≡ true → numbered o 65536 ≡ true → numbered (cond b r.op o) 65536 ≡ true
    pick r o true p q = p
    pick r o false p q = q

    go : (rs : List Row) → all (λ r. numbered r.op 65536) rs ≡ true → numbered (lookup rs k) 65536 ≡ true
    go [] h = refl
    go (r ∷ rs) h = pick r (lookup rs k) (eqb k r.kind) (and_left (numbered r.op 65536) _ h) (go rs (and_right (numbered r.op 65536) _ h))

-- the next id never falls
pub last-above : (g : Given) (es : List Entry) (m : Midway) → m.next ≤ (last_from g m es).next
unfolding last_from
last-above g [] m = omega arith
last-above g (e ∷ es) m = let a = next_grows m (plan_of g (name_at m.names) e) in let b = last-above g es (stepped g m e) in omega (arith, a.0)

pub last-below : (g : Given) (es : List Entry) (m : Midway) → (last_from g m es).next ≤ m.next + 2 * length es
unfolding last_from
last-below g [] m = omega arith
last-below g (e ∷ es) m = let a = next_grows m (plan_of g (name_at m.names) e) in let b = last-below g es (stepped g m e) in omega (arith, a.1)

-- what holds of small numbers, lent ids, listed constants' ids and new ones holds of every operand
module _ (P : ℕ → Type 0) (small : (w : ℕ) → w < 65536 → P w) where
  abbrev pub InstrOf : Instr → Type 0
  InstrOf i = (i.op < 65536) × ((length i.operands ≤ 8) × Each P i.operands)

  abbrev PlanOf : Plan → Type 0
  PlanOf Silent = Unit {0}
  PlanOf (Known x) = P x.id
  PlanOf (Made op t xs s) = (op < 65536) × (P t × (Each P xs × (length xs ≤ 6)))
  PlanOf (Stores p v) = P p × P v
  PlanOf (Opens c) = P c
  PlanOf Closes = Unit {0}

  module _ (g : Given) (lents : (j : ℕ) → P (lent g j)) (consts : (k : Const) → listed g.constants k ≡ true → P (const_id g k)) where
    type-fits : (k : ℕ) (s : Bool) → P (type_id g k s)
    type-fits k s = cond-all P (eqb k 2) _ _ (lents 2) (cond-all P (eqb k 4) _ _ (lents 3) (cond-all P s _ _ (lents 1) (lents 0)))

    planned-fits : (k t : ℕ) (xs : List ℕ) (s : Bool) → P t → Each P xs → length xs ≤ 4 → PlanOf (planned (lent g 4) (op_of k) t xs s)
    unfolding planned
    planned-fits k t xs s l f n = go (op_of k) (opcode-fits k)
      where
        go : (o : Op) → numbered o 65536 ≡ true → PlanOf (planned (lent g 4) o t xs s)
        go (Core c) p = (ltb-true c 65536 p, (l, (f, omega arith)))
        go (Glsl c) p = (omega arith, (l, ((lents 4, (small c (ltb-true c 65536 p), f)), omega arith)))

    module _ (look : ℕ → Name) (names : (r : ℕ) → P (look r).id) where
      operation-fits : (k : ℕ) (rs : List ℕ) → length (map (λ r. (look r).id) rs) ≤ 4 → PlanOf (operation g look k rs)
      unfolding operation
      operation-fits k rs n = planned-fits k _ (map (λ r. (look r).id) rs) _ (type-fits (format_of k).result (sign_of look k rs)) (each_map P (λ r. (look r).id) names rs) n

      plan-fits : (e : Entry) → all (listed g.constants) (const_of e) ≡ true → PlanOf (plan_of g look e)
      unfolding plan_of casting const_of
      plan-fits (Of.Bare k) h = go (eqb k 2 || eqb k 3) h
        where
          go : (b : Bool) → all (listed g.constants) (cond b (record { kind = k; bits = 0 } ∷ []) []) ≡ true → PlanOf (cond b (Known (name (const_id g (record { kind = k; bits = 0 })) false)) (cond (eqb k 101) Closes Silent))
          go true h = consts (record { kind = k; bits = 0 }) (and_left (listed g.constants (record { kind = k; bits = 0 })) _ h)
          go false h = cond-all PlanOf (eqb k 101) _ _ tt tt
      plan-fits (Of.Word w) h = consts (record { kind = 1; bits = w }) (and_left (listed g.constants (record { kind = 1; bits = w })) _ h)
      plan-fits (Of.Cell k n) h = cond-all PlanOf (eqb k 10) _ _ (lents _) (cond-all PlanOf (eqb k 110) _ _ tt (omega arith, (type-fits (format_of k).result false, ((lents _, tt), omega arith))))
      plan-fits (Of.Store k n r) h = (lents _, names r)
      plan-fits (Of.One k a) h =
          cond-all PlanOf (eqb k 12) _ _ (omega arith, (type-fits 1 false, ((names a, tt), omega arith)))
          (cond-all PlanOf (eqb k 100) _ _ (names a)
          (cond-all PlanOf (eqb k 23 || eqb k 24) _ _ (cond-all PlanOf (xor (eqb k 23) (look a).signed) _ _ (planned-fits k _ ((look a).id ∷ []) _ (type-fits 1 (eqb k 23)) (names a, tt) (omega arith)) (names a))
          (operation-fits k (a ∷ []) (omega arith))))
      plan-fits (Of.Two k a b) h = operation-fits k (a ∷ b ∷ []) (omega arith)
      plan-fits (Of.Three k a b c) h = operation-fits k (a ∷ b ∷ c ∷ []) (omega arith)
      plan-fits (Of.Four k a b c d) h = cond-all PlanOf (eqb k 11) _ _ (omega arith, (type-fits 4 false, ((names a, (names b, (names c, (names d, tt)))), omega arith))) (operation-fits k (a ∷ b ∷ c ∷ d ∷ []) (omega arith))

    -- along the body: the ids that are made lie below the last one's
    module _ (cs : List ℕ) (limit : ℕ) where
      pub record Fits (m : Midway) : Type 0 where
        pub names : Each (λ (x : Name). P x.id) m.names
        pub merge : P m.merge
        pub new : (i : ℕ) → m.next ≤ i → i < limit → P i

      name-fits : (ns : List Name) → Each (λ (x : Name). P x.id) ns → (r : ℕ) → P (name_at ns r).id
      unfolding name_at
      name-fits [] h r = small 0 (omega arith)
      name-fits (x ∷ ns) h zero = h.0
      name-fits (x ∷ ns) h (suc r) = name-fits ns h.1 r

      one_more : (ns : List Name) (x : Name) → Each (λ (y : Name). P y.id) ns → P x.id → Each (λ (y : Name). P y.id) (ns ++ (x ∷ []))
      one_more ns x h l = each_append (λ (y : Name). P y.id) ns (x ∷ []) h (l, tt)

      plan-instrs : (m : Midway) (p : Plan) → Fits m → PlanOf p → (after m p).next ≤ limit → Each InstrOf (instrs_by m p) × Fits (after m p)
      unfolding instrs_by after
      plan-instrs m Silent f h l = (tt, f)
      plan-instrs m (Known x) f h l = (tt, record { names = one_more m.names x f.names h; merge = f.merge; new = f.new })
      plan-instrs m (Made op t xs s) f h l =
          let b : length xs ≤ 6 = h.1.1.1 in
          let id = f.new m.next (omega arith) (omega arith) in
          (((h.0, (omega arith, (h.1.0, (id, h.1.1.0)))), tt), record { names = one_more m.names (name m.next s) f.names id; merge = f.merge; new = λ i u v. f.new i (omega arith) v })
      plan-instrs m (Stores p v) f h l = (((omega arith, (omega arith, (h.0, (h.1, tt)))), tt), f)
      plan-instrs m (Opens c) f h l =
          let block = f.new m.next (omega arith) (omega arith) in
          let merge = f.new (suc m.next) (omega arith) (omega arith) in (
            ((omega arith, (omega arith, (merge, (small 0 (omega arith), tt)))), ((omega arith, (omega arith, (h, (block, (merge, tt))))), ((omega arith, (omega arith, (block, tt))), tt))),
            record { names = f.names; merge = merge; new = λ i u v. f.new i (omega arith) v },
          )
      plan-instrs m Closes f h l = (((omega arith, (omega arith, (f.merge, tt))), ((omega arith, (omega arith, (f.merge, tt))), tt)), f)

      pub body-fits : (es : List Entry) (before : List ℕ) (m : Midway) → FairFrom g cs before es → Fits m → (last_from g m es).next ≤ limit → Each InstrOf (body_from g m es)
      unfolding body_from last_from
      body-fits [] before m f h l = tt
      body-fits (e ∷ es) before m f h l =
          let p : Plan = plan_of g (name_at m.names) e in
          let up = last-above g es (stepped g m e) in
          let w = plan-instrs m p h (plan-fits (name_at m.names) (name-fits m.names h.names) e f.0.consts) (omega arith) in
          each_append InstrOf (instrs_by m p) (body_from g (stepped g m e) es) w.0 (body-fits es (before ++ makes e) (stepped g m e) f.1 w.1 l)

-- the bits of a strip's constants
abbrev BitsFit : List Const → Type 0
BitsFit ks = Each (λ (k : Const). k.bits < 4294967296) ks

bits-new : (ks l : List Const) → BitsFit l → BitsFit ks → BitsFit (with_new l ks)
unfolding with_new
bits-new [] l a b = a
bits-new (k ∷ ks) l a b = bits-new ks (cond (listed l k) l (l ++ (k ∷ []))) (cond-all BitsFit (listed l k) _ _ a (each_append (λ (k : Const). k.bits < 4294967296) l (k ∷ []) a (b.0, tt))) b.1

entry-bits : (e : Entry) → Bounded e → BitsFit (const_of e)
unfolding const_of
entry-bits (Of.Bare k) h = cond-all BitsFit (eqb k 2 || eqb k 3) _ _ (omega arith, tt) tt
entry-bits (Of.Word w) h = (h, tt)
entry-bits (Of.Cell k n) h = tt
entry-bits (Of.Store k n r) h = tt
entry-bits (Of.One k a) h = tt
entry-bits (Of.Two k a b) h = tt
entry-bits (Of.Three k a b c) h = tt
entry-bits (Of.Four k a b c d) h = tt

strip-bits : (es : List Entry) (l : List Const) → Each (Formed wide) es → BitsFit l → BitsFit (constants_from l es)
unfolding constants_from
strip-bits [] l f h = h
strip-bits (e ∷ es) l f h = strip-bits es (with_new l (const_of e)) f.1 (bits-new (const_of e) l h (entry-bits e f.0.bounded))

-- the words of the list of constants fit 32 bits where lent and new ids do
consts-fit : (g : Given) → ((j : ℕ) → lent g j < 4294967296) → (ks : List Const) (i : ℕ) → ((j : ℕ) → i ≤ j → j < i + length ks → j < 4294967296) → BitsFit ks → Each (λ (w : ℕ). w < 4294967296) (all_words (const_instrs g i ks))
unfolding const_instrs all_words words_of
consts-fit g lents [] i h b = tt
consts-fit g lents (k ∷ ks) i h b =
    each_append (λ (w : ℕ). w < 4294967296) (words_of (const_instr g i k)) (all_words (const_instrs g (suc i) ks)) (one (eqb k.kind 1) (eqb k.kind 2)) (consts-fit g lents ks (suc i) (λ j u v. h j (omega arith) (omega arith)) b.1)
  where
    id : i < 4294967296
    id = h i (omega arith) (omega arith)

    one : (a b : Bool) → Each (λ (w : ℕ). w < 4294967296) (words_of (cond a (instr 43 (lent g 0 ∷ i ∷ k.bits ∷ [])) (cond b (instr 41 (lent g 2 ∷ i ∷ [])) (instr 42 (lent g 2 ∷ i ∷ [])))))
    one true c = (omega arith, (lents 0, (id, (b.0, tt))))
    one false true = (omega arith, (lents 2, (id, tt)))
    one false false = (omega arith, (lents 2, (id, tt)))

pub strip-consts-fit : (g : Given) → ((j : ℕ) → lent g j < 4294967296) → (es : List Entry) → Each (Formed wide) es → (i : ℕ) → ((j : ℕ) → i ≤ j → j < i + length (constants_of es) → j < 4294967296) → Each (λ (w : ℕ). w < 4294967296) (all_words (const_instrs g i (constants_of es)))
strip-consts-fit g lents es formed i h = consts-fit g lents (constants_of es) i h (strip-bits es [] formed tt)

-- the lent ids
pub lents-low : (table : List ℕ) (bound : ℕ) → all (lent_ok bound) table ≡ true → (j : ℕ) → get_or table j 0 ≤ id_limit
unfolding lent_ok
lents-low [] bound h j = omega arith
lents-low (x ∷ xs) bound h zero = leb-true x id_limit (and_right (ltb x bound) _ (and_right (not (eqb x 0)) _ (and_left (lent_ok bound x) _ h)))
lents-low (x ∷ xs) bound h (suc j) = lents-low xs bound (and_right (lent_ok bound x) _ h) j
