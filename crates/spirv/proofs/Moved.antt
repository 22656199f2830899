-- The words do not hang on where the ids of the body begin: with another first id every id of the body moves, and nothing else.
use Rattle.std.proofs.Common.{◌≡◌, ℕ, zero, suc, ◌+◌, ◌-◌, ◌<◌, ◌≤◌, Bool, true, false, cond, not, ◌&&◌, ◌||◌, eqb, ltb, List, [], ◌∷◌, ◌++◌, map, sym, refl, ap, ◌∙◌, ap₂, arith, ltb-false, ltb-true, le-ltb, lt-ltb, ne_eqb}
use mathlib.Core.List.{map-append}
use mathlib.Core.Bool.{xor}
use Rattle.strip.specs.declared.reader.Entry.{Entry}
use Rattle.strip.specs.declared.reader.Entry.TheVariants as Of
use Rattle.strip.specs.Format.{format_of}
use Rattle.strip.specs.Entry.{refs_of}
use Rattle.strip.specs.Shape.{all, makes}
use Rattle.strip.proofs.Tests.{and_left}
use Rattle.spirv.proofs.Simulation.{FairFrom}
use Rattle.spirv.proofs.Linked.{Same, plan-same, clash-same, next_grows}
use Rattle.spirv.proofs.Bounds.{numbered, opcode-fits}
use Rattle.spirv.specs.declared.opcodes.Op.{Op}
use Rattle.spirv.specs.declared.opcodes.Op.TheVariants.{Core, Glsl}
use Rattle.spirv.specs.declared.plan.Name.{Name}
use Rattle.spirv.specs.Opcodes.{op_of}
use Rattle.spirv.specs.Instr.{Instr, instr}
use Rattle.spirv.specs.Writer.{Const, const, listed, const_of, Given, lent, cells_at, type_id, const_id, name, name_at, Plan, Silent, Known, Made, Stores, Opens, Closes, planned, first_sign, sign_of, operation, casting, plan_of, Midway, midway, instrs_by, after, stepped, body_from, last_from, clashes, clash_from}

module _ (from to : ℕ) where
  -- ids from `from` on are ids of the body
  unfoldable pub moved : ℕ → ℕ
  moved x = cond (ltb x from) x (to + (x - from))

  pub stays : (x : ℕ) → x < from → moved x ≡ x
  unfolding moved
  stays x l = rw (lt-ltb x from l)

  pub moves : (x : ℕ) → from ≤ x → moved x ≡ to + (x - from)
  unfolding moved
  moves x l = rw (le-ltb x from l)

  moves-on : (x : ℕ) → from ≤ x → moved (suc x) ≡ suc (moved x)
  moves-on x l = moves (suc x) (omega arith) ∙ on x l ∙ ap suc (sym (moves x l))
    where
      on : (x : ℕ) → from ≤ x → to + (suc x - from) ≡ suc (to + (x - from))
      on x l = omega arith

  abbrev moved_name : Name → Name
  moved_name x = name (moved x.id) x.signed

  abbrev moved_plan : Plan → Plan
  moved_plan Silent = Silent
  moved_plan (Known x) = Known (moved_name x)
  moved_plan (Made op t xs s) = Made op (moved t) (map moved xs) s
  moved_plan (Stores p v) = Stores (moved p) (moved v)
  moved_plan (Opens c) = Opens (moved c)
  moved_plan Closes = Closes

  abbrev pub moved_instr : Instr → Instr
  moved_instr i = instr i.op (map moved i.operands)

  abbrev pub moved_midway : Midway → Midway
  moved_midway m = midway (moved m.next) (map moved_name m.names) (moved m.merge)

  -- the instructions of a plan, and where it leads
  instrs-move : (m : Midway) → from ≤ m.next → (p : Plan) → 0 < from → instrs_by (moved_midway m) (moved_plan p) ≡ map moved_instr (instrs_by m p)
  unfolding instrs_by
  instrs-move m l Silent z = refl
  instrs-move m l (Known x) z = refl
  instrs-move m l (Made op t xs s) z = refl
  instrs-move m l (Stores p v) z = refl
  instrs-move m l (Opens c) z = rw (moves-on m.next l, stays 0 z)
  instrs-move m l Closes z = refl

  after-moves : (m : Midway) → from ≤ m.next → (p : Plan) → after (moved_midway m) (moved_plan p) ≡ moved_midway (after m p)
  unfolding after
  after-moves m l Silent = refl
  after-moves m l (Known x) = ap (λ (ns : List Name). midway (moved m.next) ns (moved m.merge)) (sym (map-append moved_name m.names (x ∷ [])))
  after-moves m l (Made op t xs s) =
      ap₂ (λ (i : ℕ) (ns : List Name). midway i ns (moved m.merge)) (sym (moves-on m.next l)) (sym (map-append moved_name m.names (name m.next s ∷ [])))
  after-moves m l (Stores p v) = refl
  after-moves m l (Opens c) =
      let one = moves-on m.next l in
      let two = moves-on (suc m.next) (omega arith) in
      rw (two, one)
  after-moves m l Closes = refl

  name-moves : (ns : List Name) (r : ℕ) → 0 < from → name_at (map moved_name ns) r ≡ moved_name (name_at ns r)
  unfolding name_at
  name-moves [] r z = rw (stays 0 z)
  name-moves (n ∷ ns) zero z = refl
  name-moves (n ∷ ns) (suc r) z = name-moves ns r z

  -- a plan of moved names: what is lent and what the constants are called stays
  module _ (g : Given) (big : 65536 ≤ from) (lents : (j : ℕ) → lent g j < from) (consts : (k : Const) → listed g.constants k ≡ true → (const_id g k < from) × (const_id g k < to)) (look : ℕ → Name) where
    abbrev look' : ℕ → Name
    look' r = moved_name (look r)

    first-moves : (ks rs : List ℕ) → first_sign look' ks rs ≡ first_sign look ks rs
    unfolding first_sign
    first-moves [] rs = refl
    first-moves (k ∷ ks) [] = refl
    first-moves (k ∷ ks) (r ∷ rs) = ap (cond (eqb k 1) (look r).signed) (first-moves ks rs)

    ids-move : (rs : List ℕ) → map (λ r. (look' r).id) rs ≡ map moved (map (λ r. (look r).id) rs)
    ids-move [] = refl
    ids-move (r ∷ rs) = ap (λ (l : List ℕ). moved (look r).id ∷ l) (ids-move rs)

    type-stays : (k : ℕ) (s : Bool) → moved (type_id g k s) ≡ type_id g k s
    type-stays k s = stays (type_id g k s) (go (eqb k 2) (eqb k 4) s)
      where
        go : (a b c : Bool) → cond a (lent g 2) (cond b (lent g 3) (cond c (lent g 1) (lent g 0))) < from
        go true b c = lents 2
        go false true c = lents 3
        go false false true = lents 1
        go false false false = lents 0

    -- an operation: GLSL.std.450's number is no id
    planned-moves : (k t : ℕ) (xs : List ℕ) (s : Bool) → planned (lent g 4) (op_of k) (moved t) (map moved xs) s ≡ moved_plan (planned (lent g 4) (op_of k) t xs s)
    unfolding planned
    planned-moves k t xs s = go (op_of k) (opcode-fits k)
      where
        go : (o : Op) → numbered o 65536 ≡ true → planned (lent g 4) o (moved t) (map moved xs) s ≡ moved_plan (planned (lent g 4) o t xs s)
        go (Core n) h = refl
        go (Glsl n) h = let l = ltb-true n 65536 h in rw (stays (lent g 4) (lents 4), stays n (omega arith))

    operation-moves : (k : ℕ) (rs : List ℕ) → operation g look' k rs ≡ moved_plan (operation g look k rs)
    unfolding operation sign_of
    operation-moves k rs =
        let s : Bool = eqb (format_of k).result 1 && first_sign look (format_of k).operands rs in
        ap₂ (λ (b : Bool) (xs : List ℕ). planned (lent g 4) (op_of k) (type_id g (format_of k).result b) xs b) (ap (λ (b : Bool). eqb (format_of k).result 1 && b) (first-moves (format_of k).operands rs)) (ids-move rs)
        ∙ ap (λ (i : ℕ). planned (lent g 4) (op_of k) i (map moved (map (λ r. (look r).id) rs)) s) (sym (type-stays (format_of k).result s))
        ∙ planned-moves k (type_id g (format_of k).result s) (map (λ r. (look r).id) rs) s

    pick : (b : Bool) (x y x' y' : Plan) → x' ≡ moved_plan x → y' ≡ moved_plan y → cond b x' y' ≡ moved_plan (cond b x y)
    pick true x y x' y' p q = p
    pick false x y x' y' p q = q

    lent-known : (j : ℕ) → Known (name (lent g j) false) ≡ moved_plan (Known (name (lent g j) false))
    lent-known j = rw (stays (lent g j) (lents j))

    load_moves : (k j : ℕ) → Made 61 (type_id g k false) (lent g j ∷ []) false ≡ moved_plan (Made 61 (type_id g k false) (lent g j ∷ []) false)
    load_moves k j = ap₂ (λ (t i : ℕ). Made 61 t (i ∷ []) false) (sym (type-stays k false)) (sym (stays (lent g j) (lents j)))

    const-known : (k : Const) → listed g.constants k ≡ true → Known (name (const_id g k) false) ≡ moved_plan (Known (name (const_id g k) false))
    const-known k h = rw (stays (const_id g k) (consts k h).0)

    plan-moves : (e : Entry) → all (listed g.constants) (const_of e) ≡ true → plan_of g look' e ≡ moved_plan (plan_of g look e)
    unfolding plan_of casting const_of
    plan-moves (Of.Bare k) h = go (eqb k 2 || eqb k 3) h
      where
        go : (b : Bool) → all (listed g.constants) (cond b (const k 0 ∷ []) []) ≡ true
            → cond b (Known (name (const_id g (const k 0)) false)) (cond (eqb k 101) Closes Silent) ≡ moved_plan (cond b (Known (name (const_id g (const k 0)) false)) (cond (eqb k 101) Closes Silent))
        go true h = const-known (const k 0) (and_left (listed g.constants (const k 0)) _ h)
        go false h = pick (eqb k 101) Closes Silent Closes Silent refl refl
    plan-moves (Of.Word w) h = const-known (const 1 w) (and_left (listed g.constants (const 1 w)) _ h)
    plan-moves (Of.Cell k n) h = pick (eqb k 10) _ _ _ _ (lent-known _) (pick (eqb k 110) _ _ _ _ refl (load_moves (format_of k).result _))
    plan-moves (Of.Store k n r) h = ap (λ (i : ℕ). Stores i (moved (look r).id)) (sym (stays (lent g (cells_at k + n)) (lents (cells_at k + n))))
    plan-moves (Of.One k a) h =
        pick (eqb k 12) _ _ _ _ (ap (λ (t : ℕ). Made 61 t (moved (look a).id ∷ []) false) (sym (type-stays 1 false)))
        (pick (eqb k 100) _ _ _ _ refl
        (pick (eqb k 23 || eqb k 24) _ _ _ _
        (pick (xor (eqb k 23) (look a).signed) _ _ _ _ (ap (λ (t : ℕ). planned (lent g 4) (op_of k) t (moved (look a).id ∷ []) (eqb k 23)) (sym (type-stays 1 (eqb k 23))) ∙ planned-moves k (type_id g 1 (eqb k 23)) ((look a).id ∷ []) (eqb k 23)) refl)
        (operation-moves k (a ∷ []))))
    plan-moves (Of.Two k a b) h = operation-moves k (a ∷ b ∷ [])
    plan-moves (Of.Three k a b c) h = operation-moves k (a ∷ b ∷ c ∷ [])
    plan-moves (Of.Four k a b c d) h =
        pick (eqb k 11) _ _ _ _ (ap (λ (t : ℕ). Made 65 t (moved (look a).id ∷ moved (look b).id ∷ moved (look c).id ∷ moved (look d).id ∷ []) false) (sym (type-stays 4 false))) (operation-moves k (a ∷ b ∷ c ∷ d ∷ []))

    -- 17 is met alike: no id of the body is the constant 0's
    zero-moves : (i : ℕ) → listed g.constants (const 1 0) && eqb (moved i) (const_id g (const 1 0)) ≡ listed g.constants (const 1 0) && eqb i (const_id g (const 1 0))
    zero-moves i = go (listed g.constants (const 1 0)) refl (ltb i from) refl
      where
        go : (b : Bool) → listed g.constants (const 1 0) ≡ b → (c : Bool) → ltb i from ≡ c → b && eqb (moved i) (const_id g (const 1 0)) ≡ b && eqb i (const_id g (const 1 0))
        go false p c q = refl
        go true p true q = ap (λ (x : ℕ). eqb x (const_id g (const 1 0))) (stays i (ltb-true i from q))
        go true p false q =
            let l = ltb-false i from q in
            let k = consts (const 1 0) p in
            let a : const_id g (const 1 0) < from = k.0 in
            let b : const_id g (const 1 0) < to = k.1 in
            let m = moves i l in
            ne_eqb (moved i) (const_id g (const 1 0)) (λ (e : moved i ≡ const_id g (const 1 0)). absurd (omega arith)) ∙ sym (ne_eqb i (const_id g (const 1 0)) (λ (e : i ≡ const_id g (const 1 0)). absurd (omega arith)))

    clash-moves : (e : Entry) → clashes g look' e ≡ clashes g look e
    unfolding clashes
    clash-moves (Of.Bare k) = refl
    clash-moves (Of.Word w) = refl
    clash-moves (Of.Cell k n) = refl
    clash-moves (Of.Store k n r) = refl
    clash-moves (Of.One k a) = refl
    clash-moves (Of.Two k a b) = refl
    clash-moves (Of.Three k a b c) = refl
    clash-moves (Of.Four k a b c d) = ap (λ (x : Bool). cond (eqb k 11) (not x) (eqb k 93 && xor (look a).signed (look b).signed)) (zero-moves (look b).id)

  -- all entries
  module _ (g : Given) (cs : List ℕ) (big : 65536 ≤ from) (lents : (j : ℕ) → lent g j < from) (consts : (k : Const) → listed g.constants k ≡ true → (const_id g k < from) × (const_id g k < to)) where
    same-all : (ns : List Name) (rs : List ℕ) → Same (name_at (map moved_name ns)) (λ r. moved_name (name_at ns r)) rs
    same-all ns [] = tt
    same-all ns (r ∷ rs) = (name-moves ns r (omega arith), same-all ns rs)

    module _ (m : Midway) (e : Entry) (h : all (listed g.constants) (const_of e) ≡ true) (l : from ≤ m.next) where
      entry-plan : plan_of g (name_at (map moved_name m.names)) e ≡ moved_plan (plan_of g (name_at m.names) e)
      entry-plan = plan-same (name_at (map moved_name m.names)) (λ r. moved_name (name_at m.names r)) g e (same-all m.names (refs_of e)) ∙ plan-moves g big lents consts (name_at m.names) e h

      step-moves : stepped g (moved_midway m) e ≡ moved_midway (stepped g m e)
      step-moves = ap (after (moved_midway m)) entry-plan ∙ after-moves m l (plan_of g (name_at m.names) e)

      entry-clash : clashes g (name_at (map moved_name m.names)) e ≡ clashes g (name_at m.names) e
      entry-clash = clash-same (name_at (map moved_name m.names)) (λ r. moved_name (name_at m.names r)) g e (same-all m.names (refs_of e)) ∙ clash-moves g big lents consts (name_at m.names) e

    pub body-moves : (es : List Entry) (before : List ℕ) (m : Midway) → FairFrom g cs before es → from ≤ m.next
        → (body_from g (moved_midway m) es ≡ map moved_instr (body_from g m es)) × (last_from g (moved_midway m) es ≡ moved_midway (last_from g m es)) × (clash_from g (moved_midway m) es ≡ clash_from g m es)
    unfolding body_from last_from clash_from
    body-moves [] before m f l = (refl, refl, refl)
    body-moves (e ∷ es) before m f l =
        let up = next_grows m (plan_of g (name_at m.names) e) in
        let low : from ≤ (stepped g m e).next = omega (arith, up.0) in
        let ih = body-moves es (before ++ makes e) (stepped g m e) f.1 low in
        let s = step-moves m e f.0.consts l in (
          ap₂ (λ (p : Plan) (w : Midway). instrs_by (moved_midway m) p ++ body_from g w es) (entry-plan m e f.0.consts l) s
              ∙ ap₂ (λ (is js : List Instr). is ++ js) (instrs-move m l (plan_of g (name_at m.names) e) (omega arith)) ih.0
              ∙ sym (map-append moved_instr (instrs_by m (plan_of g (name_at m.names) e)) (body_from g (stepped g m e) es)),
          ap (λ (w : Midway). last_from g w es) s ∙ ih.1,
          ap₂ (λ (b : Bool) (w : Midway). b || clash_from g w es) (entry-clash m e f.0.consts l) s ∙ ap (λ (b : Bool). clashes g (name_at m.names) e || b) ih.2,
        )
