-- #105's theorem: reading the words of a strip ends as its evaluation does.
use Rattle.std.specs.Prelude.{Ok, Err}
use Rattle.evaluation.specs.Machine.{Outcome}
use Rattle.std.proofs.Common.{◌≡◌, ℕ, suc, ◌+◌, ◌<◌, Bool, true, false, cond, ◌&&◌, ◌||◌, eqb, ltb, List, [], ◌∷◌, ◌++◌, length, refl, ap, ◌∙◌, arith, ltb-true}
use mathlib.Core.Option.{Option}
use mathlib.Core.Bool.{xor, false≢true}
use Rattle.strip.specs.declared.reader.Entry.{Entry}
use Rattle.strip.specs.declared.reader.Entry.TheVariants as Of
use Rattle.strip.specs.Entry.{Each, Formed, wide}
use Rattle.strip.specs.Shape.{strip_ok}
use Rattle.strip.proofs.Tests.{and_left, and_right}
use Rattle.strip.proofs.Run.{at-most-64}
use Rattle.evaluation.specs.declared.state.State.{State}
use Rattle.evaluation.specs.declared.machine.Refusal.TheVariants.{BadShape, UndefinedValue, NoConstant}
use Rattle.evaluation.specs.declared.machine.Evaluated.{Evaluated}
use Rattle.evaluation.specs.Machine.{begun, ends, onward, entries_from, restored}
use Rattle.evaluation.proofs.Laws.{cond-all}
use Rattle.spirv.specs.Instr.{Instr, instr, all_words}
use Rattle.spirv.specs.declared.opcodes.Op.{Op}
use Rattle.spirv.specs.declared.opcodes.Op.TheVariants.{Core, Glsl}
use Rattle.spirv.specs.Opcodes.{op_of}
use Rattle.spirv.specs.Reading.{Answer, Running, read_from, read_option, meaning}
use Rattle.spirv.specs.Lent.{role_of, lent_env}
use Rattle.spirv.specs.declared.plan.Name.{Name}
use Rattle.spirv.specs.Writer.{Const, Given, lent, name_at, Plan, Silent, Known, Made, Stores, Opens, Closes, planned, operation, casting, plan_of, Midway, instrs_by, stepped, body_from, const_instrs, constants_of, given_of, start_of, instrs_of_strip, strip_words, next_id, clash_from, table_ok, ids_ok, Written, Words, Refused as Refuses, fitting, strip_answer}
use Rattle.spirv.specs.Claim.{stop_of, AgreeOn, Agree, EndsAs}
use Rattle.spirv.proofs.Parse.{Coded, read-words}
use Rattle.spirv.proofs.Ops.{plain, plain-is, plain_op}
use Rattle.spirv.proofs.Refusals.{Met}
use Rattle.spirv.proofs.Simulation.{sim}
use Rattle.spirv.proofs.Constants.{all_listed, bound_all, consts-read, table_below, table-role, table-free, bound-above, world}
use Rattle.spirv.proofs.Shaped.{shaped-blocks, shaped-fair}

-- ---- every opcode fits
unfoldable small : Plan → Bool
small Silent = true
small (Known n) = true
small (Made op t xs b) = ltb op 65536
small (Stores p v) = true
small (Opens c) = true
small Closes = true

abbrev Small : Plan → Type 0
Small p = small p ≡ true

small-op : (l : ℕ) (op : Op) (t : ℕ) (xs : List ℕ) (b : Bool) → plain op ≡ true → Small (planned l op t xs b)
unfolding planned small plain
small-op l (Core n) t xs b p = (plain-is n p).half
small-op l (Glsl n) t xs b p = refl

small-plan : (g : Given) (ns : ℕ → Name) (e : Entry) → Small (plan_of g ns e)
unfolding plan_of operation casting small
small-plan g ns (Of.Bare k) = cond-all Small (eqb k 2 || eqb k 3) _ _ refl (cond-all Small (eqb k 101) _ _ refl refl)
small-plan g ns (Of.Word w) = refl
small-plan g ns (Of.Cell k n) = cond-all Small (eqb k 10) _ _ refl (cond-all Small (eqb k 110) _ _ refl refl)
small-plan g ns (Of.Store k n r) = refl
small-plan g ns (Of.One k a) =
    cond-all Small (eqb k 12) _ _ refl
    (cond-all Small (eqb k 100) _ _ refl
    (cond-all Small (eqb k 23 || eqb k 24) _ _ (cond-all Small (xor (eqb k 23) (ns a).signed) _ _ (small-op (lent g 4) (op_of k) _ _ _ (plain_op k)) refl) (small-op (lent g 4) (op_of k) _ _ _ (plain_op k))))
small-plan g ns (Of.Two k a b) = small-op (lent g 4) (op_of k) _ _ _ (plain_op k)
small-plan g ns (Of.Three k a b c) = small-op (lent g 4) (op_of k) _ _ _ (plain_op k)
small-plan g ns (Of.Four k a b c d) = cond-all Small (eqb k 11) _ _ refl (small-op (lent g 4) (op_of k) _ _ _ (plain_op k))

coded-append : (is js : List Instr) → Coded is → Coded js → Coded (is ++ js)
coded-append [] js h k = k
coded-append (i ∷ is) js h k = (h.0, coded-append is js h.1 k)

coded-plan : (w : Midway) (p : Plan) → Small p → Coded (instrs_by w p)
unfolding instrs_by small
coded-plan w Silent h = tt
coded-plan w (Known n) h = tt
coded-plan w (Made op t xs b) h = (ltb-true op 65536 h, tt)
coded-plan w (Stores p v) h = (omega arith, tt)
coded-plan w (Opens c) h = (omega arith, (omega arith, (omega arith, tt)))
coded-plan w Closes h = (omega arith, (omega arith, tt))

coded-body : (g : Given) (es : List Entry) (w : Midway) → Coded (body_from g w es)
unfolding body_from
coded-body g [] w = tt
coded-body g (e ∷ es) w = coded-append (instrs_by w (plan_of g (name_at w.names) e)) _ (coded-plan w (plan_of g (name_at w.names) e) (small-plan g (name_at w.names) e)) (coded-body g es (stepped g w e))

coded-consts : (g : Given) (ks : List Const) (i : ℕ) → Coded (const_instrs g i ks)
unfolding const_instrs
coded-consts g [] i = tt
coded-consts g (k ∷ ks) i = (go (eqb k.kind 1) (eqb k.kind 2), coded-consts g ks (suc i))
  where
    go : (a b : Bool) → (cond a (instr 43 (lent g 0 ∷ i ∷ k.bits ∷ [])) (cond b (instr 41 (lent g 2 ∷ i ∷ [])) (instr 42 (lent g 2 ∷ i ∷ [])))).op < 65536
    go true b = omega arith
    go false true = omega arith
    go false false = omega arith

pub coded-strip : (table : List ℕ) (bound : ℕ) (es : List Entry) → Coded (instrs_of_strip table bound es)
unfolding instrs_of_strip
coded-strip table bound es =
    let g : Given = given_of table bound es in
    coded-append (const_instrs g bound g.constants) _ (coded-consts g g.constants bound) (coded-body g es (start_of g))

-- ---- one strip, as entries
module _ (table : List ℕ) (bound : ℕ) (es : List Entry) (s : State) (cs : List ℕ) where
  -- from the words back to instructions, and past the list of constants
  words-read : table_ok table bound ≡ true
      → meaning (strip_words table bound es) (lent_env table) s cs
      ≡ read_from cs (body_from (given_of table bound es) (start_of (given_of table bound es)) es) s (bound_all (lent_env table) bound (constants_of es)) Running
  unfolding meaning strip_words instrs_of_strip given_of role_of
  words-read h =
      let g : Given = given_of table bound es in
      ap (λ (o : Option (List Instr)). read_option cs o s (lent_env table))
      (read-words (instrs_of_strip table bound es) (coded-strip table bound es))
      ∙ consts-read g cs (constants_of es) bound (body_from g (start_of g) es) s (lent_env table) (table_below table bound h 0 (omega arith)) (table-role table bound h 0 (omega arith)) (λ j l. table-free table bound h j l)

  -- the theorem: for every strip in order, table in order, state and lent list
  pub strip-reads : Each (Formed wide) es → strip_ok es ≡ true → table_ok table bound ≡ true
      → Agree (meaning (strip_words table bound es) (lent_env table) s cs) (entries_from cs (begun s) es) (stop_of (given_of table bound es) cs (start_of (given_of table bound es)) (begun s) es)
  unfolding begun given_of
  strip-reads f h t =
      let ks : List Const = constants_of es in
      let g : Given = given_of table bound es in
      let l = at-most-64 es h in
      rw (words-read t)
      (sim g cs (bound_all (lent_env table) bound ks) (bound + length ks) (world table bound ks t) es false s [] [] (start_of g) (bound_all (lent_env table) bound ks) tt
      (record { rel = tt; old = λ i l. refl; above = omega arith; fresh = λ i l. bound-above ks (lent_env table) bound i l ∙ table-free table bound t i (omega arith) })
      (shaped-fair g cs es f h (all_listed es)) (shaped-blocks es h) (omega arith))

-- ---- one strip, as bytes

-- from entries to the evaluation of a run of one strip
pub one-strip : (s : State) (r : Evaluated) (a : Answer) (here : List Instr) → Met r.outcome → Agree a r here → EndsAs a (restored s (onward r (λ t. ends (Ok tt) t)))
one-strip s r a here k h = go r.outcome refl k h
  where
    go : (o : Outcome) → r.outcome ≡ o → Met o → AgreeOn o r.state here a → EndsAs a (restored s (onward r (λ t. ends (Ok tt) t)))
    go (Ok u) p k h = rw p h
    go (Err BadShape) p k h = absurd k
    go (Err UndefinedValue) p k h = rw p (r.state, here, h)
    go (Err (NoConstant slot vec comp)) p k h = rw p (r.state, here, h)

-- what was accepted
unfoldable pub accepts : Written → Bool
accepts (Words ws n next) = true
accepts (Refuses r) = false

unfoldable pub the_words : Written → List ℕ
the_words (Words ws n next) = ws
the_words (Refuses r) = []

fits-is : (ws : List ℕ) (n next room : ℕ) → accepts (fitting ws n next room) ≡ true → the_words (fitting ws n next room) ≡ ws
unfolding accepts the_words
fits-is ws n next room h = go (ltb room (length ws)) h
  where
    go : (b : Bool) → accepts (cond b (Refuses 11) (Words ws n next)) ≡ true → the_words (cond b (Refuses 11) (Words ws n next)) ≡ ws
    go true h = absurd (false≢true h)
    go false h = refl

pub record Accepted (table : List ℕ) (bound : ℕ) (es : List Entry) (x : Written) : Type 0 where
  pub signs : clash_from (given_of table bound es) (start_of (given_of table bound es)) es ≡ false
  pub lents : table_ok table bound ≡ true
  pub ids : ids_ok table bound es ≡ true
  pub words : the_words x ≡ strip_words table bound es

pub strip-accepted : (table : List ℕ) (bound room : ℕ) (es : List Entry) → accepts (strip_answer table bound room es) ≡ true → Accepted table bound es (strip_answer table bound room es)
unfolding strip_answer accepts the_words
strip-accepted table bound room es h = go (clash_from g (start_of g) es) refl (table_ok table bound && ids_ok table bound es) refl h
  where
    g : Given
    g = given_of table bound es

    last : Written
    last = fitting (strip_words table bound es) (length (all_words (const_instrs g bound g.constants))) (next_id table bound es) room

    go : (a : Bool) → clash_from g (start_of g) es ≡ a → (b : Bool) → table_ok table bound && ids_ok table bound es ≡ b → accepts (cond a (Refuses 17) (cond b last (Refuses 10))) ≡ true
        → Accepted table bound es (cond a (Refuses 17) (cond b last (Refuses 10)))
    go true p b q h = absurd (false≢true h)
    go false p false q h = absurd (false≢true h)
    go false p true q h = record { signs = p; lents = and_left (table_ok table bound) _ q; ids = and_right (table_ok table bound) _ q; words = fits-is _ _ _ room h }
