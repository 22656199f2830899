-- What an entry does, and what its words do: one line for each kind.
use Rattle.std.proofs.Common.{◌≡◌, ℕ, ◌+◌, ◌-◌, ◌*◌, ◌<◌, ◌≤◌, Bool, true, false, cond, ◌&&◌, eqb, ltb, leb, List, [], ◌∷◌, map, length, refl, ap, ◌∙◌, true≢false, arith, ltb-true, le-ltb, lt-ltb, ne_eqb}
use mathlib.Core.Option.{some}
use mathlib.Core.Bool.{xor, false≢true}
use Rattle.strip.specs.declared.reader.Entry.{Entry}
use Rattle.strip.specs.declared.reader.Entry.TheVariants as Of
use Rattle.strip.specs.Format.{format_of}
use Rattle.strip.specs.Entry.{kind_of, cells_of, refs_of, body_of}
use Rattle.strip.specs.Shape.{all, is_end, cell_ok, names, refs_pass}
use Rattle.strip.proofs.Tests.{among, and_left, and_right}
use Rattle.strip.proofs.Table.{body_number}
use Rattle.evaluation.specs.declared.value.Value.{Value}
use Rattle.evaluation.specs.declared.value.Value.TheVariants.{Undefined, Word, Truth, Slot, Address}
use Rattle.evaluation.specs.declared.state.State.{State}
use Rattle.evaluation.specs.declared.machine.Refusal.TheVariants.{BadShape, UndefinedValue, NoConstant}
use Rattle.evaluation.specs.Word.{unary_word}
use Rattle.evaluation.specs.Value.{with_word, with_truth, with_slot, unary, two, three}
use Rattle.evaluation.specs.State.{loaded, stored_reg, stored_pred, stored_flag}
use Rattle.evaluation.specs.Machine.{Effect, Push, SetReg, SetPred, SetFlag, Enter, Pass, Finish, Refuse, storing_word, storing_truth, storing, entering, address_words, addressing, fetched, bare_effect, cell_effect, one_effect, four_effect, value_at, effect_of}
use Rattle.evaluation.specs.Machine as Eval
use Rattle.spirv.specs.declared.opcodes.Op.{Op}
use Rattle.spirv.specs.declared.opcodes.Op.TheVariants.{Core, Glsl}
use Rattle.spirv.specs.Opcodes.{op_of}
use Rattle.spirv.specs.Reading.{Thing, Nothing, Register, Predicate, Flag, Holds, Env, Act, Bind, Write, On, Undef, Beyond, Invalid, made, meant, operating, in_set, extending, load_from, loading, store_to, with_one, writing, placed, chained, chaining, act_of}
use Rattle.spirv.specs.Writer.{Const, const, const_of, listed, Given, lent, type_id, const_id, name, name_at, id_at, Plan, Silent, Known, Made, Stores, Opens, Closes, planned, operation, casting, plan_of, Midway}
use Rattle.spirv.specs.Lent.{role_of}
use Rattle.spirv.proofs.Keys.{keys, kinds_of, kind-among}
use Rattle.spirv.proofs.Ops.{value_op, one-is, not_is, two_is, three-is, four_is, plain, plain-is, plain_op}
use Rattle.spirv.proofs.Names.{Rel, rel-at, seen}
use Rattle.spirv.proofs.Typing.{has_kind, Kinds, kinds-length, named-kind, named-there}
use Rattle.evaluation.proofs.Laws.{cond-all, with-word, with-truth, address-all}

-- the value of a constant
unfoldable pub const_value : Const → Value
const_value k = cond (eqb k.kind 1) (Word k.bits) (Truth (eqb k.kind 2))

-- the ids below start that the body finds: those lent, and the constants
pub record World (g : Given) (env₀ : Env) (start : ℕ) : Type 0 where
  pub lents : (j : ℕ) → j < 303 → (lent g j < start) × (env₀ (lent g j) ≡ role_of j)
  pub consts : (k : Const) → listed g.constants k ≡ true → (const_id g k < start) × (env₀ (const_id g k) ≡ Holds (const_value k))

-- midway, the environment holds the values so far under their names, and what was there
pub record Fits (env₀ : Env) (start : ℕ) (vs : List Value) (w : Midway) (env : Env) : Type 0 where
  pub rel : Rel w.next env w.names vs
  pub old : (i : ℕ) → i < start → env i ≡ env₀ i
  pub above : start ≤ w.next
  pub fresh : (i : ℕ) → w.next ≤ i → env i ≡ Nothing

-- what the shape test and the list of constants say of an entry
pub record Fair (g : Given) (before : List ℕ) (e : Entry) : Type 0 where
  pub body : (format_of (kind_of e)).body ≡ body_of e
  pub cells : cell_ok (format_of (kind_of e)) e ≡ true
  pub refs : refs_pass (names before) (format_of (kind_of e)).operands (refs_of e) ≡ true
  pub consts : all (listed g.constants) (const_of e) ≡ true

-- what an instruction does where its entry has this effect
unfoldable pub answering : State → ℕ → Effect → Act
answering s i (Push v) = Bind i v
answering s i (SetReg n w) = Write (stored_reg s n w)
answering s i (SetPred n t) = Write (stored_pred s n t)
answering s i (SetFlag n t) = Write (stored_flag s n t)
answering s i (Enter t) = On
answering s i Pass = On
answering s i Finish = On
answering s i (Refuse BadShape) = Invalid
answering s i (Refuse UndefinedValue) = Undef
answering s i (Refuse (NoConstant slot vec comp)) = Beyond slot vec comp

unfoldable pub pushing : Effect → Bool
pushing (Push v) = true
pushing (SetReg n w) = false
pushing (SetPred n t) = false
pushing (SetFlag n t) = false
pushing (Enter t) = false
pushing Pass = false
pushing Finish = false
pushing (Refuse r) = true

unfoldable pub setting : Effect → Bool
setting (Push v) = false
setting (SetReg n w) = true
setting (SetPred n t) = true
setting (SetFlag n t) = true
setting (Enter t) = false
setting Pass = false
setting Finish = false
setting (Refuse r) = true

-- ---- stores and addresses: an undefined value is met alike
module _ (s : State) (i : ℕ) where
  store_word : (n : ℕ) (v : Value) → with_word Undef v (λ w. Write (stored_reg s n w)) ≡ answering s i (storing_word n v)
  unfolding with_word storing_word answering
  store_word n Undefined = refl
  store_word n (Word x) = refl
  store_word n (Truth t) = refl
  store_word n (Slot x) = refl
  store_word n (Address x) = refl

  store-pred : (n : ℕ) (v : Value) → with_truth Undef v (λ t. Write (stored_pred s n t)) ≡ answering s i (storing_truth 8 n v)
  unfolding with_truth storing_truth answering
  store-pred n Undefined = refl
  store-pred n (Word x) = refl
  store-pred n (Truth t) = refl
  store-pred n (Slot x) = refl
  store-pred n (Address x) = refl

  store-flag : (n : ℕ) (v : Value) → with_truth Undef v (λ t. Write (stored_flag s n t)) ≡ answering s i (storing_truth 9 n v)
  unfolding with_truth storing_truth answering
  store-flag n Undefined = refl
  store-flag n (Word x) = refl
  store-flag n (Truth t) = refl
  store-flag n (Slot x) = refl
  store-flag n (Address x) = refl

  -- under the wanted word or slot
  through_word : (v : Value) (f : ℕ → Act) (h : ℕ → Effect) → ((x : ℕ) → f x ≡ answering s i (h x)) → with_word Undef v f ≡ answering s i (with_word (Refuse UndefinedValue) v h)
  unfolding with_word answering
  through_word Undefined f h p = refl
  through_word (Word x) f h p = p x
  through_word (Truth t) f h p = refl
  through_word (Slot x) f h p = refl
  through_word (Address x) f h p = refl

  through-slot : (v : Value) (f : ℕ → Act) (h : ℕ → Effect) → ((x : ℕ) → f x ≡ answering s i (h x)) → with_slot Undef v f ≡ answering s i (with_slot (Refuse UndefinedValue) v h)
  unfolding with_slot answering
  through-slot Undefined f h p = refl
  through-slot (Word x) f h p = refl
  through-slot (Truth t) f h p = refl
  through-slot (Slot x) f h p = p x
  through-slot (Address x) f h p = refl

  address-words : (n z v c size : ℕ) → placed i n z v c size ≡ answering s i (address_words n z v c size)
  unfolding placed address_words answering
  address-words n z v c size = go (eqb z 0 && (leb v 4095 && (leb c 3 && ltb (n * 16384 + v * 4 + c) size)))
    where
      go : (b : Bool) → cond b (Bind i (Address (n * 16384 + v * 4 + c))) (Beyond n v c) ≡ answering s i (cond b (Push (Address (n * 16384 + v * 4 + c))) (Refuse (NoConstant n v c)))
      go true = refl
      go false = refl

  address-chain : (size : ℕ) (a b c d : Value) → chained size i (some (a ∷ b ∷ c ∷ d ∷ [])) ≡ answering s i (addressing a b c d size)
  unfolding chained addressing
  address-chain size a b c d = through-slot a _ _ (λ n. through_word b _ _ (λ z. through_word c _ _ (λ v. through_word d _ _ (λ w. address-words n z v w size))))

-- ---- places of the lent table
role-register : (n : ℕ) → n < 255 → role_of (5 + n) ≡ Register n
unfolding role_of
role-register n l =
    let minus : 5 + n - 5 ≡ n = omega arith in
    rw (le-ltb (5 + n) 4 (omega arith), ne_eqb (5 + n) 4 (λ (e : 5 + n ≡ 4). absurd (omega arith)), lt-ltb (5 + n) 260 (omega arith), minus)

role-predicate : (n : ℕ) → n < 7 → role_of (260 + n) ≡ Predicate n
unfolding role_of
role-predicate n l =
    let minus : 260 + n - 260 ≡ n = omega arith in
    rw (le-ltb (260 + n) 4 (omega arith), ne_eqb (260 + n) 4 (λ (e : 260 + n ≡ 4). absurd (omega arith)), le-ltb (260 + n) 260 (omega arith), lt-ltb (260 + n) 267 (omega arith), minus)

role-flag : (n : ℕ) → n < 4 → role_of (267 + n) ≡ Flag n
unfolding role_of
role-flag n l =
    let minus : 267 + n - 267 ≡ n = omega arith in
    rw (le-ltb (267 + n) 4 (omega arith), ne_eqb (267 + n) 4 (λ (e : 267 + n ≡ 4). absurd (omega arith)), le-ltb (267 + n) 260 (omega arith), le-ltb (267 + n) 267 (omega arith), lt-ltb (267 + n) 271 (omega arith), minus)

role-slot : (n : ℕ) → n < 32 → role_of (271 + n) ≡ Holds (Slot n)
unfolding role_of
role-slot n l =
    let minus : 271 + n - 271 ≡ n = omega arith in
    rw (le-ltb (271 + n) 4 (omega arith), ne_eqb (271 + n) 4 (λ (e : 271 + n ≡ 4). absurd (omega arith)), le-ltb (271 + n) 260 (omega arith), le-ltb (271 + n) 267 (omega arith), le-ltb (271 + n) 271 (omega arith), lt-ltb (271 + n) 303 (omega arith), minus)

pub in-range : (least limit n : ℕ) → (leb least n && ltb n limit) && true ≡ true → n < limit
in-range least limit n h = ltb-true n limit (and_right (leb least n) _ (and_left (leb least n && ltb n limit) _ h))

-- a cast keeps a word
cast_same : (k : ℕ) → among (23 ∷ 24 ∷ []) k ≡ true → (v : Value) → has_kind 1 v ≡ true → unary k v ≡ v
unfolding unary with_word unary_word has_kind
cast_same k p v h = keys (λ k. unary k v ≡ v) (23 ∷ 24 ∷ []) k p (go 23 v h (λ x. refl), (go 24 v h (λ x. refl), tt))
  where
    go : (k : ℕ) (v : Value) → has_kind 1 v ≡ true → ((x : ℕ) → unary_word k x ≡ Word x) → unary k v ≡ v
    go k Undefined h f = refl
    go k (Word x) h f = f x
    go k (Truth t) h f = absurd (false≢true h)
    go k (Slot n) h f = absurd (false≢true h)
    go k (Address n) h f = absurd (false≢true h)

-- ---- an entry at a point where the environment fits
module _ (g : Given) (cs : List ℕ) (env₀ : Env) (start : ℕ) (world : World g env₀ start) (m : Eval.Midway) (before : List ℕ) (kinds : Kinds before m.values) (w : Midway) (env : Env) (fit : Fits env₀ start m.values w env) where
  lent_is : (j : ℕ) → j < 303 → (lent g j < w.next) × (env (lent g j) ≡ role_of j)
  lent_is j l =
      let a = world.lents j l in
      let low : lent g j < start = a.0 in
      let above : start ≤ w.next = fit.above in
      (omega arith, fit.old (lent g j) low ∙ a.1)

  const-is : (k : Const) → listed g.constants k ≡ true → (const_id g k < w.next) × (env (const_id g k) ≡ Holds (const_value k))
  const-is k l =
      let a = world.consts k l in
      let low : const_id g k < start = a.0 in
      let above : start ≤ w.next = fit.above in
      (omega arith, fit.old (const_id g k) low ∙ a.1)

  -- how the plan of an entry answers its effect
  abbrev pub Simulates : Plan → Effect → Type 0
  Simulates Silent f = f ≡ Pass
  Simulates (Known n) f = (v : Value) × (f ≡ Push v) × (env n.id ≡ Holds v) × (n.id < w.next)
  Simulates (Made op t xs b) f = (act_of cs m.state env op (t ∷ w.next ∷ xs) ≡ answering m.state w.next f) × (pushing f ≡ true)
  Simulates (Stores p v) f = (act_of cs m.state env 62 (p ∷ v ∷ []) ≡ answering m.state w.next f) × (setting f ≡ true)
  Simulates (Opens c) f = (v : Value) × (f ≡ entering v) × (env c ≡ Holds v)
  Simulates Closes f = f ≡ Pass

  -- operations
  op_runs : (op : Op) (t : ℕ) (rs : List ℕ) (b : Bool) (v : Value) → plain op ≡ true → all (λ r. ltb r (length m.values)) rs ≡ true → value_op op (map (value_at m.values) rs) ≡ some v
      → Simulates (planned (lent g 4) op t (map (id_at w.names) rs) b) (Push v)
  unfolding planned value_op act_of operating extending in_set meant made answering pushing plain role_of
  op_runs (Core n) t rs b v p l e =
      let o = plain-is n p in
      (rw (o.const, o.yes, o.no, o.load, o.store, o.chain, o.extended, o.merge, o.choice, o.branch, seen w.next env w.names m.values fit.rel rs l, e), refl)
  op_runs (Glsl n) t rs b v p l e =
      (rw ((lent_is 4 (omega arith)).1, seen w.next env w.names m.values fit.rel rs l, e), refl)

  operates : (k : ℕ) (rs : List ℕ) (v : Value) → all (λ r. ltb r (length m.values)) rs ≡ true → value_op (op_of k) (map (value_at m.values) rs) ≡ some v → Simulates (operation g (name_at w.names) k rs) (Push v)
  unfolding operation
  operates k rs v l e = op_runs (op_of k) _ rs _ v (plain_op k) l e

  there : (os rs : List ℕ) → refs_pass (names before) os rs ≡ true → all (λ r. ltb r (length m.values)) rs ≡ true
  there os rs p = named-there before (length m.values) (kinds-length before m.values kinds) os rs p

  held : (r : ℕ) → ltb r (length m.values) && true ≡ true → (id_at w.names r < w.next) × (env (id_at w.names r) ≡ Holds (value_at m.values r))
  held r p = rel-at w.next env w.names m.values fit.rel r (ltb-true r (length m.values) (and_left (ltb r (length m.values)) _ p))

  -- the constants
  const-sim : (k : Const) (b : Bool) → listed g.constants k && true ≡ true → Simulates (Known (name (const_id g k) b)) (Push (const_value k))
  const-sim k b l = let a = const-is k (and_left (listed g.constants k) _ l) in (const_value k, refl, a.1, a.0)

  abbrev BareSim : ℕ → Type 0
  BareSim k = eqb k 255 ≡ false → all (listed g.constants) (const_of (Of.Bare k)) ≡ true → Simulates (plan_of g (name_at w.names) (Of.Bare k)) (bare_effect k)

  bare-sim : (k : ℕ) → among (kinds_of 1) k ≡ true → BareSim k
  unfolding plan_of bare_effect const_of const_value
  bare-sim k p = keys BareSim (kinds_of 1) k p ((λ e c. const-sim (const 2 0) false c), ((λ e c. const-sim (const 3 0) false c), ((λ e c. refl), ((λ e c. absurd (true≢false e)), tt))))

  -- loads, slots, notes
  load-sim : (t n j : ℕ) (x : Thing) (v : Value) → j < 303 → role_of j ≡ x → load_from cs m.state w.next x ≡ Bind w.next v → Simulates (Made 61 t (lent g j ∷ []) false) (Push v)
  unfolding act_of loading answering pushing
  load-sim t n j x v l r p = (rw ((lent_is j l).1, r) p, refl)

  abbrev CellSim : ℕ → ℕ → Type 0
  CellSim n k = cell_ok (format_of k) (Of.Cell k n) ≡ true → Simulates (plan_of g (name_at w.names) (Of.Cell k n)) (cell_effect m.state k n)

  cell-sim : (k n : ℕ) → among (kinds_of 3) k ≡ true → CellSim n k
  unfolding plan_of cell_effect loaded cell_ok cells_of format_of load_from
  cell-sim k n p = keys (CellSim n) (kinds_of 3) k p (
    (λ c. let l = in-range 0 255 n c in load-sim _ n (5 + n) (Register n) _ (omega arith) (role-register n l) (rw (lt-ltb n 255 l))),
    (
      (λ c. let l = in-range 0 7 n c in load-sim _ n (260 + n) (Predicate n) _ (omega arith) (role-predicate n l) (rw (lt-ltb n 7 l))),
      (
        (λ c. let l = in-range 0 4 n c in load-sim _ n (267 + n) (Flag n) _ (omega arith) (role-flag n l) (rw (lt-ltb n 4 l))),
        (
          (λ c. let l = in-range 0 32 n c in let a = lent_is (271 + n) (omega arith) in (Slot n, refl, a.1 ∙ role-slot n l, a.0)),
          ((λ c. refl), tt),
        ),
      ),
    ),
  )

  -- stores
  store-sim : (r j : ℕ) (x : Thing) (f : Effect) → j < 303 → role_of j ≡ x → ltb r (length m.values) && true ≡ true → store_to m.state x (value_at m.values r) ≡ answering m.state w.next f → setting f ≡ true
      → Simulates (Stores (lent g j) (id_at w.names r)) f
  unfolding act_of writing with_one
  store-sim r j x f l q h p z = (rw (seen w.next env w.names m.values fit.rel (r ∷ []) h, (lent_is j l).1, q) p, z)

  abbrev StoreSim : ℕ → ℕ → ℕ → Type 0
  StoreSim n r k = cell_ok (format_of k) (Of.Store k n r) ≡ true → Simulates (plan_of g (name_at w.names) (Of.Store k n r)) (storing k n (value_at m.values r))

  set_all : (k n : ℕ) (v : Value) → setting (storing k n v) ≡ true
  unfolding storing storing_word storing_truth setting
  set_all k n v =
      cond-all (λ f. setting f ≡ true) (eqb k 7) _ _ (with-word (λ f. setting f ≡ true) (Refuse UndefinedValue) v _ refl (λ x. refl))
      (with-truth (λ f. setting f ≡ true) (Refuse UndefinedValue) v _ refl (λ t. cond-all (λ f. setting f ≡ true) (eqb k 8) _ _ refl refl))

  store-each : (k n r : ℕ) → ltb r (length m.values) && true ≡ true → among (kinds_of 4) k ≡ true → StoreSim n r k
  unfolding plan_of storing cell_ok cells_of format_of store_to
  store-each k n r h p = keys (StoreSim n r) (kinds_of 4) k p (
    (λ c. let l = in-range 0 255 n c in store-sim r (5 + n) (Register n) _ (omega arith) (role-register n l) h (store_word m.state w.next n (value_at m.values r)) (set_all 7 n _)),
    (
      (λ c. let l = in-range 0 7 n c in store-sim r (260 + n) (Predicate n) _ (omega arith) (role-predicate n l) h (store-pred m.state w.next n (value_at m.values r)) (set_all 8 n _)),
      (
        (λ c. let l = in-range 0 4 n c in store-sim r (267 + n) (Flag n) _ (omega arith) (role-flag n l) h (store-flag m.state w.next n (value_at m.values r)) (set_all 9 n _)),
        tt,
      ),
    ),
  )

  -- one reference
  cast-sim : (k a : ℕ) → among (23 ∷ 24 ∷ []) k ≡ true → among (20 ∷ 21 ∷ 22 ∷ 23 ∷ 24 ∷ 25 ∷ 26 ∷ 27 ∷ []) k ≡ true → ltb a (length m.values) && true ≡ true → has_kind 1 (value_at m.values a) ≡ true
      → Simulates (casting g (name_at w.names) k a) (Push (unary k (value_at m.values a)))
  unfolding casting
  cast-sim k a p q l h = go (xor (eqb k 23) (name_at w.names a).signed)
    where
      go : (b : Bool) → Simulates (cond b (planned (lent g 4) (op_of k) (type_id g 1 (eqb k 23)) (id_at w.names a ∷ []) (eqb k 23)) (Known (name_at w.names a))) (Push (unary k (value_at m.values a)))
      go true = op_runs (op_of k) _ (a ∷ []) _ _ (plain_op k) l (one-is k q (value_at m.values a))
      go false = let z = held a l in (value_at m.values a, ap Push (cast_same k p (value_at m.values a) h), z.1, z.0)

  abbrev OneSim : ℕ → ℕ → Type 0
  OneSim a k = refs_pass (names before) (format_of k).operands (a ∷ []) ≡ true → Simulates (plan_of g (name_at w.names) (Of.One k a)) (one_effect k (value_at m.values a) cs)

  one-op : (k a : ℕ) → among (20 ∷ 21 ∷ 22 ∷ 23 ∷ 24 ∷ 25 ∷ 26 ∷ 27 ∷ []) k ≡ true → names before 1 a && true ≡ true → Simulates (operation g (name_at w.names) k (a ∷ [])) (Push (unary k (value_at m.values a)))
  unfolding refs_pass
  one-op k a q r = operates k (a ∷ []) _ (there (1 ∷ []) (a ∷ []) r) (one-is k q (value_at m.values a))

  fetch-sim : (t a : ℕ) → ltb a (length m.values) && true ≡ true → Simulates (Made 61 t (id_at w.names a ∷ []) false) (Push (fetched (value_at m.values a) cs))
  unfolding act_of loading load_from fetched answering pushing
  fetch-sim t a l = (rw (held a l).1, refl)

  one-cast : (k a : ℕ) → among (23 ∷ 24 ∷ []) k ≡ true → among (20 ∷ 21 ∷ 22 ∷ 23 ∷ 24 ∷ 25 ∷ 26 ∷ 27 ∷ []) k ≡ true → names before 1 a && true ≡ true → Simulates (casting g (name_at w.names) k a) (Push (unary k (value_at m.values a)))
  unfolding refs_pass
  one-cast k a p q r = cast-sim k a p q (there (1 ∷ []) (a ∷ []) r) (named-kind before m.values kinds 1 a (and_left (names before 1 a) _ r))

  one-sim : (k a : ℕ) → among (kinds_of 5) k ≡ true → OneSim a k
  unfolding plan_of one_effect format_of refs_pass
  one-sim k a p = keys (OneSim a) (kinds_of 5) k p (
    (λ r. fetch-sim _ a (there (4 ∷ []) (a ∷ []) r)),
    (
      (λ r. one-op 20 a refl r),
      (
        (λ r. one-op 21 a refl r),
        (
          (λ r. one-op 22 a refl r),
          (
            (λ r. one-cast 23 a refl refl r),
            (
              (λ r. one-cast 24 a refl refl r),
              (
                (λ r. one-op 25 a refl r),
                (
                  (λ r. one-op 26 a refl r),
                  (
                    (λ r. one-op 27 a refl r),
                    (
                      (λ r. operates 80 (a ∷ []) _ (there (2 ∷ []) (a ∷ []) r) (not_is (value_at m.values a))),
                      ((λ r. (value_at m.values a, refl, (held a (there (2 ∷ []) (a ∷ []) r)).1)), tt),
                    ),
                  ),
                ),
              ),
            ),
          ),
        ),
      ),
    ),
  )

  -- two, three, four
  two-sim : (k a b : ℕ) → among (kinds_of 6) k ≡ true → refs_pass (names before) (format_of k).operands (a ∷ b ∷ []) ≡ true → Simulates (operation g (name_at w.names) k (a ∷ b ∷ [])) (Push (two k (value_at m.values a) (value_at m.values b)))
  two-sim k a b p r = operates k (a ∷ b ∷ []) _ (there (format_of k).operands (a ∷ b ∷ []) r) (two_is k p (value_at m.values a) (value_at m.values b))

  three-sim : (k a b c : ℕ) → among (kinds_of 7) k ≡ true → refs_pass (names before) (format_of k).operands (a ∷ b ∷ c ∷ []) ≡ true
      → Simulates (operation g (name_at w.names) k (a ∷ b ∷ c ∷ [])) (Push (three k (value_at m.values a) (value_at m.values b) (value_at m.values c)))
  three-sim k a b c p r = operates k (a ∷ b ∷ c ∷ []) _ (there (format_of k).operands (a ∷ b ∷ c ∷ []) r) (three-is k p (value_at m.values a) (value_at m.values b) (value_at m.values c))

  abbrev FourSim : ℕ → ℕ → ℕ → ℕ → ℕ → Type 0
  FourSim a b c d k = refs_pass (names before) (format_of k).operands (a ∷ b ∷ c ∷ d ∷ []) ≡ true
      → Simulates (plan_of g (name_at w.names) (Of.Four k a b c d)) (four_effect k (value_at m.values a) (value_at m.values b) (value_at m.values c) (value_at m.values d) (length cs))

  address-sim : (t a b c d : ℕ) → all (λ r. ltb r (length m.values)) (a ∷ b ∷ c ∷ d ∷ []) ≡ true
      → Simulates (Made 65 t (id_at w.names a ∷ id_at w.names b ∷ id_at w.names c ∷ id_at w.names d ∷ []) false) (addressing (value_at m.values a) (value_at m.values b) (value_at m.values c) (value_at m.values d) (length cs))
  unfolding act_of chaining pushing
  address-sim t a b c d l = (
    rw (seen w.next env w.names m.values fit.rel (a ∷ b ∷ c ∷ d ∷ []) l) (address-chain m.state w.next (length cs) _ _ _ _),
    address-all (λ f. pushing f ≡ true) (λ r. refl) (λ i. refl) _ _ _ _ (length cs),
  )

  four-sim : (k a b c d : ℕ) → among (kinds_of 8) k ≡ true → FourSim a b c d k
  unfolding plan_of four_effect format_of
  four-sim k a b c d p = keys (FourSim a b c d) (kinds_of 8) k p (
    (λ r. address-sim _ a b c d (there (3 ∷ 1 ∷ 1 ∷ 1 ∷ []) (a ∷ b ∷ c ∷ d ∷ []) r)),
    ((λ r. operates 93 (a ∷ b ∷ c ∷ d ∷ []) _ (there (1 ∷ 1 ∷ 1 ∷ 1 ∷ []) (a ∷ b ∷ c ∷ d ∷ []) r) (four_is _ _ _ _)), tt),
  )

  -- every entry but the end
  pub entry-sim : (e : Entry) → Fair g before e → is_end e ≡ false → Simulates (plan_of g (name_at w.names) e) (effect_of m e cs)
  unfolding plan_of effect_of kind_of refs_of body_of body_number const_of const_value refs_pass
  entry-sim (Of.Bare k) f e = bare-sim k (kind-among k (Of.Bare k) f.body) e f.consts
  entry-sim (Of.Word x) f e = const-sim (const 1 x) false f.consts
  entry-sim (Of.Cell k n) f e = cell-sim k n (kind-among k (Of.Cell k n) f.body) f.cells
  entry-sim (Of.Store k n r) f e = store-each k n r (there (format_of k).operands (r ∷ []) f.refs) (kind-among k (Of.Store k n r) f.body) f.cells
  entry-sim (Of.One k a) f e = one-sim k a (kind-among k (Of.One k a) f.body) f.refs
  entry-sim (Of.Two k a b) f e = two-sim k a b (kind-among k (Of.Two k a b) f.body) f.refs
  entry-sim (Of.Three k a b c) f e = three-sim k a b c (kind-among k (Of.Three k a b c) f.body) f.refs
  entry-sim (Of.Four k a b c d) f e = four-sim k a b c d (kind-among k (Of.Four k a b c d) f.body) f.refs
