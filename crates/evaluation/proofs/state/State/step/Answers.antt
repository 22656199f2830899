use Rattle.std.proofs.Common.{◌≡◌, ◌≢◌, ℕ, Bool, cond, eqb, sym, ap, ◌∙◌, eq-eqb, ne_eqb}
use Rattle.evaluation.specs.declared.value.Value.{Value}
use Rattle.evaluation.specs.declared.value.Value.TheVariants.{Word, Truth}
use Rattle.evaluation.specs.declared.machine.Refusal.TheVariants.{UndefinedValue}
use Rattle.strip.specs.declared.reader.Entry.TheVariants.{Store}
use Rattle.evaluation.specs.declared.state.State.{State}
use Rattle.evaluation.specs.State.{with_store}
use Rattle.evaluation.specs.Machine.{Effect, SetReg, SetPred, SetFlag, Refuse, begun, storing_word, storing_truth, storing, stepped_by, applied}
use Rattle.evaluation.proofs.Cases.{no_store, no_word, no_truth, yes-word, yes-truth}
use Rattle.evaluation.proofs.state.State.step.Goals as goal

-- a store of kind 7, and one of another kind
of-word : (k n : ℕ) (v : Value) → k ≡ 7 → storing k n v ≡ storing_word n v
unfolding storing
of-word k n v e = ap (λ (b : Bool). cond b (storing_word n v) (storing_truth k n v)) (eq-eqb k 7 e)

of-truth : (k n : ℕ) (v : Value) → k ≢ 7 → storing k n v ≡ storing_truth k n v
unfolding storing
of-truth k n v e = ap (λ (b : Bool). cond b (storing_word n v) (storing_truth k n v)) (ne_eqb k 7 e)

-- what is stored
not-word : (k n : ℕ) (v : Value) → k ≡ 7 → ((x : ℕ) → v ≡ Word x → ⊥) → storing k n v ≡ Refuse UndefinedValue
unfolding storing_word
not-word k n v e h = of-word k n v e ∙ no_word (Refuse UndefinedValue) v (λ w. SetReg n w) h

is-word : (k n : ℕ) (v : Value) (w : ℕ) → k ≡ 7 → v ≡ Word w → storing k n v ≡ SetReg n w
unfolding storing_word
is-word k n v w e h = of-word k n v e ∙ rw h (yes-word (Refuse UndefinedValue) w (λ w. SetReg n w))

not-truth : (k n : ℕ) (v : Value) → k ≢ 7 → ((t : Bool) → v ≡ Truth t → ⊥) → storing k n v ≡ Refuse UndefinedValue
unfolding storing_truth
not-truth k n v e h = of-truth k n v e ∙ no_truth (Refuse UndefinedValue) v (λ t. cond (eqb k 8) (SetPred n t) (SetFlag n t)) h

is-truth : (k n : ℕ) (v : Value) (t : Bool) → k ≢ 7 → v ≡ Truth t → storing k n v ≡ cond (eqb k 8) (SetPred n t) (SetFlag n t)
unfolding storing_truth
is-truth k n v t e h = of-truth k n v e ∙ rw h (yes-truth (Refuse UndefinedValue) t (λ t. cond (eqb k 8) (SetPred n t) (SetFlag n t)))

pub returns-in_default : goal.returns-in_default
unfolding with_store begun applied
returns-in_default c = sym (no_store _ c.args.e _ c.in_default.not-Store)

-- what a store does
stores : (s : State) (k n r : ℕ) (v : Value) (x : Effect) → storing k n v ≡ x → stepped_by s (Store k n r) v ≡ (applied (begun s) x).state
unfolding with_store
stores s k n r v x h = ap (λ (f : Effect). (applied (begun s) f).state) h

pub returns-in_default-v : goal.returns-in_default-v
unfolding begun applied
returns-in_default-v c = rw c.in-Store.is (sym (stores c.args.self _ _ c.in-Store.field-2 _ _ (not-word c.in-Store.k c.in-Store.n c.args.v c.if-k-eq7.true c.in_default-v.not-Word)))

pub returns-then-k-eq7 : goal.returns-then-k-eq7
unfolding begun applied
returns-then-k-eq7 c = rw c.in-Store.is (c.store_register.ensures ∙ sym (stores c.args.self _ _ c.in-Store.field-2 _ _ (is-word c.in-Store.k c.in-Store.n c.args.v c.in-Word.w c.if-k-eq7.true c.in-Word.is)))

pub returns-in_default-v-2 : goal.returns-in_default-v-2
unfolding begun applied
returns-in_default-v-2 c = rw c.in-Store.is (sym (stores c.args.self _ _ c.in-Store.field-2 _ _ (not-truth c.in-Store.k c.in-Store.n c.args.v c.if-k-eq7.false c.in_default-v-2.not-Truth)))

pub returns-then-k-eq8 : goal.returns-then-k-eq8
unfolding begun applied
returns-then-k-eq8 c =
    let n = c.in-Store.n in
    let t = c.in-Truth.t in
    let e : storing c.in-Store.k n c.args.v ≡ SetPred n t = is-truth c.in-Store.k n c.args.v t c.if-k-eq7.false c.in-Truth.is ∙ rw (eq-eqb c.in-Store.k 8 c.if-k-eq8.true) in
    rw c.in-Store.is (c.store_predicate.ensures ∙ sym (stores c.args.self _ _ c.in-Store.field-2 _ _ e))

pub returns : goal.returns
unfolding begun applied
returns c =
    let n = c.in-Store.n in
    let t = c.in-Truth.t in
    let e : storing c.in-Store.k n c.args.v ≡ SetFlag n t = is-truth c.in-Store.k n c.args.v t c.if-k-eq7.false c.in-Truth.is ∙ rw (ne_eqb c.in-Store.k 8 c.if-k-eq8.false) in
    rw c.in-Store.is (c.store_flag.ensures ∙ sym (stores c.args.self _ _ c.in-Store.field-2 _ _ e))
