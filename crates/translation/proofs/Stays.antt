-- A state of words stays one: registers below 2 ^ 32, four flags, whatever code runs.
use mathlib.Core.Path.{◌≡◌, refl}
use mathlib.Core.Bool.{Bool, true, false, cond}
use mathlib.Core.List.{List, [], ◌∷◌, ◌++◌}
use Prim.Native.Nat.{ℕ, zero, suc, ◌^◌, ◌<◌}
use native.Mathlib.Omega.{arith}
use lib.Dec.{eqb, ltb}
use lib.ListN.{length, get_or, set, length-set}
use lib.Seq.{get_or-set_same, get_or-set_other, set_out}
use borrow.Author.Tests.{ltb-true, ltb-false, eqb-true, eqb-false}
use Rattle.strip.specs.declared.reader.Entry.{Entry}
use Rattle.strip.proofs.Tests.{and_left, and_right}
use Rattle.evaluation.specs.declared.value.Value.{Value}
use Rattle.evaluation.specs.declared.value.Value.TheVariants.{Undefined, Word, Truth, Slot, Address}
use Rattle.evaluation.specs.declared.state.State.{State}
use Rattle.evaluation.specs.Value.{with_word, with_address, unary, negated, binary, compared, logic, two, chosen, extracted, three, inserted_value}
use Rattle.evaluation.specs.State.{loaded, stored_reg, stored_pred, stored_flag}
use Rattle.evaluation.specs.Machine.{addressing, Effect, Push, SetReg, SetPred, SetFlag, Enter, Pass, Finish, Refuse, storing_word, storing_truth, storing, entering, fetched, bare_effect, cell_effect, one_effect, four_effect, value_at, effect_of}
use Rattle.evaluation.proofs.Words.{Sized, word-sized, undefined-sized, unary-sized, binary-sized, extract-sized, insert-sized}
use Rattle.evaluation.specs.declared.machine.Refusal.TheVariants.{UndefinedValue}
use Rattle.evaluation.proofs.Laws.{cond-all, with-truth, address-cases}
use Rattle.translation.specs.Code.{Code, ret, op, act, call, mark, ite}
use Rattle.translation.proofs.InRange.{fits, word_in, in_range, taken, left_out}
use Rattle.translation.proofs.Sem.{Ran, ran, halted, mid, pushing, acting, followed, values_at, sem}

-- ---- states and constants of words: what the types of a state and of a lent list say

pub record Proper (cs : List ℕ) (s : State) : Type 0 where
  pub regs : (n : ℕ) → get_or s.regs n 0 < 2 ^ 32
  pub constants : (n : ℕ) → get_or cs n 0 < 2 ^ 32
  pub flags : length s.flags ≡ 4

-- ---- values

truth-sized : (t : Bool) → Sized (Truth t)
truth-sized t = record { below = λ w e. let z : ◌≡◌ {A = ℕ} 0 1 = cc in absurd (omega arith) }

slot-sized : (n : ℕ) → Sized (Slot n)
slot-sized n = record { below = λ w e. let z : ◌≡◌ {A = ℕ} 0 1 = cc in absurd (omega arith) }

address-sized : (n : ℕ) → Sized (Address n)
address-sized n = record { below = λ w e. let z : ◌≡◌ {A = ℕ} 0 1 = cc in absurd (omega arith) }

with-sized : {A : Type 0} (P : A → Type 0) (d : A) (v : Value) (f : ℕ → A) → Sized v → P d → ((x : ℕ) → x < 2 ^ 32 → P (f x)) → P (with_word d v f)
unfolding with_word
with-sized P d (Word x) f h p g = g x (h.below x refl)
with-sized P d (Truth t) f h p g = p
with-sized P d (Slot n) f h p g = p
with-sized P d (Address n) f h p g = p
with-sized P d Undefined f h p g = p

with-address : {A : Type 0} (P : A → Type 0) (d : A) (v : Value) (f : ℕ → A) → P d → ((x : ℕ) → P (f x)) → P (with_address d v f)
unfolding with_address
with-address P d (Address x) f p g = g x
with-address P d (Word x) f p g = p
with-address P d (Truth t) f p g = p
with-address P d (Slot n) f p g = p
with-address P d Undefined f p g = p

case : (b : Bool) {x y : Value} → Sized x → Sized y → Sized (cond b x y)
case true p q = p
case false p q = q

two_sized : (k : ℕ) (a b : Value) → Sized a → Sized b → Sized (two k a b)
unfolding two binary compared logic
two_sized k a b p q =
    case (ltb k 60) (with-sized Sized Undefined a _ p undefined-sized (λ x hx. with-sized Sized Undefined b _ q undefined-sized (λ y hy. binary-sized k x y hx hy)))
    (case (ltb k 80) (with-sized Sized Undefined a _ p undefined-sized (λ x hx. with-sized Sized Undefined b _ q undefined-sized (λ y hy. truth-sized _)))
    (with-truth Sized Undefined a _ undefined-sized (λ s. with-truth Sized Undefined b _ undefined-sized (λ t. truth-sized _))))

three-sized : (k : ℕ) (a b c : Value) → Sized a → Sized b → Sized c → Sized (three k a b c)
unfolding three chosen extracted
three-sized k a b c p q r =
    case (eqb k 90) (with-truth Sized Undefined a _ undefined-sized (λ t. case t q r))
    (with-sized Sized Undefined a _ p undefined-sized (λ x hx. with-sized Sized Undefined b _ q undefined-sized (λ o ho. with-sized Sized Undefined c _ r undefined-sized (λ n hn. extract-sized k x o n))))

insert-value-sized : (a b c d : Value) → Sized a → Sized b → Sized c → Sized d → Sized (inserted_value a b c d)
unfolding inserted_value
insert-value-sized a b c d p q r t =
    with-sized Sized Undefined a _ p undefined-sized
    (λ x hx. with-sized Sized Undefined b _ q undefined-sized (λ v hv. with-sized Sized Undefined c _ r undefined-sized (λ o ho. with-sized Sized Undefined d _ t undefined-sized (λ n hn. insert-sized x v o n hx))))

-- ---- effects

abbrev SizedEffect : Effect → Type 0
SizedEffect (Push v) = Sized v
SizedEffect (SetReg n w) = w < 2 ^ 32
SizedEffect (SetPred n t) = Unit {0}
SizedEffect (SetFlag n t) = Unit {0}
SizedEffect (Enter t) = Unit {0}
SizedEffect Pass = Unit {0}
SizedEffect Finish = Unit {0}
SizedEffect (Refuse r) = Unit {0}

address-effect : (a b c d : Value) (size : ℕ) → SizedEffect (addressing a b c d size)
address-effect = address-cases SizedEffect tt (λ slot vec comp. tt) (λ i. address-sized i)

module _ (cs : List ℕ) (s : State) (vs : List Value) (w : Proper cs s) (h : (l : ℕ) → Sized (value_at vs l)) where
  load_sized : (k n : ℕ) → Sized (loaded s k n)
  unfolding loaded
  load_sized k n =
      case (eqb k 4) (case (ltb n 255) (word-sized (w.regs n)) undefined-sized)
      (case (eqb k 5) (case (ltb n 7) (truth-sized _) undefined-sized) (case (ltb n 4) (truth-sized _) undefined-sized))

  fetch-sized : (v : Value) → Sized (fetched v cs)
  unfolding fetched
  fetch-sized v = with-address Sized Undefined v _ undefined-sized (λ j. case (ltb j (length cs)) (word-sized (w.constants j)) undefined-sized)

  one-sized : (k : ℕ) (v : Value) → Sized v → SizedEffect (one_effect k v cs)
  unfolding one_effect negated entering unary
  one-sized k v p =
      cond-all SizedEffect (eqb k 12) _ _ (fetch-sized v)
      (cond-all SizedEffect (eqb k 80) _ _ (with-truth Sized Undefined v _ undefined-sized (λ t. truth-sized _))
      (cond-all SizedEffect (eqb k 100) _ _ (with-truth SizedEffect (Refuse UndefinedValue) v _ tt (λ t. tt))
      (with-sized Sized Undefined v _ p undefined-sized (λ x hx. unary-sized k x hx))))

  effect-sized : (e : Entry) → word_in e ≡ true → SizedEffect (effect_of (mid s vs) e cs)
  unfolding effect_of bare_effect cell_effect four_effect storing storing_word storing_truth
  effect-sized (Entry.Bare k) q =
      cond-all SizedEffect (eqb k 2) _ _ (truth-sized true) (cond-all SizedEffect (eqb k 3) _ _ (truth-sized false) (cond-all SizedEffect (eqb k 255) _ _ tt tt))
  effect-sized (Entry.Word x) q = word-sized (ltb-true x (2 ^ 32) q)
  effect-sized (Entry.Cell k n) q = cond-all SizedEffect (eqb k 10) _ _ (slot-sized n) (cond-all SizedEffect (eqb k 110) _ _ tt (load_sized k n))
  effect-sized (Entry.Store k n r) q =
      cond-all SizedEffect (eqb k 7) _ _
      (with-sized SizedEffect (Refuse UndefinedValue) (value_at vs r) _ (h r) tt (λ x hx. hx))
      (with-truth SizedEffect (Refuse UndefinedValue) (value_at vs r) _ tt (λ t. cond-all SizedEffect (eqb k 8) _ _ tt tt))
  effect-sized (Entry.One k a) q = one-sized k (value_at vs a) (h a)
  effect-sized (Entry.Two k a b) q = two_sized k (value_at vs a) (value_at vs b) (h a) (h b)
  effect-sized (Entry.Three k a b c) q = three-sized k (value_at vs a) (value_at vs b) (value_at vs c) (h a) (h b) (h c)
  effect-sized (Entry.Four k a b c d) q =
      cond-all SizedEffect (eqb k 11) _ _ (address-effect (value_at vs a) (value_at vs b) (value_at vs c) (value_at vs d) (length cs))
      (insert-value-sized (value_at vs a) (value_at vs b) (value_at vs c) (value_at vs d) (h a) (h b) (h c) (h d))

-- ---- stores

module _ (cs : List ℕ) (s : State) (w : Proper cs s) where
  reg-proper : (n x : ℕ) → x < 2 ^ 32 → Proper cs (stored_reg s n x)
  unfolding stored_reg
  reg-proper n x h = record { regs = λ m. go m (eqb m n) refl; constants = w.constants; flags = w.flags }
    where
      inside : (m : ℕ) (b : Bool) → ltb n (length s.regs) ≡ b → m ≡ n → get_or (set s.regs n x) m 0 < 2 ^ 32
      inside m true e q = rw (q, get_or-set_same s.regs n x 0 (ltb-true n (length s.regs) e)) h
      inside m false e q = rw (set_out s.regs n x (ltb-false n (length s.regs) e)) (w.regs m)

      go : (m : ℕ) (b : Bool) → eqb m n ≡ b → get_or (set s.regs n x) m 0 < 2 ^ 32
      go m true e = inside m (ltb n (length s.regs)) refl (eqb-true m n e)
      go m false e = rw (get_or-set_other s.regs n m x 0 (eqb-false m n e)) (w.regs m)

  pred-proper : (n : ℕ) (t : Bool) → Proper cs (stored_pred s n t)
  unfolding stored_pred
  pred-proper n t = record { regs = w.regs; constants = w.constants; flags = w.flags }

  flag-proper : (n : ℕ) (t : Bool) → Proper cs (stored_flag s n t)
  unfolding stored_flag
  flag-proper n t = record { regs = w.regs; constants = w.constants; flags = rw (length-set s.flags n t) w.flags }

-- ---- code

abbrev pub Stays : List ℕ → Ran → Type 0
Stays cs (ran t v) = Proper cs t × Sized v
Stays cs (halted r t) = Unit {0}

-- the values of levels, one more of them
value-more : (vs : List Value) (v : Value) → ((l : ℕ) → Sized (value_at vs l)) → Sized v → (l : ℕ) → Sized (value_at (vs ++ (v ∷ [])) l)
unfolding value_at
value-more [] v h p zero = p
value-more [] v h p (suc l) = undefined-sized
value-more (x ∷ vs) v h p zero = h zero
value-more (x ∷ vs) v h p (suc l) = value-more vs v (λ j. h (suc j)) p l

values-at : (vs : List Value) (ls : List ℕ) → ((l : ℕ) → Sized (value_at vs l)) → (l : ℕ) → Sized (value_at (values_at vs ls) l)
unfolding value_at
values-at vs [] h l = undefined-sized
values-at vs (j ∷ ls) h zero = h j
values-at vs (j ∷ ls) h (suc l) = values-at vs ls h l

pub stays : (cs : List ℕ) (c : Code) (vs : List Value) (s : State) → in_range c ≡ true → Proper cs s → ((l : ℕ) → Sized (value_at vs l)) → Stays cs (sem cs c vs s)
unfolding in_range
stays cs (ret l) vs s r w h = (w, h l)
stays cs (op e k) vs s r w h =
    go (effect_of (mid s vs) e cs) (effect-sized cs s vs w h e (and_left (word_in e) _ (and_left (fits e) _ r)))
    (λ v p. stays cs k (vs ++ (v ∷ [])) s (and_right (fits e) _ r) w (value-more vs v h p))
  where
    go : (f : Effect) → SizedEffect f → ((v : Value) → Sized v → Stays cs (sem cs k (vs ++ (v ∷ [])) s)) → Stays cs (pushing f s (λ v. sem cs k (vs ++ (v ∷ [])) s))
    go (Push v) p ih = ih v p
    go (SetReg n x) p ih = tt
    go (SetPred n t) p ih = tt
    go (SetFlag n t) p ih = tt
    go (Enter t) p ih = tt
    go Pass p ih = tt
    go Finish p ih = tt
    go (Refuse q) p ih = tt
stays cs (act e k) vs s r w h =
    go (effect_of (mid s vs) e cs) (effect-sized cs s vs w h e (and_left (word_in e) _ (and_left (fits e) _ r)))
    (λ t p. stays cs k vs t (and_right (fits e) _ r) p h)
  where
    go : (f : Effect) → SizedEffect f → ((t : State) → Proper cs t → Stays cs (sem cs k vs t)) → Stays cs (acting f s (λ t. sem cs k vs t))
    go (Push v) p ih = tt
    go (SetReg n x) p ih = ih (stored_reg s n x) (reg-proper cs s w n x p)
    go (SetPred n t) p ih = ih (stored_pred s n t) (pred-proper cs s w n t)
    go (SetFlag n t) p ih = ih (stored_flag s n t) (flag-proper cs s w n t)
    go (Enter t) p ih = tt
    go Pass p ih = ih s w
    go Finish p ih = tt
    go (Refuse q) p ih = tt
stays cs (call c ls k) vs s r w h =
    go (sem cs c (values_at vs ls) s) (stays cs c (values_at vs ls) s (and_left (in_range c) _ r) w (values-at vs ls h))
    (λ t v p q. stays cs k (vs ++ (v ∷ [])) t (and_right (in_range c) _ r) p (value-more vs v h q))
  where
    go : (x : Ran) → Stays cs x → ((t : State) (v : Value) → Proper cs t → Sized v → Stays cs (sem cs k (vs ++ (v ∷ [])) t)) → Stays cs (followed x (λ t v. sem cs k (vs ++ (v ∷ [])) t))
    go (ran t v) p ih = ih t v p.0 p.1
    go (halted q t) p ih = tt
stays cs (mark n u k) vs s r w h = stays cs k vs s r w h
stays cs (ite true c d) vs s r w h = stays cs c vs s (taken (in_range c) (in_range d) r) w h
stays cs (ite false c d) vs s r w h = stays cs d vs s (left_out (in_range c) (in_range d) r) w h
