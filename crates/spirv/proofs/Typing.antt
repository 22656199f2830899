-- Evaluation makes values of the kinds that the format says, or undefined ones. (A law of evaluation: it should stand there.)
use Rattle.std.proofs.Common.{◌≡◌, ℕ, zero, suc, ◌+◌, ◌<◌, Bool, true, false, ◌&&◌, eqb, ltb, leb, List, [], ◌∷◌, ◌++◌, length, get_or, refl, ap, arith, ltb-true, eqb-true}
use mathlib.Core.Bool.{false≢true}
use Rattle.strip.specs.declared.reader.Entry.{Entry}
use Rattle.strip.specs.declared.reader.Entry.TheVariants as Of
use Rattle.strip.specs.Format.{format_of}
use Rattle.strip.specs.Entry.{kind_of, refs_of, body_of}
use Rattle.strip.specs.Shape.{all, names, refs_pass}
use Rattle.strip.proofs.Tests.{among, and_left, and_right}
use Rattle.strip.proofs.Table.{body_number}
use Rattle.evaluation.specs.declared.value.Value.{Value}
use Rattle.evaluation.specs.declared.value.Value.TheVariants.{Undefined, Word, Truth, Slot, Address}
use Rattle.evaluation.specs.declared.machine.Refusal.TheVariants.{UndefinedValue}
use Rattle.evaluation.specs.Word.{unary_word, binary_word, extract_word, insert_word}
use Rattle.evaluation.specs.Value.{unary, negated, binary, compared, logic, two, chosen, extracted, three, inserted_value, with_address}
use Rattle.evaluation.specs.State.{loaded}
use Rattle.evaluation.specs.Machine.{Effect, Push, SetReg, SetPred, SetFlag, Enter, Pass, Finish, Refuse, Midway, storing_word, storing_truth, storing, entering, fetched, bare_effect, cell_effect, one_effect, four_effect, value_at, effect_of}
use Rattle.evaluation.proofs.Laws.{cond-all, with-word, with-truth, address-all}
use Rattle.spirv.proofs.Keys.{keys, kinds_of, kind-among}

-- a value of this kind, or an undefined one
unfoldable pub has_kind : ℕ → Value → Bool
has_kind k Undefined = true
has_kind k (Word w) = eqb k 1
has_kind k (Truth t) = eqb k 2
has_kind k (Slot n) = eqb k 3
has_kind k (Address i) = eqb k 4

abbrev pub Kinds : List ℕ → List Value → Type 0
Kinds [] [] = Unit {0}
Kinds [] (v ∷ vs) = ⊥
Kinds (k ∷ ks) [] = ⊥
Kinds (k ∷ ks) (v ∷ vs) = (has_kind k v ≡ true) × Kinds ks vs

pub kinds-length : (ks : List ℕ) (vs : List Value) → Kinds ks vs → length ks ≡ length vs
kinds-length [] [] h = refl
kinds-length [] (v ∷ vs) h = absurd h
kinds-length (k ∷ ks) [] h = absurd h
kinds-length (k ∷ ks) (v ∷ vs) h = ap suc (kinds-length ks vs h.1)

pub kinds-push : (ks : List ℕ) (vs : List Value) → Kinds ks vs → (k : ℕ) (v : Value) → has_kind k v ≡ true → Kinds (ks ++ (k ∷ [])) (vs ++ (v ∷ []))
kinds-push [] [] h k v p = (p, tt)
kinds-push [] (u ∷ vs) h k v p = absurd h
kinds-push (j ∷ ks) [] h k v p = absurd h
kinds-push (j ∷ ks) (u ∷ vs) h k v p = (h.0, kinds-push ks vs h.1 k v p)

kind_at : (ks : List ℕ) (vs : List Value) → Kinds ks vs → (r : ℕ) → r < length ks → has_kind (get_or ks r 0) (value_at vs r) ≡ true
unfolding value_at
kind_at [] [] h r l = absurd (omega arith)
kind_at [] (v ∷ vs) h r l = absurd h
kind_at (k ∷ ks) [] h r l = absurd h
kind_at (k ∷ ks) (v ∷ vs) h zero l = h.0
kind_at (k ∷ ks) (v ∷ vs) h (suc r) l = kind_at ks vs h.1 r (omega arith)

-- what a reference names has the kind wanted
pub named-kind : (ks : List ℕ) (vs : List Value) → Kinds ks vs → (k r : ℕ) → names ks k r ≡ true → has_kind k (value_at vs r) ≡ true
unfolding names
named-kind ks vs h k r p =
    let l = ltb-true r (length ks) (and_left (ltb r (length ks)) _ p) in
    let e = eqb-true (get_or ks r 0) k (and_right (ltb r (length ks)) _ p) in
    rw e at (kind_at ks vs h r l)

-- and is there
pub named-there : (ks : List ℕ) (n : ℕ) → length ks ≡ n → (os rs : List ℕ) → refs_pass (names ks) os rs ≡ true → all (λ r. ltb r n) rs ≡ true
unfolding refs_pass names
named-there ks n h [] [] p = refl
named-there ks n h [] (r ∷ rs) p = absurd (false≢true p)
named-there ks n h (o ∷ os) [] p = absurd (false≢true p)
named-there ks n h (o ∷ os) (r ∷ rs) p =
    let a = and_left (ltb r (length ks) && eqb (get_or ks r 0) o) _ p in
    let b = and_left (ltb r (length ks)) _ a in
    let c : ltb r n ≡ true = rw h at b in
    rw c (named-there ks n h os rs (and_right (ltb r (length ks) && eqb (get_or ks r 0) o) _ p))

-- ---- operations
abbrev IsWord : Value → Type 0
IsWord v = has_kind 1 v ≡ true

abbrev IsTruth : Value → Type 0
IsTruth v = has_kind 2 v ≡ true

word-unary : (k : ℕ) (a : Value) → IsWord (unary k a)
unfolding unary unary_word has_kind
word-unary k a =
    with-word IsWord Undefined a _ refl
    (λ x. cond-all IsWord (eqb k 20) _ _ refl (cond-all IsWord (eqb k 21) _ _ refl (cond-all IsWord (eqb k 22) _ _ refl (cond-all IsWord (eqb k 23) _ _ refl
    (cond-all IsWord (eqb k 24) _ _ refl (cond-all IsWord (eqb k 25) _ _ refl (cond-all IsWord (eqb k 26) _ _ refl (cond-all IsWord (eqb k 27) _ _ refl refl))))))))

word-binary : (k : ℕ) (a b : Value) → IsWord (binary k a b)
unfolding binary binary_word has_kind
word-binary k a b =
    with-word IsWord Undefined a _ refl
    (λ x. with-word IsWord Undefined b _ refl
    (λ y. cond-all IsWord (eqb k 40) _ _ refl (cond-all IsWord (eqb k 41) _ _ refl (cond-all IsWord (eqb k 42) _ _ refl
    (cond-all IsWord (eqb k 43) _ _ (cond-all IsWord (ltb y 32) _ _ refl refl) (cond-all IsWord (eqb k 44) _ _ (cond-all IsWord (ltb y 32) _ _ refl refl)
    (cond-all IsWord (eqb k 45) _ _ (cond-all IsWord (ltb y 32) _ _ refl refl) (cond-all IsWord (eqb k 46) _ _ refl (cond-all IsWord (eqb k 47) _ _ refl (cond-all IsWord (eqb k 48) _ _ refl
    (cond-all IsWord (eqb k 49) _ _ refl (cond-all IsWord (eqb k 50) _ _ refl (cond-all IsWord (eqb k 51) _ _ refl (cond-all IsWord (eqb k 52) _ _ refl refl))))))))))))))

truth-compared : (k : ℕ) (a b : Value) → IsTruth (compared k a b)
unfolding compared has_kind
truth-compared k a b = with-word IsTruth Undefined a _ refl (λ x. with-word IsTruth Undefined b _ refl (λ y. refl))

truth-logic : (k : ℕ) (a b : Value) → IsTruth (logic k a b)
unfolding logic has_kind
truth-logic k a b = with-truth IsTruth Undefined a _ refl (λ x. with-truth IsTruth Undefined b _ refl (λ y. refl))

truth-negated : (a : Value) → IsTruth (negated a)
unfolding negated has_kind
truth-negated a = with-truth IsTruth Undefined a _ refl (λ x. refl)

word-three : (k : ℕ) (a b c : Value) → IsWord b → IsWord c → IsWord (three k a b c)
unfolding three chosen extracted extract_word has_kind
word-three k a b c p q =
    cond-all IsWord (eqb k 90) _ _ (with-truth IsWord Undefined a _ refl (λ t. cond-all IsWord t _ _ p q))
    (with-word IsWord Undefined a _ refl (λ x. with-word IsWord Undefined b _ refl (λ o. with-word IsWord Undefined c _ refl (λ n. cond-all IsWord (leb (o + n) 32) _ _ refl refl))))

word-inserted : (a b c d : Value) → IsWord (inserted_value a b c d)
unfolding inserted_value insert_word has_kind
word-inserted a b c d =
    with-word IsWord Undefined a _ refl (λ x. with-word IsWord Undefined b _ refl (λ v. with-word IsWord Undefined c _ refl (λ o. with-word IsWord Undefined d _ refl (λ n. cond-all IsWord (leb (o + n) 32) _ _ refl refl))))

word-fetched : (v : Value) (cs : List ℕ) → IsWord (fetched v cs)
unfolding fetched with_address has_kind
word-fetched Undefined cs = refl
word-fetched (Word x) cs = refl
word-fetched (Truth t) cs = refl
word-fetched (Slot n) cs = refl
word-fetched (Address i) cs = cond-all IsWord (ltb i (length cs)) _ _ refl refl

-- ---- what an entry of kind k does: it makes a value of the kind that the format says, or none, as the format says
abbrev pub Grows : ℕ → Effect → Type 0
Grows k (Push v) = (eqb (format_of k).result 0 ≡ false) × (has_kind (format_of k).result v ≡ true)
Grows k (SetReg i w) = eqb (format_of k).result 0 ≡ true
Grows k (SetPred i t) = eqb (format_of k).result 0 ≡ true
Grows k (SetFlag i t) = eqb (format_of k).result 0 ≡ true
Grows k (Enter t) = eqb (format_of k).result 0 ≡ true
Grows k Pass = eqb (format_of k).result 0 ≡ true
Grows k Finish = eqb (format_of k).result 0 ≡ true
Grows k (Refuse r) = Unit {0}

module _ (m : Midway) (cs : List ℕ) (before : List ℕ) (h : Kinds before m.values) where
  grows-bare : (k : ℕ) → among (kinds_of 1) k ≡ true → Grows k (bare_effect k)
  unfolding bare_effect format_of has_kind
  grows-bare k p = keys (λ k. Grows k (bare_effect k)) (kinds_of 1) k p ((refl, refl), ((refl, refl), (refl, (refl, tt))))

  grows-cell : (k n : ℕ) → among (kinds_of 3) k ≡ true → Grows k (cell_effect m.state k n)
  unfolding cell_effect loaded format_of has_kind
  grows-cell k n p = keys (λ k. Grows k (cell_effect m.state k n)) (kinds_of 3) k p
      ((refl, cond-all IsWord (ltb n 255) _ _ refl refl), ((refl, cond-all IsTruth (ltb n 7) _ _ refl refl), ((refl, cond-all IsTruth (ltb n 4) _ _ refl refl), ((refl, refl), (refl, tt)))))

  grows-store : (k n : ℕ) (v : Value) → among (kinds_of 4) k ≡ true → Grows k (storing k n v)
  unfolding storing storing_word storing_truth format_of
  grows-store k n v p = keys (λ k. Grows k (storing k n v)) (kinds_of 4) k p
      (with-word (Grows 7) (Refuse UndefinedValue) v _ tt (λ x. refl), (with-truth (Grows 8) (Refuse UndefinedValue) v _ tt (λ x. refl), (with-truth (Grows 9) (Refuse UndefinedValue) v _ tt (λ x. refl), tt)))

  grows_one : (k : ℕ) (v : Value) → among (kinds_of 5) k ≡ true → Grows k (one_effect k v cs)
  unfolding one_effect entering format_of
  grows_one k v p = keys (λ k. Grows k (one_effect k v cs)) (kinds_of 5) k p (
    (refl, word-fetched v cs),
    (
      (refl, word-unary 20 v),
      (
        (refl, word-unary 21 v),
        (
          (refl, word-unary 22 v),
          (
            (refl, word-unary 23 v),
            (
              (refl, word-unary 24 v),
              (
                (refl, word-unary 25 v),
                (
                  (refl, word-unary 26 v),
                  (
                    (refl, word-unary 27 v),
                    ((refl, truth-negated v), (with-truth (Grows 100) (Refuse UndefinedValue) v _ tt (λ x. refl), tt)),
                  ),
                ),
              ),
            ),
          ),
        ),
      ),
    ),
  )

  grows-two : (k : ℕ) (a b : Value) → among (kinds_of 6) k ≡ true → Grows k (Push (two k a b))
  unfolding two format_of
  grows-two k a b p = keys (λ k. Grows k (Push (two k a b))) (kinds_of 6) k p (
    (refl, word-binary 40 a b),
    (
      (refl, word-binary 41 a b),
      (
        (refl, word-binary 42 a b),
        (
          (refl, word-binary 43 a b),
          (
            (refl, word-binary 44 a b),
            (
              (refl, word-binary 45 a b),
              (
                (refl, word-binary 46 a b),
                (
                  (refl, word-binary 47 a b),
                  (
                    (refl, word-binary 48 a b),
                    (
                      (refl, word-binary 49 a b),
                      (
                        (refl, word-binary 50 a b),
                        (
                          (refl, word-binary 51 a b),
                          (
                            (refl, word-binary 52 a b),
                            (
                              (refl, truth-compared 60 a b),
                              (
                                (refl, truth-compared 61 a b),
                                (
                                  (refl, truth-compared 62 a b),
                                  (
                                    (refl, truth-compared 63 a b),
                                    (
                                      (refl, truth-compared 64 a b),
                                      (
                                        (refl, truth-compared 65 a b),
                                        (
                                          (refl, truth-compared 66 a b),
                                          (
                                            (refl, truth-compared 67 a b),
                                            (
                                              (refl, truth-compared 68 a b),
                                              (
                                                (refl, truth-compared 69 a b),
                                                ((refl, truth-logic 81 a b), ((refl, truth-logic 82 a b), ((refl, truth-logic 83 a b), tt))),
                                              ),
                                            ),
                                          ),
                                        ),
                                      ),
                                    ),
                                  ),
                                ),
                              ),
                            ),
                          ),
                        ),
                      ),
                    ),
                  ),
                ),
              ),
            ),
          ),
        ),
      ),
    ),
  )

  grows-three : (k : ℕ) (a b c : ℕ) → refs_pass (names before) (format_of k).operands (a ∷ b ∷ c ∷ []) ≡ true → among (kinds_of 7) k ≡ true
      → Grows k (Push (three k (value_at m.values a) (value_at m.values b) (value_at m.values c)))
  unfolding format_of refs_pass
  grows-three k a b c r p = keys (λ k. refs_pass (names before) (format_of k).operands (a ∷ b ∷ c ∷ []) ≡ true → Grows k (Push (three k (value_at m.values a) (value_at m.values b) (value_at m.values c)))) (kinds_of 7) k p
      ((λ r. (refl, all_three 90 2 r)), ((λ r. (refl, all_three 91 1 r)), ((λ r. (refl, all_three 92 1 r)), tt))) r
    where
      all_three : (k o : ℕ) → names before o a && (names before 1 b && (names before 1 c && true)) ≡ true → IsWord (three k (value_at m.values a) (value_at m.values b) (value_at m.values c))
      all_three k o r =
          let q = and_right (names before o a) _ r in
          word-three k _ _ _ (named-kind before m.values h 1 b (and_left (names before 1 b) _ q)) (named-kind before m.values h 1 c (and_left (names before 1 c) _ (and_right (names before 1 b) _ q)))

  grows-four : (k : ℕ) (a b c d : Value) → among (kinds_of 8) k ≡ true → Grows k (four_effect k a b c d (length cs))
  unfolding four_effect format_of has_kind
  grows-four k a b c d p = keys (λ k. Grows k (four_effect k a b c d (length cs))) (kinds_of 8) k p
      (address-all (Grows 11) (λ r. tt) (λ i. (refl, refl)) a b c d (length cs), ((refl, word-inserted a b c d), tt))

  -- every entry of a strip in order
  pub grows : (e : Entry) → (format_of (kind_of e)).body ≡ body_of e → refs_pass (names before) (format_of (kind_of e)).operands (refs_of e) ≡ true → Grows (kind_of e) (effect_of m e cs)
  unfolding effect_of kind_of refs_of body_of body_number format_of has_kind
  grows (Of.Bare k) b r = grows-bare k (kind-among k (Of.Bare k) b)
  grows (Of.Word w) b r = (refl, refl)
  grows (Of.Cell k n) b r = grows-cell k n (kind-among k (Of.Cell k n) b)
  grows (Of.Store k n a) b r = grows-store k n _ (kind-among k (Of.Store k n a) b)
  grows (Of.One k a) b r = grows_one k _ (kind-among k (Of.One k a) b)
  grows (Of.Two k x y) b r = grows-two k _ _ (kind-among k (Of.Two k x y) b)
  grows (Of.Three k x y z) b r = grows-three k x y z r (kind-among k (Of.Three k x y z) b)
  grows (Of.Four k x y z u) b r = grows-four k _ _ _ _ (kind-among k (Of.Four k x y z u) b)
