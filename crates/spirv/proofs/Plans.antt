-- How each entry is written, by the tests that the code makes.
use Rattle.std.proofs.Common.{◌≡◌, ℕ, ◌+◌, ◌<◌, ◌≤◌, Bool, true, false, cond, not, ◌&&◌, eqb, ltb, [], ◌∷◌, refl, true≢false, arith, eqb-true}
use mathlib.Core.Bool.{beq, xor, false≢true}
use borrow.Author.Tests.{eqb-false}
use Rattle.strip.specs.declared.format.Body.{Body}
use Rattle.strip.specs.declared.reader.Entry.TheVariants as Of
use Rattle.strip.specs.Format.{format_of}
use Rattle.strip.specs.Entry.{body_of}
use Rattle.strip.proofs.Table.{body_number}
use Rattle.spirv.specs.declared.plan.Name.{Name}
use Rattle.spirv.specs.Opcodes.{op_of}
use Rattle.spirv.specs.Writer.{const, const_id, listed, cells_at, Given, lent, name, Plan, Silent, Known, Made, Opens, Closes, planned, first_sign, sign_of, operation, casting, plan_of, clashes}
use Rattle.spirv.specs.declared.page.Page.{Page}
use Rattle.spirv.specs.Page.{look_of, wrote, clashed, entered}
use Rattle.spirv.proofs.Keys.{keys, kinds_of, kind-among}

module _ (g : Given) (look : ℕ → Name) where
  -- the type of a word
  abbrev pub typed : Bool → ℕ
  typed s = cond s (lent g 1) (lent g 0)

  abbrev WordOf : ℕ → ℕ → ℕ → Type 0
  WordOf a b k = ltb k 60 ≡ true → plan_of g look (Of.Two k a b) ≡ planned (lent g 4) (op_of k) (typed (look a).signed) ((look a).id ∷ (look b).id ∷ []) (look a).signed

  pub two-word : (k a b : ℕ) → (format_of k).body ≡ Body.Two → WordOf a b k
  unfolding plan_of operation first_sign sign_of format_of body_of body_number
  two-word k a b body = keys (WordOf a b) (kinds_of 6) k (kind-among k (Of.Two k a b) body)
      ((λ h. refl), ((λ h. refl), ((λ h. refl), ((λ h. refl), ((λ h. refl), ((λ h. refl), ((λ h. refl), ((λ h. refl), ((λ h. refl), ((λ h. refl), ((λ h. refl), ((λ h. refl), ((λ h. refl), ((λ h. absurd (false≢true h)), ((λ h. absurd (false≢true h)), ((λ h. absurd (false≢true h)), ((λ h. absurd (false≢true h)), ((λ h. absurd (false≢true h)), ((λ h. absurd (false≢true h)), ((λ h. absurd (false≢true h)), ((λ h. absurd (false≢true h)), ((λ h. absurd (false≢true h)), ((λ h. absurd (false≢true h)), ((λ h. absurd (false≢true h)), ((λ h. absurd (false≢true h)), ((λ h. absurd (false≢true h)), tt))))))))))))))))))))))))))

  abbrev TruthOf : ℕ → ℕ → ℕ → Type 0
  TruthOf a b k = ltb k 60 ≡ false → plan_of g look (Of.Two k a b) ≡ planned (lent g 4) (op_of k) (lent g 2) ((look a).id ∷ (look b).id ∷ []) false

  pub two-truth : (k a b : ℕ) → (format_of k).body ≡ Body.Two → TruthOf a b k
  unfolding plan_of operation first_sign sign_of format_of body_of body_number
  two-truth k a b body = keys (TruthOf a b) (kinds_of 6) k (kind-among k (Of.Two k a b) body)
      ((λ h. absurd (true≢false h)), ((λ h. absurd (true≢false h)), ((λ h. absurd (true≢false h)), ((λ h. absurd (true≢false h)), ((λ h. absurd (true≢false h)), ((λ h. absurd (true≢false h)), ((λ h. absurd (true≢false h)), ((λ h. absurd (true≢false h)), ((λ h. absurd (true≢false h)), ((λ h. absurd (true≢false h)), ((λ h. absurd (true≢false h)), ((λ h. absurd (true≢false h)), ((λ h. absurd (true≢false h)), ((λ h. refl), ((λ h. refl), ((λ h. refl), ((λ h. refl), ((λ h. refl), ((λ h. refl), ((λ h. refl), ((λ h. refl), ((λ h. refl), ((λ h. refl), ((λ h. refl), ((λ h. refl), ((λ h. refl), tt))))))))))))))))))))))))))

  pub plan-select : (k a b c : ℕ) → k ≡ 90 → plan_of g look (Of.Three k a b c) ≡ Made 169 (typed (look b).signed) ((look a).id ∷ (look b).id ∷ (look c).id ∷ []) (look b).signed
  unfolding plan_of operation planned op_of first_sign sign_of format_of
  plan-select k a b c p = rw p

  pub plan-u-extract : (k a b c : ℕ) → k ≡ 91 → plan_of g look (Of.Three k a b c) ≡ Made 203 (typed (look a).signed) ((look a).id ∷ (look b).id ∷ (look c).id ∷ []) (look a).signed
  unfolding plan_of operation planned op_of first_sign sign_of format_of
  plan-u-extract k a b c p = rw p

  abbrev ExtractOf : ℕ → ℕ → ℕ → ℕ → Type 0
  ExtractOf a b c k = eqb k 90 ≡ false → eqb k 91 ≡ false → plan_of g look (Of.Three k a b c) ≡ Made 202 (typed (look a).signed) ((look a).id ∷ (look b).id ∷ (look c).id ∷ []) (look a).signed

  pub plan-s-extract : (k a b c : ℕ) → (format_of k).body ≡ Body.Three → ExtractOf a b c k
  unfolding plan_of operation planned op_of first_sign sign_of format_of body_of body_number
  plan-s-extract k a b c body = keys (ExtractOf a b c) (kinds_of 7) k (kind-among k (Of.Three k a b c) body) ((λ p q. absurd (true≢false p)), ((λ p q. absurd (true≢false q)), ((λ p q. refl), tt)))

  pub plan-address : (k a b c d : ℕ) → k ≡ 11 → plan_of g look (Of.Four k a b c d) ≡ Made 65 (lent g 3) ((look a).id ∷ (look b).id ∷ (look c).id ∷ (look d).id ∷ []) false
  unfolding plan_of
  plan-address k a b c d p = rw p

  abbrev InsertOf : ℕ → ℕ → ℕ → ℕ → ℕ → Type 0
  InsertOf a b c d k = eqb k 11 ≡ false → plan_of g look (Of.Four k a b c d) ≡ Made 201 (typed (look a).signed) ((look a).id ∷ (look b).id ∷ (look c).id ∷ (look d).id ∷ []) (look a).signed

  pub plan-insert : (k a b c d : ℕ) → (format_of k).body ≡ Body.Four → InsertOf a b c d k
  unfolding plan_of operation planned op_of first_sign sign_of format_of body_of body_number
  plan-insert k a b c d body = keys (InsertOf a b c d) (kinds_of 8) k (kind-among k (Of.Four k a b c d) body) ((λ p. absurd (true≢false p)), ((λ p. refl), tt))

  pub plan-fetch : (k a : ℕ) → k ≡ 12 → plan_of g look (Of.One k a) ≡ Made 61 (lent g 0) ((look a).id ∷ []) false
  unfolding plan_of
  plan-fetch k a p = rw p

  pub plan-not : (k a : ℕ) → k ≡ 80 → plan_of g look (Of.One k a) ≡ Made 168 (lent g 2) ((look a).id ∷ []) false
  unfolding plan_of operation planned op_of first_sign sign_of format_of
  plan-not k a p = rw p

  pub plan-open : (k a : ℕ) → k ≡ 100 → plan_of g look (Of.One k a) ≡ Opens (look a).id
  unfolding plan_of
  plan-open k a p = rw p

  -- a cast to the type that the word has is that word
  pub plan-signed : (k a : ℕ) → k ≡ 23 → (look a).signed ≡ true → plan_of g look (Of.One k a) ≡ Known (name (look a).id true)
  unfolding plan_of casting xor
  plan-signed k a p q = rw (p, q)

  pub plan-cast-i : (k a : ℕ) → k ≡ 23 → (look a).signed ≡ false → plan_of g look (Of.One k a) ≡ Made 124 (lent g 1) ((look a).id ∷ []) true
  unfolding plan_of casting planned op_of xor
  plan-cast-i k a p q = rw (p, q)

  pub plan-cast-u : (k a : ℕ) → k ≡ 24 → (look a).signed ≡ true → plan_of g look (Of.One k a) ≡ Made 124 (lent g 0) ((look a).id ∷ []) false
  unfolding plan_of casting planned op_of xor
  plan-cast-u k a p q = rw (p, q)

  pub plan-unsigned : (k a : ℕ) → k ≡ 24 → (look a).signed ≡ false → plan_of g look (Of.One k a) ≡ Known (name (look a).id false)
  unfolding plan_of casting xor
  plan-unsigned k a p q = rw (p, q)

  -- a cast, to the type that the word has or to the other one
  pub plan-same : (k a : ℕ) → 23 ≤ k → k < 25 → beq (look a).signed (eqb k 23) ≡ true → plan_of g look (Of.One k a) ≡ Known (name (look a).id (eqb k 23))
  plan-same k a l m h = go (eqb k 23) refl (look a).signed refl h
    where
      go : (b : Bool) → eqb k 23 ≡ b → (s : Bool) → (look a).signed ≡ s → beq s b ≡ true → plan_of g look (Of.One k a) ≡ Known (name (look a).id b)
      go true p true q h = plan-signed k a (eqb-true k 23 p) q
      go true p false q h = absurd (false≢true h)
      go false p true q h = absurd (false≢true h)
      go false p false q h = let n = eqb-false k 23 p in plan-unsigned k a (omega (arith, n)) q

  pub plan-other : (k a : ℕ) → 23 ≤ k → k < 25 → beq (look a).signed (eqb k 23) ≡ false → plan_of g look (Of.One k a) ≡ Made 124 (typed (eqb k 23)) ((look a).id ∷ []) (eqb k 23)
  plan-other k a l m h = go (eqb k 23) refl (look a).signed refl h
    where
      go : (b : Bool) → eqb k 23 ≡ b → (s : Bool) → (look a).signed ≡ s → beq s b ≡ false → plan_of g look (Of.One k a) ≡ Made 124 (typed b) ((look a).id ∷ []) b
      go true p true q h = absurd (true≢false h)
      go true p false q h = plan-cast-i k a (eqb-true k 23 p) q
      go false p true q h = let n = eqb-false k 23 p in plan-cast-u k a (omega (arith, n)) q
      go false p false q h = absurd (true≢false h)

  abbrev UnaryOf : ℕ → ℕ → Type 0
  UnaryOf a k = (eqb k 12 ≡ false) × (eqb k 80 ≡ false) × (eqb k 100 ≡ false) × (eqb k 23 ≡ false) × (eqb k 24 ≡ false) → plan_of g look (Of.One k a) ≡ planned (lent g 4) (op_of k) (typed (look a).signed) ((look a).id ∷ []) (look a).signed

  pub one_word : (k a : ℕ) → (format_of k).body ≡ Body.One → UnaryOf a k
  unfolding plan_of operation first_sign sign_of format_of body_of body_number
  one_word k a body = keys (UnaryOf a) (kinds_of 5) k (kind-among k (Of.One k a) body)
      ((λ h. absurd (true≢false h.0)), ((λ h. refl), ((λ h. refl), ((λ h. refl), ((λ h. absurd (true≢false h.3)), ((λ h. absurd (true≢false h.4)), ((λ h. refl), ((λ h. refl), ((λ h. refl), ((λ h. absurd (true≢false h.1)), ((λ h. absurd (true≢false h.2)), tt)))))))))))

  pub plan-slot : (k n : ℕ) → k ≡ 10 → plan_of g look (Of.Cell k n) ≡ Known (name (lent g (271 + n)) false)
  unfolding plan_of
  plan-slot k n p = rw p

  pub plan-note : (k n : ℕ) → k ≡ 110 → plan_of g look (Of.Cell k n) ≡ Silent
  unfolding plan_of
  plan-note k n p = rw p

  abbrev LoadOf : ℕ → ℕ → Type 0
  LoadOf n k = eqb k 10 ≡ false → eqb k 110 ≡ false → plan_of g look (Of.Cell k n) ≡ Made 61 (lent g (cond (eqb k 4) 0 2)) (lent g (cells_at k + n) ∷ []) false

  pub plan-load : (k n : ℕ) → (format_of k).body ≡ Body.Cell → LoadOf n k
  unfolding plan_of format_of body_of body_number
  plan-load k n body = keys (LoadOf n) (kinds_of 3) k (kind-among k (Of.Cell k n) body) ((λ p q. refl), ((λ p q. refl), ((λ p q. refl), ((λ p q. absurd (true≢false p)), ((λ p q. absurd (true≢false q)), tt)))))

  pub plan-true : (k : ℕ) → k ≡ 2 → plan_of g look (Of.Bare k) ≡ Known (name (const_id g (const 2 0)) false)
  unfolding plan_of
  plan-true k p = rw p

  pub plan-false : (k : ℕ) → k ≡ 3 → plan_of g look (Of.Bare k) ≡ Known (name (const_id g (const 3 0)) false)
  unfolding plan_of
  plan-false k p = rw p

  pub plan-close : (k : ℕ) → k ≡ 101 → plan_of g look (Of.Bare k) ≡ Closes
  unfolding plan_of
  plan-close k p = rw p

  pub plan-end : (k : ℕ) → eqb k 2 ≡ false → eqb k 3 ≡ false → eqb k 101 ≡ false → plan_of g look (Of.Bare k) ≡ Silent
  unfolding plan_of
  plan-end k p q r = rw (p, q, r)

-- ---- signs that differ
pub differ : (a b : Bool) → not (beq a b) ≡ xor a b
unfolding xor
differ true true = refl
differ true false = refl
differ false true = refl
differ false false = refl

-- ---- an entry on the page, from its plan
module _ (g : Given) (p : Page) (plan : Plan) where
  abbrev look : ℕ → Name
  look = look_of p.names

  pub bare-entered : (k : ℕ) → plan_of g look (Of.Bare k) ≡ plan → wrote p plan ≡ entered g p (Of.Bare k)
  unfolding entered clashes clashed
  bare-entered k h = rw h

  pub cell-entered : (k n : ℕ) → plan_of g look (Of.Cell k n) ≡ plan → wrote p plan ≡ entered g p (Of.Cell k n)
  unfolding entered clashes clashed
  cell-entered k n h = rw h

  pub store-entered : (k n r : ℕ) → plan_of g look (Of.Store k n r) ≡ plan → clashed (eqb k 7 && (look r).signed) (wrote p plan) ≡ entered g p (Of.Store k n r)
  unfolding entered clashes
  store-entered k n r h = rw h

  pub one-entered : (k a : ℕ) → plan_of g look (Of.One k a) ≡ plan → wrote p plan ≡ entered g p (Of.One k a)
  unfolding entered clashes clashed
  one-entered k a h = rw h

  pub two-entered : (k a b : ℕ) → plan_of g look (Of.Two k a b) ≡ plan → wrote p plan ≡ entered g p (Of.Two k a b)
  unfolding entered clashes clashed
  two-entered k a b h = rw h

  pub select-entered : (k a b c : ℕ) → k ≡ 90 → plan_of g look (Of.Three k a b c) ≡ plan → clashed (xor (look b).signed (look c).signed) (wrote p plan) ≡ entered g p (Of.Three k a b c)
  unfolding entered clashes
  select-entered k a b c q h = rw (h, q)

  pub extract-entered : (k a b c : ℕ) → eqb k 90 ≡ false → plan_of g look (Of.Three k a b c) ≡ plan → wrote p plan ≡ entered g p (Of.Three k a b c)
  unfolding entered clashes clashed
  extract-entered k a b c q h = rw (h, q)

  pub address-entered : (k a b c d : ℕ) → k ≡ 11 → plan_of g look (Of.Four k a b c d) ≡ plan
      → clashed (not (listed g.constants (const 1 0) && eqb (look b).id (const_id g (const 1 0)))) (wrote p plan) ≡ entered g p (Of.Four k a b c d)
  unfolding entered clashes
  address-entered k a b c d q h = rw (h, q)

  abbrev Inserts : ℕ → ℕ → ℕ → ℕ → ℕ → Type 0
  Inserts a b c d k = eqb k 11 ≡ false → plan_of g look (Of.Four k a b c d) ≡ plan → clashed (xor (look a).signed (look b).signed) (wrote p plan) ≡ entered g p (Of.Four k a b c d)

  pub insert-entered : (k a b c d : ℕ) → (format_of k).body ≡ Body.Four → Inserts a b c d k
  unfolding entered clashes body_of body_number
  insert-entered k a b c d body = keys (Inserts a b c d) (kinds_of 8) k (kind-among k (Of.Four k a b c d) body) ((λ q h. absurd (true≢false q)), ((λ q h. rw h), tt))
