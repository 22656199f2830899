-- What the helpers that fetch operands and store results do: registers, predicates, constants, flags.
use mathlib.Core.Path.{◌≡◌, refl, ◌∙◌}
use mathlib.Core.Bool.{Bool, true, false, cond, not, ◌&&◌, true≢false}
use mathlib.Core.List.{List, [], ◌∷◌}
use mathlib.Core.Option.{Option, none, some}
use Prim.Native.Nat.{ℕ, ◌+◌, ◌-◌, ◌*◌, ◌/◌, ◌%◌, ◌^◌, ◌<◌}
use native.Mathlib.Omega.{arith}
use lib.Dec.{eqb, ltb, leb}
use lib.ListN.{length, get_or, set as replace}
use lib.Bits.{bit_and, and_mask}
use borrow.Author.Tests.{lt-ltb, le-leb, eqb-true, eqb-false, not-true, not-false}
use Rattle.strip.proofs.Tests.{and_left, and_right}
use Rattle.strip.specs.declared.reader.Entry.TheVariants as Entry
use Rattle.evaluation.specs.declared.value.Value.{Value}
use Rattle.evaluation.specs.declared.value.Value.TheVariants.{Word, Truth}
use Rattle.evaluation.specs.declared.state.State.{State}
use Rattle.evaluation.specs.declared.machine.Refusal.{Refusal}
use Rattle.evaluation.specs.declared.machine.Refusal.TheVariants.{NoConstant}
use Rattle.evaluation.specs.Word.{not_word, unary_word, binary_word, compare_word}
use Rattle.evaluation.specs.Value.{with_word, with_truth, with_slot, with_address, unary, binary, compared, two, chosen, three}
use Rattle.evaluation.specs.State.{loaded, stored_reg, stored_pred, stored_flag}
use Rattle.evaluation.specs.Machine.{storing_word, storing_truth, storing, address_words, addressing, fetched, bare_effect, cell_effect, one_effect, four_effect, value_at, effect_of}
use Rattle.translation.specs.Insn as T
use Rattle.meaning.specs.Record.{Record, bits, bit, ra, rb, rc, simm20, constant_slot, constant_word}
use Rattle.meaning.proofs.Reading.{insn}
use Rattle.translation.specs.Code.{Code, ret, op, act, call, ite}
use Rattle.translation.specs.Helpers.{r, set, predicate, p, setp, b2u, cbuf_at, cbuf_imm, src_b, src_bc, inot, ineg, set_cc, set_cc_if}
use Rattle.translation.specs.Arms.{note_unless}
use Rattle.meaning.proofs.Reading.{bits-lt, simm20-lt, simm20-same}
use Rattle.meaning.specs.Number.{complement}
use Rattle.meaning.specs.Operand.{reg, set_reg, pred, set_pred, set_flags, set_zs, pred_if, constant_place, constant, operand_b, word_b, word_c}
use Rattle.meaning.specs.Meaning.{complement_if, negate_if, lent}
use Rattle.translation.proofs.Stays.{Proper}
use Rattle.translation.proofs.Evaluated.{predicate_at}
use Rattle.translation.proofs.Evaluated as Guard
use Rattle.translation.proofs.Sem.{Ran, ran, halted, followed, sem}
use Rattle.meaning.proofs.Order.{negative-is}

-- ---- what an arm is held to

-- the constant that the second operand names is not lent
abbrev pub missing : List ℕ → Record → Bool
missing cs i = eqb i.form 1 && not (lent cs i)

-- 9, with the slot, the vec and the comp of that constant
abbrev pub asked : Record → Refusal
asked i = NoConstant (constant_slot i) (constant_word i / 4) (constant_word i % 4)

-- the state that code ends in
abbrev pub final : Ran → Option State
final (ran t v) = some t
final (halted r t) = none

-- ---- words

pub chosen-word : (b : Bool) (x y : ℕ) → x < 2 ^ 32 → y < 2 ^ 32 → cond b x y < 2 ^ 32
chosen-word true x y hx hy = hx
chosen-word false x y hx hy = hy

pub complement-word : (on : Bool) (x : ℕ) → x < 2 ^ 32 → complement_if on x < 2 ^ 32
unfolding complement_if complement
complement-word on x h = chosen-word on (2 ^ 32 - 1 - x) x (omega arith) h

pub negate_word : (on : Bool) (x : ℕ) → x < 2 ^ 32 → negate_if on x < 2 ^ 32
unfolding negate_if
negate_word on x h = chosen-word on ((2 ^ 32 - x) % 2 ^ 32) x (omega arith) h

module _ (cs : List ℕ) (s : State) where
  pub reg-word : (n : ℕ) → Proper cs s → reg s n < 2 ^ 32
  unfolding reg
  reg-word n w = chosen-word (eqb n 255) 0 (get_or s.regs n 0) (omega arith) (w.regs n)

  pub operand-word : (i : Record) → Proper cs s → operand_b cs i s < 2 ^ 32
  unfolding operand_b
  operand-word i w =
      chosen-word (eqb i.form 0) _ _ (reg-word (rb i) w) (chosen-word (eqb i.form 1) (constant cs i) (simm20 i) (w.constants (constant_place i)) (simm20-lt i))

  -- c, a register or a constant
  pub second_word : (i : Record) (swap : Bool) → Proper cs s → word_c cs i swap s < 2 ^ 32
  unfolding word_c
  second_word i swap w = chosen-word (eqb i.form 1 && swap) (constant cs i) (reg s (rc i)) (w.constants (constant_place i)) (reg-word (rc i) w)

-- ---- code that gives a value and stores nothing

-- a record, so that the code can be read off where branches are put together
pub record Gives (cs : List ℕ) (s : State) (vs : List Value) (c : Code) (v : Value) : Type 0 where
  pub gives : sem cs c vs s ≡ ran s v

module _ {cs : List ℕ} {s : State} {vs : List Value} where
  pub code_gives : {c : Code} {v : Value} → sem cs c vs s ≡ ran s v → Gives cs s vs c v
  code_gives e = record { gives = e }

  -- a branch on a mode bit between two truths, or two words
  pub truths : (b : Bool) {c d : Code} {p q : Bool} → Gives cs s vs c (Truth p) → Gives cs s vs d (Truth q) → Gives cs s vs (ite b c d) (Truth (cond b p q))
  truths true g h = code_gives g.gives
  truths false g h = code_gives h.gives

  pub words : (b : Bool) {c d : Code} {x y : ℕ} → Gives cs s vs c (Word x) → Gives cs s vs d (Word y) → Gives cs s vs (ite b c d) (Word (cond b x y))
  words true g h = code_gives g.gives
  words false g h = code_gives h.gives

-- a select between words
pub select-is : (t : Bool) (x y : ℕ) → three 90 (Truth t) (Word x) (Word y) ≡ Word (cond t x y)
unfolding three chosen with_truth
select-is true x y = refl
select-is false x y = refl

-- ---- cells

module _ (cs : List ℕ) (s : State) where
  r-sem : (k : ℕ) → k < 256 → sem cs (r k) [] s ≡ ran s (Word (reg s k))
  unfolding r reg effect_of cell_effect loaded value_at
  r-sem k h = go (eqb k 255) refl
    where
      go : (b : Bool) → eqb k 255 ≡ b
          → sem cs (ite b (op (Entry.Word 0) (ret 0)) (op (Entry.Cell 4 k) (ret 0))) [] s ≡ ran s (Word (cond b 0 (get_or s.regs k 0)))
      go true e = refl
      go false e = let d = eqb-false k 255 e in rw (lt-ltb k 255 (omega arith)) refl

  pub ra-sem : (i : Record) → sem cs (r (ra i)) [] s ≡ ran s (Word (reg s (ra i)))
  ra-sem i = r-sem (ra i) (bits-lt i 8 8)

  pub rb-sem : (i : Record) → sem cs (r (rb i)) [] s ≡ ran s (Word (reg s (rb i)))
  rb-sem i = r-sem (rb i) (bits-lt i 20 8)

  pub rc-sem : (i : Record) → sem cs (r (rc i)) [] s ≡ ran s (Word (reg s (rc i)))
  rc-sem i = r-sem (rc i) (bits-lt i 39 8)

  pub set-sem : (k w : ℕ) → sem cs (set k) (Word w ∷ []) s ≡ ran (set_reg s k w) (Word w)
  unfolding set set_reg effect_of storing storing_word with_word stored_reg value_at
  set-sem k w = go (eqb k 255)
    where
      go : (b : Bool) → sem cs (ite b (ret 0) (act (Entry.Store 7 k 0) (ret 0))) (Word w ∷ []) s
          ≡ ran (cond b s (record { regs = replace s.regs k w; preds = s.preds; flags = s.flags })) (Word w)
      go true = refl
      go false = refl

  pub predicate-sem : (k : ℕ) → k < 8 → sem cs (predicate k) [] s ≡ ran s (Truth (pred s k))
  unfolding pred predicate_at
  predicate-sem = Guard.predicate-sem cs s

  -- the predicate that the three bits from k on name, negated by bit n
  pub p-sem : (i : Record) (k n : ℕ) → sem cs (p (bits i k 3) (bit i n)) [] s ≡ ran s (Truth (pred_if s (bits i k 3) (bit i n)))
  unfolding pred predicate_at
  p-sem i k n = Guard.p-sem cs s (bits i k 3) (bit i n) (bits-lt i k 3)

  pub setp-sem : (k : ℕ) (t : Bool) → sem cs (setp k) (Truth t ∷ []) s ≡ ran (set_pred s k t) (Truth t)
  unfolding setp set_pred effect_of storing storing_truth with_truth stored_pred value_at
  setp-sem k t = go (eqb k 7)
    where
      go : (b : Bool) → sem cs (ite b (ret 0) (act (Entry.Store 8 k 0) (ret 0))) (Truth t ∷ []) s
          ≡ ran (cond b s (record { regs = s.regs; preds = replace s.preds k t; flags = s.flags })) (Truth t)
      go true = refl
      go false = refl

  -- ---- constants: vec and comp of word w are w / 4 and w % 4

  module _ (n w : ℕ) (hn : n < 32) (hw : w < 16384) where
    vec-is : w * 4 / 2 ^ 4 ≡ w / 4
    vec-is = omega arith

    comp-is : bit_and (w * 4 / 2 ^ 2) 3 ≡ w % 4
    comp-is = and_mask (w * 4 / 4) 2 ∙ omega arith

    place_is : n * 16384 + w / 4 * 4 + w % 4 ≡ n * 16384 + w
    place_is = omega arith

    cbuf-lent : ltb (n * 16384 + w) (length cs) ≡ true → sem cs (cbuf_imm n w) [] s ≡ ran s (Word (get_or cs (n * 16384 + w) 0))
    unfolding cbuf_imm cbuf_at effect_of cell_effect two binary binary_word with_word with_slot with_address one_effect four_effect addressing address_words fetched value_at
    cbuf-lent h = rw (vec-is, comp-is, le-leb (w / 4) 4095 (omega arith), le-leb (w % 4) 3 (omega arith), place_is, h) (rw h refl)

    cbuf-missing : ltb (n * 16384 + w) (length cs) ≡ false → sem cs (cbuf_imm n w) [] s ≡ halted (NoConstant n (w / 4) (w % 4)) s
    unfolding cbuf_imm cbuf_at effect_of cell_effect two binary binary_word with_word with_slot with_address one_effect four_effect addressing address_words fetched value_at
    cbuf-missing h = rw (vec-is, comp-is, le-leb (w / 4) 4095 (omega arith), le-leb (w % 4) 3 (omega arith), place_is, h) refl

  module _ (i : Record) where
    pub constant-sem : lent cs i ≡ true → sem cs (cbuf_imm (constant_slot i) (constant_word i)) [] s ≡ ran s (Word (constant cs i))
    constant-sem l = cbuf-lent (constant_slot i) (constant_word i) (bits-lt i 34 5) (bits-lt i 20 14) l

    pub constant-missing : lent cs i ≡ false → sem cs (cbuf_imm (constant_slot i) (constant_word i)) [] s ≡ halted (asked i) s
    constant-missing l = cbuf-missing (constant_slot i) (constant_word i) (bits-lt i 34 5) (bits-lt i 20 14) l

    -- ---- operands: b, missing where it is a constant that is not lent

    pub src_b-sem : missing cs i ≡ false → sem cs (src_b (insn i)) [] s ≡ ran s (Word (operand_b cs i s))
    unfolding src_b operand_b effect_of value_at T.bits T.bit
    src_b-sem h = go (eqb i.form 0) (eqb i.form 1) (lent cs i) refl h
      where
        go : (a b c : Bool) → lent cs i ≡ c → b && not c ≡ false
            → sem cs (ite a (r (rb i)) (ite b (cbuf_imm (constant_slot i) (constant_word i)) (op (Entry.Word (T.simm20 (insn i))) (ret 0)))) [] s
            ≡ ran s (Word (cond a (reg s (rb i)) (cond b (constant cs i) (simm20 i))))
        go true b c e h = rb-sem i
        go false true true e h = constant-sem e
        go false true false e h = absurd (true≢false h)
        go false false c e h = rw (simm20-same i) refl

    pub src_b-missing : missing cs i ≡ true → sem cs (src_b (insn i)) [] s ≡ halted (asked i) s
    unfolding src_b T.bits T.bit
    src_b-missing h = go i.form refl h
      where
        go : (f : ℕ) → i.form ≡ f → eqb f 1 && not (lent cs i) ≡ true
            → sem cs (ite (eqb f 0) (r (rb i)) (ite (eqb f 1) (cbuf_imm (constant_slot i) (constant_word i)) (op (Entry.Word (T.simm20 (insn i))) (ret 0)))) [] s ≡ halted (asked i) s
        go f q h = rw (eqb-true f 1 (and_left (eqb f 1) _ h)) (constant-missing (not-true (lent cs i) (and_right (eqb f 1) _ h)))

    -- b and c, and what follows with a, b and c
    module _ (swap : Bool) (k : Code) (a : ℕ) where
      -- the operands swapped, or not
      abbrev fetch : Bool → Code
      fetch b =
          ite b (call (r (rc i)) [] (call (cbuf_imm (constant_slot i) (constant_word i)) [] (call k (0 ∷ 1 ∷ 2 ∷ []) (ret 3))))
          (call (src_b (insn i)) [] (call (r (rc i)) [] (call k (0 ∷ 1 ∷ 2 ∷ []) (ret 3))))

      pub src_bc-sem : missing cs i ≡ false
          → sem cs (src_bc (insn i) swap k) (Word a ∷ []) s ≡ followed (sem cs k (Word a ∷ Word (word_b cs i swap s) ∷ Word (word_c cs i swap s) ∷ []) s) (λ t v. ran t v)
      unfolding src_bc word_b word_c value_at T.bits T.bit
      src_bc-sem h = go (eqb i.form 1 && swap) refl
        where
          go : (b : Bool) → eqb i.form 1 && swap ≡ b
              → sem cs (fetch b) (Word a ∷ []) s
              ≡ followed (sem cs k (Word a ∷ Word (cond b (reg s (rc i)) (operand_b cs i s)) ∷ Word (cond b (constant cs i) (reg s (rc i))) ∷ []) s) (λ t v. ran t v)
          go true e =
              let f = and_left (eqb i.form 1) swap e in
              let l : lent cs i ≡ true = not-false (lent cs i) (rw f at h) in
              rw (rc-sem i, constant-sem l) refl
          go false e = rw (src_b-sem h, rc-sem i) refl

      pub src_bc-missing : missing cs i ≡ true → sem cs (src_bc (insn i) swap k) (Word a ∷ []) s ≡ halted (asked i) s
      unfolding src_bc value_at T.bits T.bit
      src_bc-missing h = go (eqb i.form 1 && swap)
        where
          go : (b : Bool) → sem cs (fetch b) (Word a ∷ []) s ≡ halted (asked i) s
          go true = rw (rc-sem i, constant-missing (not-true (lent cs i) (and_right (eqb i.form 1) _ h))) refl
          go false = rw (src_b-missing h) refl

  -- ---- values altered

  pub b2u-sem : (x y : ℕ) (t : Bool) → sem cs (b2u x y) (Truth t ∷ []) s ≡ ran s (Word (cond t x y))
  unfolding b2u effect_of value_at
  b2u-sem x y t = rw (select-is t x y) refl

  pub inot-sem : (on : Bool) (x : ℕ) → sem cs (inot on) (Word x ∷ []) s ≡ ran s (Word (complement_if on x))
  unfolding inot effect_of one_effect unary unary_word not_word with_word value_at complement_if complement
  inot-sem true x = refl
  inot-sem false x = refl

  pub ineg-sem : (on : Bool) (x : ℕ) → sem cs (ineg on) (Word x ∷ []) s ≡ ran s (Word (negate_if on x))
  unfolding ineg effect_of two binary binary_word with_word value_at negate_if
  ineg-sem true x = rw (zero-plus (2 ^ 32 - x)) refl
    where
      zero-plus : (y : ℕ) → 0 + y ≡ y
      zero-plus y = omega arith
  ineg-sem false x = refl

  -- a note changes nothing
  pub note_unless-sem : (on : Bool) (n : ℕ) (v : Value) → sem cs (note_unless on n) (v ∷ []) s ≡ ran s v
  unfolding note_unless effect_of cell_effect value_at
  note_unless-sem true n v = refl
  note_unless-sem false n v = refl

-- ---- flags

four-flags : (l : List Bool) (a b c d : Bool) → length l ≡ 4 → replace (replace (replace (replace l 0 a) 1 b) 2 c) 3 d ≡ a ∷ b ∷ c ∷ d ∷ []
four-flags [] a b c d h = absurd (omega arith)
four-flags (p ∷ []) a b c d h = absurd (omega arith)
four-flags (p ∷ q ∷ []) a b c d h = absurd (omega arith)
four-flags (p ∷ q ∷ r ∷ []) a b c d h = absurd (omega arith)
four-flags (p ∷ q ∷ r ∷ t ∷ []) a b c d h = refl
four-flags (p ∷ q ∷ r ∷ t ∷ u ∷ l) a b c d h = absurd (omega arith)

module _ (cs : List ℕ) (s : State) (w : Proper cs s) where
  stored-flags : (z n c o : Bool) → stored_flag (stored_flag (stored_flag (stored_flag s 0 z) 1 n) 2 c) 3 o ≡ set_flags s z n c o
  unfolding stored_flag set_flags
  stored-flags z n c o = rw (four-flags s.flags z n c o w.flags) refl

  -- the flags of a result with its carry and overflow, or Z and S alone
  pub set_cc-sem : (v : ℕ) (c o : Bool) → v < 2 ^ 32
      → sem cs (set_cc true true) (Word v ∷ Truth c ∷ Truth o ∷ []) s ≡ ran (set_flags s (eqb v 0) (leb (2 ^ 31) v) c o) (Word v)
  unfolding set_cc effect_of bare_effect two compared compare_word with_word with_truth storing storing_truth value_at
  set_cc-sem v c o h = rw (negative-is v h, stored-flags (eqb v 0) (leb (2 ^ 31) v) c o) refl

  pub set_cc_if-sem : (on : Bool) (v : ℕ) → v < 2 ^ 32 → sem cs (set_cc_if on) (Word v ∷ []) s ≡ ran (set_zs on s v) (Word v)
  unfolding set_cc_if set_cc set_zs effect_of bare_effect two compared compare_word with_word with_truth storing storing_truth value_at
  set_cc_if-sem true v h = rw (negative-is v h, stored-flags (eqb v 0) (leb (2 ^ 31) v) false false) refl
  set_cc_if-sem false v h = refl
