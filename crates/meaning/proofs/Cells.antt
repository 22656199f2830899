-- The arms between predicates or flags and a byte of a register: r2p and p2r.
use mathlib.Core.Path.{◌≡◌, refl, sym, ap, ◌∙◌}
use mathlib.Core.Logic.{◌≢◌}
use mathlib.Core.Bool.{Bool, true, false, cond, not, ◌&&◌, ◌||◌, true≢false, and-true, and-false, or-true, or-false}
use mathlib.Core.List.{List, [], ◌∷◌}
use mathlib.Core.Option.{some}
use Prim.Native.Nat.{ℕ, zero, suc, ◌+◌, ◌-◌, ◌*◌, ◌%◌, ◌^◌, ◌≤◌, ◌<◌}
use native.Mathlib.Omega.{arith}
use native.Mathlib.Nat.{lt_of_le_of_lt, lt_of_lt_of_le}
use lib.Dec.{eqb, ltb, leb}
use lib.Bits.{bit_and, bit_or, or_lt, and_le_l, and_le_r}
use lib.Pow.{pow_pos, pow-lt, pow_mono, shl_lt}
use borrow.Author.Tests.{leb-true, le-leb, lt-ltb, le-ltb, ltb-true, ltb-false, eqb-true, eqb-false, eq-eqb, ne_eqb}
use Rattle.strip.proofs.Tests.{and_right}
use Rattle.evaluation.specs.declared.value.Value.TheVariants.{Word, Truth}
use Rattle.evaluation.specs.declared.state.State.{State}
use Rattle.evaluation.specs.Word.{binary_word, compare_word}
use Rattle.evaluation.specs.Value.{with_word, with_truth, binary, compared, two}
use Rattle.evaluation.specs.State.{loaded, stored_pred, stored_flag}
use Rattle.evaluation.specs.Machine.{storing_truth, storing, cell_effect, value_at, effect_of}
use Rattle.translation.specs.Insn as T
use Rattle.meaning.specs.Record.{Record, bit, ra}
use Rattle.meaning.proofs.Reading.{insn, simm20-same}
use Rattle.translation.specs.Helpers.{table_bit}
use Rattle.translation.specs.Arms as A
use Rattle.meaning.proofs.Reading.{bits-lt}
use Rattle.meaning.specs.Number.{bit_at}
use Rattle.meaning.specs.Operand.{reg, pred, set_pred, flag, set_flag}
use Rattle.meaning.specs.Meaning as M
use Rattle.translation.proofs.Sem.{ran, sem}
use Rattle.meaning.proofs.Order.{leb-iff}
use Rattle.translation.proofs.Stays.{Proper}
use Rattle.meaning.proofs.Helper.{reg-word, set-sem, final, b2u-sem, ra-sem, predicate-sem, note_unless-sem}
use Rattle.meaning.proofs.Digits.{bits-ext, from_bits_lem, bit-none, bit-and, bit-or, bit_not, bit-shl, bit-mod, bit_high, bit-pow}

-- ---- cells: predicates or flags

mask_is : (i : Record) → A.predicate_mask (insn i) ≡ M.mask i
unfolding A.predicate_mask
mask_is i = rw (simm20-same i) refl

-- the cells that are asked for: those that the mask names, as far as there are any
asked_is : (i : Record) (k : ℕ) → k < 7 → A.asked (insn i) k ≡ bit_at (M.mask i) k && ltb k (M.cells i)
unfolding A.asked table_bit T.bits T.bit
asked_is i k h = rw (mask_is i) (ap (λ (t : Bool). bit_at (M.mask i) k && t) (go (bit i 40)))
  where
    go : (f : Bool) → ltb k 4 || not f ≡ ltb k (cond f 4 7)
    go true = or-false (ltb k 4)
    go false = or-true (ltb k 4) ∙ sym (lt-ltb k 7 h)

-- an and with 2 ^ m leaves bit m
bit-left : (a m : ℕ) → not (eqb (bit_and a (2 ^ m)) 0) ≡ bit_at a m
bit-left a m = go (bit_at a m) refl
  where
    left : (j : ℕ) → bit_at (bit_and a (2 ^ m)) j ≡ bit_at a j && eqb j m
    left j = bit-and a (2 ^ m) j ∙ ap (λ (t : Bool). bit_at a j && t) (bit-pow m j)

    nothing : bit_at a m ≡ false → (j : ℕ) (b : Bool) → eqb j m ≡ b → bit_at a j && b ≡ false
    nothing e j true q = and-true (bit_at a j) ∙ ap (bit_at a) (eqb-true j m q) ∙ e
    nothing e j false q = and-false (bit_at a j)

    go : (b : Bool) → bit_at a m ≡ b → not (eqb (bit_and a (2 ^ m)) 0) ≡ b
    go true e =
        let one : bit_at (bit_and a (2 ^ m)) m ≡ true = left m ∙ rw (e, eq-eqb m m refl) refl in
        ap not (ne_eqb (bit_and a (2 ^ m)) 0 (λ q. true≢false (sym one ∙ ap (λ (z : ℕ). bit_at z m) q ∙ bit-none m)))
    go false e =
        let small : bit_and a (2 ^ m) < 2 ^ suc m = lt_of_le_of_lt (and_le_r a (2 ^ m)) (pow-lt (omega arith)) in
        let none = bits-ext (suc m) (bit_and a (2 ^ m)) 0 small (pow_pos (suc m)) (λ j l. left j ∙ nothing e j (eqb j m) refl ∙ sym (bit-none j)) in
        ap not (eq-eqb (bit_and a (2 ^ m)) 0 none)

-- ---- r2p: cell after cell

module _ (cs : List ℕ) (i : Record) where
  -- cell k stored, by what r2p tells of it
  abbrev set_cell : ℕ → Bool → State → State
  set_cell k t s = cond (bit i 40) (set_flag s k t) (set_pred s k t)

  store_cell-sem : (s : State) (k : ℕ) (t : Bool) → k < 7 → sem cs (A.store_cell (bit i 40) k) (Truth t ∷ []) s ≡ ran (set_cell k t s) (Truth t)
  unfolding A.store_cell effect_of storing storing_truth with_truth value_at stored_flag stored_pred set_flag set_pred
  store_cell-sem s k t h = go (bit i 40) refl
    where
      go : (f : Bool) → bit i 40 ≡ f → sem cs (A.store_cell (bit i 40) k) (Truth t ∷ []) s ≡ ran (set_cell k t s) (Truth t)
      go true e = rw e refl
      go false e = rw (e, ne_eqb k 7 (omega arith)) refl

  module _ (a : ℕ) where
    unfoldable turned : ℕ → State → State
    turned k s = cond (A.asked (insn i) k) (set_cell k (bit_at a (M.place i + k)) s) s

    r2p_turn-sem : (s : State) (k : ℕ) → k < 7 → sem cs (A.r2p_turn (insn i) k) (Word a ∷ []) s ≡ ran (turned k s) (Word a)
    unfolding A.r2p_turn A.cell_bit turned effect_of two binary binary_word compared compare_word with_word value_at T.bits T.bit
    r2p_turn-sem s k h = go (A.asked (insn i) k) refl
      where
        go : (b : Bool) → A.asked (insn i) k ≡ b → sem cs (A.r2p_turn (insn i) k) (Word a ∷ []) s ≡ ran (turned k s) (Word a)
        go true e = rw (e, bit-left a (M.place i + k), store_cell-sem s k (bit_at a (M.place i + k)) h) refl
        go false e = rw e refl

    -- the first n turns
    unfoldable turns : ℕ → State → State
    turns zero s = s
    turns (suc n) s = turned n (turns n s)

    turns-spread : (s : State) (n : ℕ) → n ≤ M.cells i → n ≤ 7 → turns n s ≡ M.spread i a n s
    unfolding turns turned M.spread
    turns-spread s zero h k = refl
    turns-spread s (suc n) h k = rw (asked_is i n k, lt-ltb n (M.cells i) h, and-true (bit_at (M.mask i) n), turns-spread s n (omega arith) (omega arith)) refl

    -- past the last cell a turn does nothing
    turns-past : (s : State) (n : ℕ) → M.cells i ≤ n → n < 7 → turns (suc n) s ≡ turns n s
    unfolding turns turned
    turns-past s n h k = rw (asked_is i n k, le-ltb n (M.cells i) h, and-false (bit_at (M.mask i) n)) refl

    turns-are : (s : State) → turns 7 s ≡ M.spread i a (M.cells i) s
    turns-are s = go (bit i 40) refl
      where
        go : (f : Bool) → bit i 40 ≡ f → turns 7 s ≡ M.spread i a (cond f 4 7) s
        go true e =
            let c : M.cells i ≡ 4 = rw e refl in
            let past : (n : ℕ) → 4 ≤ n → n < 7 → turns (suc n) s ≡ turns n s = λ n h k. turns-past s n (omega arith) k in
            past 6 (omega arith) (omega arith) ∙ past 5 (omega arith) (omega arith) ∙ past 4 (omega arith) (omega arith) ∙ turns-spread s 4 (omega arith) (omega arith)
        go false e = let c : M.cells i ≡ 7 = rw e refl in turns-spread s 7 (omega arith) (omega arith)

    r2p_turns-sem : (s : State) → sem cs (A.r2p_turns (insn i)) (Word a ∷ []) s ≡ ran (M.spread i a (M.cells i) s) (Word a)
    unfolding A.r2p_turns value_at turns T.bits T.bit
    r2p_turns-sem s =
        rw (
          r2p_turn-sem s 0 (omega arith),
          r2p_turn-sem (turns 1 s) 1 (omega arith),
          r2p_turn-sem (turns 2 s) 2 (omega arith),
          r2p_turn-sem (turns 3 s) 3 (omega arith),
          r2p_turn-sem (turns 4 s) 4 (omega arith),
          r2p_turn-sem (turns 5 s) 5 (omega arith),
          r2p_turn-sem (turns 6 s) 6 (omega arith),
        ) (ap (λ (t : State). ran t (Word a)) (turns-are s))

  pub r2p-does : (s : State) → final (sem cs (A.r2p (insn i)) [] s) ≡ some (M.r2p i s)
  unfolding A.r2p value_at T.bits T.bit
  r2p-does s = rw (ra-sem cs s i, note_unless-sem cs s, r2p_turns-sem (reg s (ra i)) s) refl

-- ---- p2r: the masked bits cleared, then cell after cell put in

-- a bit of the byte, and none above
low_byte : (x m : ℕ) → bit_at (x % 256) m ≡ ltb m 8 && bit_at x m
low_byte x m = go (ltb m 8) refl
  where
    go : (b : Bool) → ltb m 8 ≡ b → bit_at (x % 256) m ≡ b && bit_at x m
    go true e = bit-mod x 8 m (ltb-true m 8 e)
    go false e = bit_high (x % 256) 8 m (omega arith) (ltb-false m 8 e)

module _ (cs : List ℕ) (i : Record) (s : State) where
  abbrev cell : ℕ → Bool
  cell k = cond (bit i 40) (flag s k) (pred s k)

  abbrev sh : ℕ
  sh = M.place i

  sh-le : sh ≤ 24
  sh-le = omega (arith, bits-lt i 41 2)

  load_cell-sem : (k : ℕ) → k < M.cells i → k < 7 → sem cs (A.load_cell (bit i 40) k) [] s ≡ ran s (Truth (cell k))
  unfolding A.load_cell effect_of cell_effect loaded flag value_at
  load_cell-sem k h l = go (bit i 40) refl h
    where
      go : (f : Bool) → bit i 40 ≡ f → k < cond f 4 7 → sem cs (A.load_cell (bit i 40) k) [] s ≡ ran s (Truth (cell k))
      go true e q = rw (e, lt-ltb k 4 q) refl
      go false e q = rw e (predicate-sem cs s k (omega arith))

  -- one turn
  unfoldable put : ℕ → ℕ → ℕ
  put k v = cond (A.asked (insn i) k) (bit_or v (cond (cell k) (2 ^ (sh + k)) 0)) v

  p2r_turn-sem : (k v : ℕ) → k < 7 → sem cs (A.p2r_turn (insn i) k) (Word v ∷ []) s ≡ ran s (Word (put k v))
  unfolding A.p2r_turn A.cell_bit put effect_of two binary binary_word with_word value_at T.bits T.bit
  p2r_turn-sem k v h = go (A.asked (insn i) k) refl
    where
      go : (b : Bool) → A.asked (insn i) k ≡ b → sem cs (A.p2r_turn (insn i) k) (Word v ∷ []) s ≡ ran s (Word (put k v))
      go true e =
          let l : k < M.cells i = ltb-true k (M.cells i) (and_right (bit_at (M.mask i) k) _ (sym (asked_is i k h) ∙ e)) in
          rw (e, load_cell-sem k l h, b2u-sem cs s (2 ^ (sh + k)) 0 (cell k)) refl
      go false e = rw e refl

  put_word : (k v : ℕ) → k < 7 → v < 2 ^ 32 → put k v < 2 ^ 32
  unfolding put
  put_word k v h l = go (A.asked (insn i) k) (cell k)
    where
      go : (b c : Bool) → cond b (bit_or v (cond c (2 ^ (sh + k)) 0)) v < 2 ^ 32
      go true true = let q = sh-le in or_lt 32 v (2 ^ (sh + k)) l (pow-lt {i = sh + k} {j = 32} (omega arith))
      go true false = or_lt 32 v 0 l (omega arith)
      go false c = l

  -- bit j changes in turn k alone, where j is sh + k
  bit-put : (k v j : ℕ) → bit_at (put k v) j ≡ cond (eqb j (sh + k)) (bit_at v j || (A.asked (insn i) k && cell k)) (bit_at v j)
  unfolding put
  bit-put k v j = go (A.asked (insn i) k) (cell k)
    where
      either : (e x : Bool) → x ≡ cond e (x || false) x
      either true x = sym (or-false x)
      either false x = refl

      one : (e x : Bool) → x || e ≡ cond e (x || true) x
      one true x = refl
      one false x = or-false x

      go : (b c : Bool) → bit_at (cond b (bit_or v (cond c (2 ^ (sh + k)) 0)) v) j ≡ cond (eqb j (sh + k)) (bit_at v j || (b && c)) (bit_at v j)
      go true true = bit-or v (2 ^ (sh + k)) j ∙ ap (λ (t : Bool). bit_at v j || t) (bit-pow (sh + k) j) ∙ one (eqb j (sh + k)) (bit_at v j)
      go true false = bit-or v 0 j ∙ ap (λ (t : Bool). bit_at v j || t) (bit-none j) ∙ or-false (bit_at v j) ∙ either (eqb j (sh + k)) (bit_at v j)
      go false c = either (eqb j (sh + k)) (bit_at v j)

  -- the first n turns
  unfoldable puts : ℕ → ℕ → ℕ
  puts zero v = v
  puts (suc n) v = put n (puts n v)

  puts_word : (n v : ℕ) → n ≤ 7 → v < 2 ^ 32 → puts n v < 2 ^ 32
  unfolding puts
  puts_word zero v h l = l
  puts_word (suc n) v h l = put_word n (puts n v) (omega arith) (puts_word n v (omega arith) l)

  -- bit j of v with its cell, where that is asked for
  abbrev filled : ℕ → ℕ → Bool
  filled v j = bit_at v j || (A.asked (insn i) (j - sh) && cell (j - sh))

  bit-puts : (n v j : ℕ) → bit_at (puts n v) j ≡ cond (leb sh j && ltb (j - sh) n) (filled v j) (bit_at v j)
  unfolding puts
  bit-puts zero v j = rw (le-ltb (j - sh) 0 (omega arith), and-false (leb sh j)) refl
  bit-puts (suc n) v j = bit-put n (puts n v) j ∙ go (eqb j (sh + n)) refl (bit-puts n v j)
    where
      same : (b : Bool) → leb sh j ≡ b → j ≢ sh + n → b && ltb (j - sh) n ≡ b && ltb (j - sh) (suc n)
      same true q d = let l = leb-true sh j q in leb-iff (suc (j - sh)) n (suc (j - sh)) (suc n) (omega arith)
      same false q d = refl

      go : (b : Bool) → eqb j (sh + n) ≡ b → bit_at (puts n v) j ≡ cond (leb sh j && ltb (j - sh) n) (filled v j) (bit_at v j)
          → cond b (bit_at (puts n v) j || (A.asked (insn i) n && cell n)) (bit_at (puts n v) j) ≡ cond (leb sh j && ltb (j - sh) (suc n)) (filled v j) (bit_at v j)
      go true e before =
          let d : j ≡ sh + n = eqb-true j (sh + n) e in
          let m : j - sh ≡ n = omega arith in
          rw (before, m, le-leb sh j (omega arith), le-ltb n n (omega arith), lt-ltb n (suc n) (omega arith)) refl
      go false e before = before ∙ ap (λ (t : Bool). cond t (filled v j) (bit_at v j)) (same (leb sh j) refl (eqb-false j (sh + n) e))

  p2r_turns-sem : (v : ℕ) → sem cs (A.p2r_turns (insn i)) (Word v ∷ []) s ≡ ran s (Word (puts 7 v))
  unfolding A.p2r_turns value_at puts T.bits T.bit
  p2r_turns-sem v =
      rw (
        p2r_turn-sem 0 v (omega arith),
        p2r_turn-sem 1 (puts 1 v) (omega arith),
        p2r_turn-sem 2 (puts 2 v) (omega arith),
        p2r_turn-sem 3 (puts 3 v) (omega arith),
        p2r_turn-sem 4 (puts 4 v) (omega arith),
        p2r_turn-sem 5 (puts 5 v) (omega arith),
        p2r_turn-sem 6 (puts 6 v) (omega arith),
      ) refl

  -- the mask names bit m of the byte
  abbrev in_byte : ℕ → Bool
  in_byte m = ltb m 8 && bit_at (M.mask i) m

  -- and bit j of the register
  abbrev named : ℕ → Bool
  named j = leb sh j && in_byte (j - sh)

  -- then it is not kept
  bit_kept : (a j : ℕ) → j < 32 → bit_at (bit_and a (A.p2r_keep (insn i))) j ≡ bit_at a j && not (named j)
  unfolding A.p2r_keep T.bits T.bit
  bit_kept a j h =
      let q = sh-le in
      let byte = M.mask i % 256 in
      let l : byte * 2 ^ sh < 2 ^ 32 = lt_of_lt_of_le (shl_lt 8 sh (omega arith)) (pow_mono {i = 8 + sh} {j = 32} (omega arith)) in
      rw (mask_is i, bit-and a (2 ^ 32 - 1 - byte * 2 ^ sh) j, bit_not (byte * 2 ^ sh) j l h, bit-shl byte sh j, low_byte (M.mask i) (j - sh), as-and (leb sh j)) refl
    where
      as-and : (b t : Bool) → cond b t false ≡ b && t
      as-and true t = refl
      as-and false t = refl

  -- together: where the mask names a bit of the byte it is the cell, or 0 where there is none
  bit-packed : (a j : ℕ) → j < 32 → bit_at (puts 7 (bit_and a (A.p2r_keep (insn i)))) j ≡ cond (named j) (M.cell_bit i s (j - sh)) (bit_at a j)
  unfolding M.cell_bit
  bit-packed a j h = bit-puts 7 (bit_and a (A.p2r_keep (insn i))) j ∙ rw (bit_kept a j h) (go (j - sh) (leb sh j) (ltb (j - sh) 7) refl)
    where
      -- below the seventh bit, and from it on
      below : (x m l c : Bool) → (x && not m) || ((m && l) && c) ≡ cond m (l && c) x
      below true true l c = refl
      below true false l c = refl
      below false true l c = refl
      below false false l c = refl

      beyond : (x m : Bool) → x && not m ≡ cond m false x
      beyond true true = refl
      beyond true false = refl
      beyond false true = refl
      beyond false false = refl

      few : (f : Bool) → cond f 4 7 ≤ 7
      few true = omega arith
      few false = omega arith

      go : (m : ℕ) (b d : Bool) → ltb m 7 ≡ d
          → cond (b && d) ((bit_at a j && not (b && in_byte m)) || (A.asked (insn i) m && cell m)) (bit_at a j && not (b && in_byte m))
          ≡ cond (b && in_byte m) (ltb m (M.cells i) && cell m) (bit_at a j)
      go m false d f = and-true (bit_at a j)
      go m true true f =
          let l = ltb-true m 7 f in
          rw (lt-ltb m 8 (omega arith), asked_is i m l) (below (bit_at a j) (bit_at (M.mask i) m) (ltb m (M.cells i)) (cell m))
      go m true false f =
          let l = ltb-false m 7 f in
          let n : M.cells i ≤ 7 = few (bit i 40) in
          rw (le-ltb m (M.cells i) (omega arith)) (beyond (bit_at a j) (in_byte m))

  -- the byte's end, counted from place 0
  named-is : (j : ℕ) → leb sh j && (ltb j (sh + 8) && bit_at (M.mask i) (j - sh)) ≡ named j
  named-is j = go (leb sh j) refl
    where
      go : (b : Bool) → leb sh j ≡ b → b && (ltb j (sh + 8) && bit_at (M.mask i) (j - sh)) ≡ b && in_byte (j - sh)
      go true e =
          let l = leb-true sh j e in
          ap (λ (t : Bool). t && bit_at (M.mask i) (j - sh)) (leb-iff (suc j) (sh + 8) (suc (j - sh)) 8 (omega arith))
      go false e = refl

  packed-is : (a : ℕ) → a < 2 ^ 32 → puts 7 (bit_and a (A.p2r_keep (insn i))) ≡ M.packed i s a
  unfolding M.packed
  packed-is a h =
      let v = bit_and a (A.p2r_keep (insn i)) in
      from_bits_lem 32 (puts 7 v) (λ j. cond (leb sh j && (ltb j (sh + 8) && bit_at (M.mask i) (j - sh))) (M.cell_bit i s (j - sh)) (bit_at a j))
      (puts_word 7 v (omega arith) (lt_of_le_of_lt (and_le_l a (A.p2r_keep (insn i))) h)) (λ j k. rw (named-is j) (bit-packed a j k))

  pub p2r-does : Proper cs s → final (sem cs (A.p2r (insn i)) [] s) ≡ some (M.p2r i s)
  unfolding A.p2r effect_of two binary binary_word with_word value_at T.bits T.bit
  p2r-does w =
      rw (ra-sem cs s i, note_unless-sem cs s, p2r_turns-sem, packed-is (reg s (ra i)) (reg-word cs s (ra i) w), set-sem cs) refl
