-- The two works do what they must, from every state: by the meanings of their records, through the strips of these.
use Rattle.std.specs.Prelude.{Ok}
use mathlib.Core.Path.{◌≡◌, refl, sym, ap, ◌∙◌}
use mathlib.Core.Logic.{◌≢◌}
use mathlib.Core.Bool.{Bool, true, false, cond, ◌&&◌, xor}
use mathlib.Core.List.{List}
use Prim.Native.Nat.{ℕ, zero, suc, ◌+◌, ◌*◌, ◌/◌, ◌%◌, ◌^◌, ◌-◌, ◌<◌}
use native.Mathlib.Omega.{arith}
use lib.Dec.{eqb, ltb, leb}
use lib.ListN.{length, length-set}
use lib.Seq.{get_or-set_same, get_or-set_other}
use borrow.Author.Tests.{leb-true, leb-false}
use Rattle.strip.specs.Entry.{wide, Each}
use Rattle.evaluation.specs.declared.state.State.{State}
use Rattle.evaluation.specs.declared.machine.Evaluated.{Evaluated}
use Rattle.evaluation.specs.Machine.{onward, ends, evaluated}
use Rattle.translation.specs.Insn as T
use Rattle.translation.specs.Strip.{never_runs, known, system_value_mov, byte_three, first_refusal_of, first_refusal, admits}
use Rattle.meaning.specs.Number.{signed_of, word_of, bit_at, from_bits, inserted}
use Rattle.meaning.specs.Operand.{reg, set_reg, pred, flag, set_flags, operand_b}
use Rattle.meaning.specs.Meaning.{carry_bit, overflows, complement_if, negate_if, prepared, carry_in, set_sum_flags, added, sum, cell_bit, packed, meant, meaning, reads_when_run, reads}
use Rattle.meaning.specs.Meaning as M
use Rattle.meaning.specs.Record.{number_at, record_of, simm20}
use Rattle.meaning.specs.Interpret.{unlent, meanings}
use Rattle.translation.specs.Turn.{run_of}
use Rattle.meaning.specs.Works.{count_low, count_high, count_records, count64, Counts, conditions_sum, conditions_pack, conditions_records, sum_flags, Packs}
use Rattle.translation.proofs.Stays.{Proper}
use Rattle.meaning.proofs.Helper.{reg-word}
use Rattle.meaning.proofs.Digits.{from-lt, bit-from, inserted-is}
use Rattle.meaning.proofs.Means.{meaning-proper, Lent, run-means}

-- ---- a register that was stored

module _ (s : State) (n w : ℕ) (e : eqb n 255 ≡ false) where
  stored_same : n < length s.regs → reg (set_reg s n w) n ≡ w
  unfolding reg set_reg
  stored_same h = rw (e, get_or-set_same s.regs n w 0 h) refl

  stored_other : (m : ℕ) → m ≢ n → reg (set_reg s n w) m ≡ reg s m
  unfolding reg set_reg
  stored_other m h = rw (e, get_or-set_other s.regs n m w 0 h) refl

  stored-length : length (set_reg s n w).regs ≡ length s.regs
  unfolding set_reg
  stored-length = rw (e, length-set s.regs n w) refl

  stored-preds : (set_reg s n w).preds ≡ s.preds
  unfolding set_reg
  stored-preds = rw e refl

flags-apart : (s : State) (z n c o : Bool) (m : ℕ) → reg (set_flags s z n c o) m ≡ reg s m
unfolding reg set_flags
flags-apart s z n c o m = refl

-- a state of words in 255 registers
record Words (cs : List ℕ) (s : State) : Type 0 where
  pub proper : Proper cs s
  pub size : length s.regs ≡ 255

-- ---- R0 + b into R0, with its flags: the first record of both works

abbrev left : State → (a b t : ℕ) → State
left s a b t = set_reg (set_flags s (eqb (t % 2 ^ 32) 0) (leb (2 ^ 31) (t % 2 ^ 32)) (leb (2 ^ 32) t) (overflows a b 0)) 0 (t % 2 ^ 32)

unfoldable sum_with : ℕ → State → State
sum_with b s = left s (reg s 0) b (reg s 0 + b)

module _ (b : ℕ) (s : State) where
  sum-length : length (sum_with b s).regs ≡ length s.regs
  unfolding sum_with set_flags
  sum-length = stored-length (set_flags s _ _ _ _) 0 _ refl

  sum_same : 0 < length s.regs → reg (sum_with b s) 0 ≡ (reg s 0 + b) % 2 ^ 32
  unfolding sum_with set_flags
  sum_same h = stored_same (set_flags s _ _ _ _) 0 _ refl h

  sum-other : (m : ℕ) → m ≢ 0 → reg (sum_with b s) m ≡ reg s m
  unfolding sum_with
  sum-other m h = stored_other (set_flags s _ _ _ _) 0 _ refl m h ∙ flags-apart s _ _ _ _ m

  sum-carry : carry_bit (sum_with b s) ≡ cond (leb (2 ^ 32) (reg s 0 + b)) 1 0
  unfolding sum_with flag set_reg set_flags
  sum-carry = refl

  sum-preds : (sum_with b s).preds ≡ s.preds
  unfolding sum_with set_reg set_flags
  sum-preds = refl

-- ---- the count

low-is : (cs : List ℕ) (s : State) → meaning cs (record_of count_low) s ≡ sum_with 1 s
unfolding sum_with meaning meant simm20 pred operand_b prepared complement_if negate_if carry_in set_sum_flags added sum xor record_of number_at word_of signed_of
low-is cs s = let e : reg s 0 + 1 + 0 ≡ reg s 0 + 1 = omega arith in ap (left s (reg s 0) 1) e

unfoldable high : State → State
high s = set_reg s 1 ((reg s 1 + carry_bit s) % 2 ^ 32)

high_is : (cs : List ℕ) (s : State) → meaning cs (record_of count_high) s ≡ high s
unfolding high meaning meant reg pred operand_b prepared complement_if negate_if carry_in set_sum_flags added sum xor record_of number_at
high_is cs s = let e : reg s 1 + 0 + carry_bit s ≡ reg s 1 + carry_bit s = omega arith in ap (λ (x : ℕ). set_reg s 1 (x % 2 ^ 32)) e

count-admitted : Each (λ l. admits l ≡ true) count_records
unfolding admits first_refusal first_refusal_of never_runs known system_value_mov byte_three record_of number_at T.bits T.bit
count-admitted = (refl, (refl, tt))

count-reads : (cs : List ℕ) → Each (Lent cs) count_records
unfolding reads reads_when_run M.never_runs record_of number_at
count-reads cs = (refl, (refl, tt))

two-words : (a b : ℕ) (c : Bool) → a < 2 ^ 32 → b < 2 ^ 32 → leb (2 ^ 32) (a + 1) ≡ c → (b + cond c 1 0) % 2 ^ 32 * 2 ^ 32 + (a + 1) % 2 ^ 32 ≡ (b * 2 ^ 32 + a + 1) % 2 ^ 64
two-words a b true h k e = omega (arith, leb-true (2 ^ 32) (a + 1) e)
two-words a b false h k e = omega (arith, leb-false (2 ^ 32) (a + 1) e)

module _ (cs : List ℕ) (s : State) (w : Words cs s) where
  low : State
  low = sum_with 1 s

  next : State
  next = high low

  low-length : length low.regs ≡ 255
  unfolding low
  low-length = sum-length 1 s ∙ w.size

  low-proper : Proper cs low
  unfolding low known byte_three unlent reads reads_when_run M.never_runs pred xor record_of number_at T.bits
  low-proper = rw (← low-is cs s) (meaning-proper cs (record_of count_low) s w.proper refl (λ e. refl) refl)

  next-same : reg next 1 ≡ (reg s 1 + cond (leb (2 ^ 32) (reg s 0 + 1)) 1 0) % 2 ^ 32
  unfolding next high low
  next-same = stored_same low 1 _ refl (omega (arith, low-length)) ∙ rw (sum-other 1 s 1 (λ e. omega (arith, e)), sum-carry 1 s) refl

  next-other : (m : ℕ) → m ≢ 1 → reg next m ≡ reg low m
  unfolding next high
  next-other m h = stored_other low 1 _ refl m h

  next-words : Words cs next
  unfolding next high known byte_three unlent reads reads_when_run M.never_runs pred xor record_of number_at T.bits
  next-words = record {
    proper = rw (← high_is cs low) (meaning-proper cs (record_of count_high) low low-proper refl (λ e. refl) refl);
    size = stored-length low 1 _ refl ∙ low-length;
  }

  next-preds : next.preds ≡ s.preds
  unfolding next high low
  next-preds = stored-preds low 1 _ refl ∙ sum-preds 1 s

  next-counts : Counts 1 s next
  unfolding low
  next-counts = record {
    count =
        rw (next-same, next-other 0 (λ e. omega (arith, e)), sum_same 1 s (omega (arith, w.size)))
        (two-words (reg s 0) (reg s 1) _ (reg-word cs s 0 w.proper) (reg-word cs s 1 w.proper) refl);
    others = λ k h. next-other k (λ e. omega (arith, e)) ∙ sum-other 1 s k (λ e. omega (arith, e));
    preds = next-preds;
  }

  next-evaluated : evaluated wide (run_of count_records) s cs ≡ ends (Ok tt) next
  unfolding next low meanings
  next-evaluated =
      run-means cs count_records s w.proper count-admitted (count-reads cs)
      ∙ ap (ends (Ok tt)) (ap (meaning cs (record_of count_high)) (low-is cs s) ∙ high_is cs low)

one_more : (x y z n : ℕ) → y ≡ (x + n) % 2 ^ 64 → z ≡ (y + 1) % 2 ^ 64 → z ≡ (x + suc n) % 2 ^ 64
one_more x y z n p q = omega arith

-- a run evaluated n times, one time after another, up to the first refusal
unfoldable pub repeated : List ℕ → List ℕ → ℕ → State → Evaluated
repeated run cs zero s = ends (Ok tt) s
repeated run cs (suc n) s = onward (repeated run cs n s) (λ t. evaluated wide run t cs)

record Counted (cs : List ℕ) (n : ℕ) (s : State) (e : Evaluated) : Type 0 where
  pub done : e.outcome ≡ (Ok tt)
  pub words : Words cs e.state
  pub counts : Counts n s e.state

module _ (cs : List ℕ) (s : State) (w : Words cs s) where
  counted-up : (n : ℕ) → Counted cs n s (repeated (run_of count_records) cs n s)
  unfolding repeated
  counted-up zero = record { done = refl; words = w; counts = record { count = omega (arith, reg-word cs s 0 w.proper, reg-word cs s 1 w.proper); others = λ k h. refl; preds = refl } }
  counted-up (suc n) = more (counted-up n)
    where
      more : Counted cs n s (repeated (run_of count_records) cs n s) → Counted cs (suc n) s (onward (repeated (run_of count_records) cs n s) (λ t. evaluated wide (run_of count_records) t cs))
      more b =
          let t = (repeated (run_of count_records) cs n s).state in
          let c = next-counts cs t b.words in
          rw (b.done, next-evaluated cs t b.words)
          (record {
            done = refl;
            words = next-words cs t b.words;
            counts = record {
              count = one_more (count64 s) (count64 t) _ n b.counts.count c.count;
              others = λ k h. c.others k h ∙ b.counts.others k h;
              preds = c.preds ∙ b.counts.preds;
            };
          })

-- from every state, evaluating the work's run n times is never refused and adds n to the 64 bits
pub count-counts : (cs : List ℕ) (s : State) → Proper cs s → length s.regs ≡ 255 → (n : ℕ)
    → ((repeated (run_of count_records) cs n s).outcome ≡ (Ok tt)) × Counts n s (repeated (run_of count_records) cs n s).state
count-counts cs s w l n = let b = counted-up cs s (record { proper = w; size = l }) n in (b.done, b.counts)

-- ---- the conditions

sum_is : (cs : List ℕ) (s : State) → meaning cs (record_of conditions_sum) s ≡ sum_with (reg s 1) s
unfolding sum_with meaning meant pred operand_b prepared complement_if negate_if carry_in set_sum_flags added sum xor record_of number_at
sum_is cs s = let e : reg s 0 + reg s 1 + 0 ≡ reg s 0 + reg s 1 = omega arith in ap (left s (reg s 0) (reg s 1)) e

unfoldable packs : State → State
packs s = set_reg s 2 (packed (record_of conditions_pack) s (reg s 2))

packs-is : (cs : List ℕ) (s : State) → meaning cs (record_of conditions_pack) s ≡ packs s
unfolding packs meaning meant pred xor record_of number_at
packs-is cs s = refl

conditions-admitted : Each (λ l. admits l ≡ true) conditions_records
unfolding admits first_refusal first_refusal_of never_runs known system_value_mov byte_three record_of number_at T.bits T.bit
conditions-admitted = (refl, (refl, tt))

conditions-reads : (cs : List ℕ) → Each (Lent cs) conditions_records
unfolding reads reads_when_run M.never_runs record_of number_at
conditions-reads cs = (refl, (refl, tt))

-- four truths at bits 8 to 11
four-at-8 : (f : ℕ → Bool) (x v : ℕ) → bit_at v 0 ≡ f 0 → bit_at v 1 ≡ f 1 → bit_at v 2 ≡ f 2 → bit_at v 3 ≡ f 3
    → from_bits 32 (λ j. cond (leb 8 j && ltb j 12) (f (j - 8)) (bit_at x j)) ≡ inserted x v 8 4
unfolding from_bits inserted
four-at-8 f x v a b c d = rw (a, b, c, d) refl

mask_is : (s : State) (x : ℕ) → packed (record_of conditions_pack) s x ≡ from_bits 32 (λ j. cond (leb 8 j && ltb j 12) (flag s (j - 8)) (bit_at x j))
unfolding packed cell_bit simm20 from_bits record_of number_at word_of signed_of
mask_is s x = refl

-- the mask 0xf names the low half of byte 1
packed-is : (s : State) (x : ℕ) → x < 2 ^ 32 → packed (record_of conditions_pack) s x ≡ x / 2 ^ 12 * 2 ^ 12 + (from_bits 4 (λ n. flag s n) * 2 ^ 8 + x % 2 ^ 8)
packed-is s x h =
    let f : ℕ → Bool = λ n. flag s n in
    let v = from_bits 4 f in
    let e : v % 2 ^ 4 ≡ v = omega (arith, from-lt 4 f) in
    mask_is s x
    ∙ four-at-8 f x v (bit-from 4 f 0 (omega arith)) (bit-from 4 f 1 (omega arith)) (bit-from 4 f 2 (omega arith)) (bit-from 4 f 3 (omega arith))
    ∙ sym (inserted-is x v 8 4 h (omega arith))
    ∙ ap (λ (y : ℕ). x / 2 ^ 12 * 2 ^ 12 + (y * 2 ^ 8 + x % 2 ^ 8)) e

number-stays : (x y f : ℕ) → f < 2 ^ 4 → y ≡ x / 2 ^ 12 * 2 ^ 12 + (f * 2 ^ 8 + x % 2 ^ 8) → y / 2 ^ 12 % 2 ^ 4 ≡ x / 2 ^ 12 % 2 ^ 4
number-stays x y f h e = omega arith

module _ (cs : List ℕ) (s : State) (w : Proper cs s) (l : length s.regs ≡ 255) where
  total : State
  total = sum_with (reg s 1) s

  end : State
  end = packs total

  end-word : reg end 2 ≡ reg s 2 / 2 ^ 12 * 2 ^ 12 + (from_bits 4 (λ n. flag end n) * 2 ^ 8 + reg s 2 % 2 ^ 8)
  unfolding end total packs flag set_reg
  end-word =
      stored_same total 2 _ refl (omega (arith, sum-length (reg s 1) s))
      ∙ rw (sum-other (reg s 1) s 2 (λ e. omega (arith, e))) (packed-is total (reg s 2) (reg-word cs s 2 w))

  end-other : (m : ℕ) → m ≢ 2 → reg end m ≡ reg total m
  unfolding end packs
  end-other m h = stored_other total 2 _ refl m h

  end-flags : end.flags ≡ sum_flags (reg s 0) (reg s 1)
  unfolding end total packs sum_with set_reg set_flags
  end-flags = refl

  end-packs : Packs s end
  unfolding end total packs
  end-packs = record {
    sum = end-other 0 (λ e. omega (arith, e)) ∙ sum_same (reg s 1) s (omega (arith, l));
    flags = end-flags;
    word = end-word;
    number = number-stays (reg s 2) (reg end 2) (from_bits 4 (λ n. flag end n)) (from-lt 4 (λ n. flag end n)) end-word;
    second = end-other 1 (λ e. omega (arith, e)) ∙ sum-other (reg s 1) s 1 (λ e. omega (arith, e));
    others = λ k h. end-other k (λ e. omega (arith, e)) ∙ sum-other (reg s 1) s k (λ e. omega (arith, e));
    preds = stored-preds total 2 _ refl ∙ sum-preds (reg s 1) s;
  }

  end-evaluated : evaluated wide (run_of conditions_records) s cs ≡ ends (Ok tt) end
  unfolding end total meanings
  end-evaluated =
      run-means cs conditions_records s w conditions-admitted (conditions-reads cs)
      ∙ ap (ends (Ok tt)) (ap (meaning cs (record_of conditions_pack)) (sum_is cs s) ∙ packs-is cs total)

  -- from every state the work's run is not refused, its four bits are the sum's flags, and the number beside them survives
  pub conditions-pack : ((evaluated wide (run_of conditions_records) s cs).outcome ≡ (Ok tt)) × Packs s (evaluated wide (run_of conditions_records) s cs).state
  conditions-pack = rw end-evaluated (refl, end-packs)
