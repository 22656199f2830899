-- Every arm does what its kind means.
use mathlib.Core.Path.{◌≡◌, refl, subst, sym}
use mathlib.Core.Bool.{Bool, true, false, cond, not, ◌&&◌, ◌||◌, false≢true, and-true, and-false}
use mathlib.Core.List.{List, [], ◌∷◌}
use mathlib.Core.Option.{some}
use Prim.Native.Nat.{ℕ}
use native.Mathlib.Omega.{arith}
use lib.Dec.{T, eqb, leb}
use borrow.Author.Tests.{leb-true, eqb-true}
use Rattle.strip.specs.Entry.{Each}
use Rattle.strip.proofs.Tests.{T_true, and_right, among, every, below}
use Rattle.evaluation.specs.declared.state.State.{State}
use Rattle.translation.specs.Insn as T
use Rattle.meaning.specs.Record.{Record}
use Rattle.meaning.proofs.Reading.{insn}
use Rattle.translation.specs.Arms.{arm_of}
use Rattle.translation.specs.Strip.{known, byte_three}
use Rattle.meaning.specs.Meaning.{meant, may_read, reads_when_run, lent}
use Rattle.translation.proofs.Sem.{halted, sem}
use Rattle.translation.proofs.Stays.{Proper}
use Rattle.meaning.proofs.Helper.{asked, final, missing}
use Rattle.meaning.proofs.Moves.{mov-does, mov-missing, mov32i-does, sel-does, sel-missing}
use Rattle.meaning.proofs.Compare.{csetp-does, isetp-does, isetp-missing, iset-does, iset-missing, psetp-does, pset-does, imnmx-does, imnmx-missing, icmp-does, icmp-missing}
use Rattle.meaning.proofs.Sums.{iadd-does, iadd-missing, iadd32i-does, iadd3-does, iadd3-missing, iscadd-does, iscadd-missing}
use Rattle.meaning.proofs.Product.{xmad-does, xmad-missing}
use Rattle.meaning.proofs.Logic.{lop-does, lop-missing, lop32i-does, lop3_arm-does, lop3_arm-missing}
use Rattle.meaning.proofs.Counts.{flo-does, flo-missing, popc-does, popc-missing}
use Rattle.meaning.proofs.Cells.{r2p-does, p2r-does}
use Rattle.meaning.proofs.Shifts.{shl-does, shl-missing, shr-does, shr-missing, shf-does, shf-missing, lea_does, lea-missing}
use Rattle.meaning.proofs.Fields.{bfe-does, bfe-missing, bfi-does, bfi-missing}
use Rattle.meaning.proofs.Convert.{vmnmx-does, i2i-does, i2i-missing}

-- ---- the thirty kinds

abbrev kinds : List ℕ
kinds = 1 ∷ 2 ∷ 3 ∷ 4 ∷ 5 ∷ 6 ∷ 7 ∷ 8 ∷ 9 ∷ 10 ∷ 11 ∷ 12 ∷ 13 ∷ 14 ∷ 15 ∷ 16 ∷ 17 ∷ 18 ∷ 19 ∷ 20 ∷ 21 ∷ 22 ∷ 23 ∷ 24 ∷ 25 ∷ 26 ∷ 27 ∷ 28 ∷ 29 ∷ 30 ∷ []

kinds-known : T (every (λ k. not (known k) || among kinds k) 0 31)
unfolding known
kinds-known = tt

known_among : (k : ℕ) → known k ≡ true → among kinds k ≡ true
unfolding known
known_among k h =
    let l = leb-true k 30 (and_right (leb 1 k) _ h) in
    T_true (among kinds k) (go (known k) h (below (λ k. not (known k) || among kinds k) 31 kinds-known k (omega arith)))
  where
    go : (b : Bool) → b ≡ true → T (not b || among kinds k) → T (among kinds k)
    go true e t = t
    go false e t = absurd (false≢true e)

-- what holds of each of the numbers holds of one of them
member : (P : ℕ → Type 0) (ns : List ℕ) (k : ℕ) → among ns k ≡ true → Each P ns → P k
member P [] k h e = absurd (false≢true h)
member P (n ∷ ns) k h e = go (eqb k n) refl h (λ h. member P ns k h e.1)
  where
    go : (b : Bool) → eqb k n ≡ b → cond b true (among ns k) ≡ true → (among ns k ≡ true → P k) → P k
    go true q h ih = subst P (sym (eqb-true k n q)) e.0
    go false q h ih = ih h

-- ---- each kind: its arm ends in the state of its meaning, or is refused where a word is not lent

-- one more, before the others
also : {A B : Type 0} → A → B → A × B
also a b = (a, b)

module _ (cs : List ℕ) (i : Record) (s : State) where
  -- the record with another kind
  abbrev of : ℕ → Record
  of k = record { kind = k; form = i.form; value = i.value; word = i.word }

  -- every kind but lea that may read a constant reads it as b; the others read none
  as-b : {x : Bool} → (eqb i.form 1 && true) && not (lent cs i) ≡ x → missing cs i ≡ x
  as-b e = rw (← and-true (eqb i.form 1)) e

  reads_none : {A : Type 0} → (eqb i.form 1 && false) && not (lent cs i) ≡ true → A
  reads_none e = absurd (false≢true (rw (and-false (eqb i.form 1)) at e))

  Does : ℕ → Type 0
  Does k = Proper cs s → byte_three k (insn i) ≡ false → reads_when_run (of k) && not (lent cs i) ≡ false → final (sem cs (arm_of k (insn i)) [] s) ≡ some (meant cs (of k) s)

  Misses : ℕ → Type 0
  Misses k = reads_when_run (of k) && not (lent cs i) ≡ true → sem cs (arm_of k (insn i)) [] s ≡ halted (asked i) s

  arms-do : Each Does kinds
  unfolding Does arm_of meant may_read reads_when_run T.bits T.bit
  arms-do =
      also (λ w h e. mov-does cs (of 1) s (as-b e))
      (also (λ w h e. mov32i-does cs (of 2) s)
      (also (λ w h e. sel-does cs (of 3) s (as-b e))
      (also (λ w h e. csetp-does cs (of 4) s)
      (also (λ w h e. isetp-does cs (of 5) s (as-b e) w)
      (also (λ w h e. iset-does cs (of 6) s (as-b e) w)
      (also (λ w h e. psetp-does cs (of 7) s)
      (also (λ w h e. pset-does cs (of 8) s w)
      (also (λ w h e. iadd-does cs (of 9) s (as-b e) w)
      (also (λ w h e. iadd32i-does cs (of 10) s w)
      (also (λ w h e. iadd3-does cs (of 11) s (as-b e) w)
      (also (λ w h e. iscadd-does cs (of 12) s (as-b e))
      (also (λ w h e. xmad-does cs (of 13) s (as-b e))
      (also (λ w h e. imnmx-does cs (of 14) s (as-b e) w)
      (also (λ w h e. icmp-does cs (of 15) s (as-b e) w)
      (also (λ w h e. lop-does cs (of 16) s (as-b e) w)
      (also (λ w h e. lop32i-does cs (of 17) s w)
      (also (λ w h e. lop3_arm-does cs (of 18) s (as-b e) w)
      (also (λ w h e. shl-does cs (of 19) s (as-b e) w)
      (also (λ w h e. shr-does cs (of 20) s (as-b e) w)
      (also (λ w h e. bfe-does cs (of 21) s (as-b e) w)
      (also (λ w h e. bfi-does cs (of 22) s (as-b e) w)
      (also (λ w h e. vmnmx-does cs (of 23) s w)
      (also (λ w h e. i2i-does cs (of 24) s (as-b e) h w)
      (also (λ w h e. flo-does cs (of 25) s (as-b e) w)
      (also (λ w h e. popc-does cs (of 26) s (as-b e))
      (also (λ w h e. r2p-does cs (of 27) s)
      (also (λ w h e. p2r-does cs (of 28) s w)
      (also (λ w h e. shf-does cs (of 29) s (as-b e) w)
      (also (λ w h e. lea_does cs (of 30) s e w) tt)))))))))))))))))))))))))))))

  arms-miss : Each Misses kinds
  unfolding Misses arm_of may_read reads_when_run T.bits T.bit
  arms-miss =
      also (λ e. mov-missing cs (of 1) s (as-b e))
      (also reads_none
      (also (λ e. sel-missing cs (of 3) s (as-b e))
      (also reads_none
      (also (λ e. isetp-missing cs (of 5) s (as-b e))
      (also (λ e. iset-missing cs (of 6) s (as-b e))
      (also reads_none
      (also reads_none
      (also (λ e. iadd-missing cs (of 9) s (as-b e))
      (also reads_none
      (also (λ e. iadd3-missing cs (of 11) s (as-b e))
      (also (λ e. iscadd-missing cs (of 12) s (as-b e))
      (also (λ e. xmad-missing cs (of 13) s (as-b e))
      (also (λ e. imnmx-missing cs (of 14) s (as-b e))
      (also (λ e. icmp-missing cs (of 15) s (as-b e))
      (also (λ e. lop-missing cs (of 16) s (as-b e))
      (also reads_none
      (also (λ e. lop3_arm-missing cs (of 18) s (as-b e))
      (also (λ e. shl-missing cs (of 19) s (as-b e))
      (also (λ e. shr-missing cs (of 20) s (as-b e))
      (also (λ e. bfe-missing cs (of 21) s (as-b e))
      (also (λ e. bfi-missing cs (of 22) s (as-b e))
      (also reads_none
      (also (λ e. i2i-missing cs (of 24) s (as-b e))
      (also (λ e. flo-missing cs (of 25) s (as-b e))
      (also (λ e. popc-missing cs (of 26) s (as-b e))
      (also reads_none
      (also reads_none
      (also (λ e. shf-missing cs (of 29) s (as-b e))
      (also (λ e. lea-missing cs (of 30) s e) tt)))))))))))))))))))))))))))))

module _ (cs : List ℕ) (i : Record) (s : State) where
  pub arm-does : Proper cs s → known i.kind ≡ true → byte_three i.kind (insn i) ≡ false → reads_when_run i && not (lent cs i) ≡ false
      → final (sem cs (arm_of i.kind (insn i)) [] s) ≡ some (meant cs i s)
  unfolding Does
  arm-does w h = member (Does cs i s) kinds i.kind (known_among i.kind h) (arms-do cs i s) w

  pub arm-missing : known i.kind ≡ true → reads_when_run i && not (lent cs i) ≡ true → sem cs (arm_of i.kind (insn i)) [] s ≡ halted (asked i) s
  unfolding Misses
  arm-missing h = member (Misses cs i s) kinds i.kind (known_among i.kind h) (arms-miss cs i s)
