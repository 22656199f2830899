-- The first refusal that holds of a record, of 1 to 5, and what is known of a record of which none does.
use mathlib.Core.Path.{◌≡◌, refl}
use mathlib.Core.Bool.{Bool, true, false, cond, false≢true, true≢false}
use mathlib.Core.List.{List}
use mathlib.Core.Option.{Option, none, some}
use Prim.Native.Nat.{ℕ, ◌≤◌}
use native.Mathlib.Omega.{arith}
use borrow.Author.Tests.{eq-eqb, ne_eqb, le-ltb}
use lib.Dec.{eqb, ltb}
use lib.ListN.{length, get_or}
use Rattle.translation.specs.Insn.{Insn}
use Rattle.translation.specs.declared.answer.Refusal.{Refusal}
use Rattle.translation.specs.declared.answer.Refusal.TheVariants.{BadLength, UnknownKind, UnknownForm, SystemValueMov, ByteThree}
use Rattle.translation.specs.Strip.{refusal_number, insn_of, never_runs, known, system_value_mov, byte_three, first_refusal_of, first_refusal, is_none, admits}

-- 01's number, 0 where none holds
abbrev pub number_or_zero : Option Refusal → ℕ
number_or_zero none = 0
number_or_zero (some r) = refusal_number r

-- the six tests in their order
abbrev pub tested : (length-is kind-known form-high dead system three : Bool) → Option Refusal
tested length-is kind-known form-high dead system three =
    cond length-is
    (cond kind-known
    (cond form-high (some UnknownForm) (cond dead none (cond system (some SystemValueMov) (cond three (some ByteThree) none))))
    (some UnknownKind))
    (some BadLength)

module _ (l : List ℕ) where
  abbrev k : ℕ
  k = get_or l 0 0

  abbrev i : Insn
  i = insn_of l

  pub refusal-tested : first_refusal l ≡ tested (eqb (length l) 18) (known k) (ltb 2 i.form) (never_runs i) (system_value_mov k i) (byte_three k i)
  unfolding first_refusal first_refusal_of
  refusal-tested = refl

  -- it does not hang on the room: never 6
  pub first-below-6 : number_or_zero (first_refusal l) ≤ 5
  unfolding refusal_number
  first-below-6 = rw refusal-tested (go (eqb (length l) 18) (known k) (ltb 2 i.form) (never_runs i) (system_value_mov k i) (byte_three k i))
    where
      go : (a b c d e f : Bool) → number_or_zero (tested a b c d e f) ≤ 5
      go false b c d e f = omega arith
      go true false c d e f = omega arith
      go true true true d e f = omega arith
      go true true false true e f = omega arith
      go true true false false true f = omega arith
      go true true false false false true = omega arith
      go true true false false false false = omega arith

  -- an admitted record's kind is known, and it is no i2i of a half from byte 3 on, unless it never runs
  pub admitted-known : admits l ≡ true → (known k ≡ true) × (never_runs i ≡ false → byte_three k i ≡ false)
  unfolding admits
  admitted-known h = go (eqb (length l) 18) (known k) (ltb 2 i.form) (never_runs i) (system_value_mov k i) (byte_three k i) (rw refusal-tested at h)
    where
      go : (a b c d e f : Bool) → is_none (tested a b c d e f) ≡ true → (b ≡ true) × (d ≡ false → f ≡ false)
      go false b c d e f x = absurd (false≢true x)
      go true false c d e f x = absurd (false≢true x)
      go true true true d e f x = absurd (false≢true x)
      go true true false true e f x = (refl, λ y. absurd (true≢false y))
      go true true false false true f x = absurd (false≢true x)
      go true true false false false true x = absurd (false≢true x)
      go true true false false false false x = (refl, λ y. refl)

  -- #104: a record that never runs is admitted, whatever its opcode value and its size codes are
  pub never-admitted : length l ≡ 18 → known k ≡ true → i.form ≤ 2 → never_runs i ≡ true → admits l ≡ true
  unfolding admits
  never-admitted a b c d = rw (refusal-tested, eq-eqb (length l) 18 a, b, le-ltb 2 i.form c, d) refl

  -- the first refusal, step by step
  pub short : (length l ≡ 18 → ⊥) → first_refusal l ≡ some BadLength
  unfolding first_refusal
  short h = rw (ne_eqb (length l) 18 h)

  pub unknown : length l ≡ 18 → known k ≡ false → first_refusal l ≡ some UnknownKind
  unfolding first_refusal first_refusal_of
  unknown h n = rw (eq-eqb (length l) 18 h, n)

  pub read : (n : ℕ) (j : Insn) → length l ≡ 18 → n ≡ k → j ≡ i → first_refusal l ≡ first_refusal_of n j
  unfolding first_refusal
  read n j h e f = rw (eq-eqb (length l) 18 h, e, f)
