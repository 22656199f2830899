-- The guard: what never runs is what no state lets run, and both readings of a record agree on it.
use mathlib.Core.Path.{◌≡◌, refl, sym, ◌∙◌}
use mathlib.Core.Bool.{Bool, true, false, cond, not, ◌&&◌, xor, false≢true}
use native.Mathlib.Omega.{arith}
use borrow.Author.Tests.{eqb-false}
use lib.Dec.{eqb}
use lib.ListN.{get_or, replicate, get_or-replicate}
use Rattle.strip.proofs.Tests.{and_left, and_right}
use Rattle.evaluation.specs.declared.state.State.{State}
use Rattle.translation.specs.Insn as T
use Rattle.translation.specs.Strip as S
use Rattle.meaning.specs.Record.{Record, bits, bit}
use Rattle.meaning.specs.Operand.{pred}
use Rattle.meaning.specs.Meaning.{runs, never_runs}
use Rattle.meaning.proofs.Reading.{insn, bits-lt}

-- the state whose predicates are all t
abbrev all_predicates : Bool → State
all_predicates t = record { regs = replicate 255 0; preds = replicate 7 t; flags = replicate 4 false }

module _ (i : Record) where
  pub never-same : never_runs i ≡ S.never_runs (insn i)
  unfolding never_runs S.never_runs T.bits T.bit
  never-same = refl

  pub never-runs : never_runs i ≡ true → (s : State) → runs i s ≡ false
  unfolding never_runs pred xor
  never-runs h s = rw (and_left (eqb (bits i 16 3) 7) _ h, and_right (eqb (bits i 16 3) 7) _ h) refl

  pub runs-sometimes : (s : State) → runs i s ≡ true → never_runs i ≡ false
  runs-sometimes s r = go (never_runs i) refl
    where
      go : (b : Bool) → never_runs i ≡ b → b ≡ false
      go true e = absurd (false≢true (sym (never-runs e s) ∙ r))
      go false e = refl

  -- any other guard holds where all predicates are as it asks
  other-runs : never_runs i ≡ false → runs i (all_predicates (not (bit i 19))) ≡ true
  unfolding never_runs pred xor
  other-runs h = go (eqb (bits i 16 3) 7) (bit i 19) refl h
    where
      at : eqb (bits i 16 3) 7 ≡ false → (off : Bool) → get_or (replicate 7 (not off)) (bits i 16 3) false ≡ not off
      at e off = get_or-replicate 7 (bits i 16 3) (not off) false (omega (arith, bits-lt i 16 3, eqb-false (bits i 16 3) 7 e))

      go : (seven off : Bool) → eqb (bits i 16 3) 7 ≡ seven → seven && off ≡ false → xor (cond seven true (get_or (replicate 7 (not off)) (bits i 16 3) false)) off ≡ true
      go true true e h = absurd (false≢true (sym h))
      go true false e h = refl
      go false true e h = rw (at e true) refl
      go false false e h = rw (at e false) refl

  -- never means: in no state
  pub never-exactly : (never_runs i ≡ true → (s : State) → runs i s ≡ false) × (((s : State) → runs i s ≡ false) → never_runs i ≡ true)
  never-exactly = (never-runs, λ never. go (never_runs i) refl (never (all_predicates (not (bit i 19)))))
    where
      go : (b : Bool) → never_runs i ≡ b → runs i (all_predicates (not (bit i 19))) ≡ false → b ≡ true
      go true e n = refl
      go false e n = absurd (false≢true (sym n ∙ other-runs e))
