-- The arms of moves and choices: mov, mov32i, sel.
use mathlib.Core.Path.{◌≡◌, refl}
use mathlib.Core.Bool.{true, false}
use mathlib.Core.List.{List, []}
use mathlib.Core.Option.{some}
use Prim.Native.Nat.{ℕ}
use Rattle.evaluation.specs.declared.state.State.{State}
use Rattle.evaluation.specs.Machine.{value_at, effect_of}
use Rattle.translation.specs.Insn as T
use Rattle.meaning.specs.Record.{Record}
use Rattle.meaning.proofs.Reading.{insn}
use Rattle.translation.specs.Arms.{mov, mov32i, sel}
use Rattle.meaning.specs.Meaning as M
use Rattle.translation.proofs.Sem.{halted, sem}
use Rattle.meaning.proofs.Helper.{asked, set-sem, src_b-sem, src_b-missing, missing, final, select-is, ra-sem, p-sem}

module _ (cs : List ℕ) (i : Record) (s : State) where
  module _ (h : missing cs i ≡ false) where
    pub mov-does : final (sem cs (mov (insn i)) [] s) ≡ some (M.mov cs i s)
    unfolding mov value_at T.bits T.bit
    mov-does = rw (src_b-sem cs s i h, set-sem cs s) refl

    pub sel-does : final (sem cs (sel (insn i)) [] s) ≡ some (M.sel cs i s)
    unfolding sel value_at effect_of T.bits T.bit
    sel-does = rw (p-sem cs s i 39 42, ra-sem cs s i, src_b-sem cs s i h, select-is, set-sem cs s) refl

  pub mov32i-does : final (sem cs (mov32i (insn i)) [] s) ≡ some (M.mov32i i s)
  unfolding mov32i value_at effect_of T.bits T.bit
  mov32i-does = rw (set-sem cs s) refl

  module _ (h : missing cs i ≡ true) where
    pub mov-missing : sem cs (mov (insn i)) [] s ≡ halted (asked i) s
    unfolding mov value_at T.bits T.bit
    mov-missing = rw (src_b-missing cs s i h) refl

    pub sel-missing : sem cs (sel (insn i)) [] s ≡ halted (asked i) s
    unfolding sel value_at T.bits T.bit
    sel-missing = rw (p-sem cs s i 39 42, ra-sem cs s i, src_b-missing cs s i h) refl
