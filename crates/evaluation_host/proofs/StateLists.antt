-- A state in two lists, and what `mehkura_evaluate` answers case by case.
use Rattle.std.specs.Prelude.{Result, Ok, Err}
use mathlib.Core.Path.{◌≡◌, refl}
use mathlib.Core.List.{List, [], ◌++◌, map}
use mathlib.Core.Bool.{Bool, cond}
use Prim.Native.Nat.{ℕ}
use native.Mathlib.Omega.{arith}
use lib.ListN.{length}
use lib.Dec.{eqb}
use lib.Seq.{sets}
use Rattle.strip.specs.declared.format.Layout.{Layout}
use Rattle.strip.specs.declared.format.UnknownLayout.{UnknownLayout}
use Rattle.strip.specs.Entry.{ref_length}
use Rattle.evaluation.specs.declared.state.State.{State}
use Rattle.evaluation.specs.declared.machine.Evaluated.{Evaluated}
use Rattle.std.specs.Prelude.{Ok, Err}
use Rattle.evaluation.specs.declared.machine.Refusal.{Refusal}
use Rattle.evaluation.specs.declared.machine.Refusal.TheVariants.{BadShape, UndefinedValue, NoConstant}
use Rattle.evaluation.specs.Machine.{refusal_told, told, Answer, answer_of, evaluation}
use borrow.Author.Tests.{eq-eqb, ne_eqb}
use Rattle.truth_bytes.specs.Truths.{truth_byte, truths_at}
use Rattle.evaluation_host.specs.States.{state_in, truth_bytes, returns, handed_back, evaluate_in, evaluate_answer}
use Rattle.truth_bytes.proofs.Front.{appended, whole}

-- ---- a state in two lists
pub state-read : {regs : List ℕ} {preds flags : List Bool} (rs ts : List ℕ) → regs ≡ rs → preds ≡ truths_at 7 0 ts → flags ≡ truths_at 4 7 ts
    → record { regs = regs; preds = preds; flags = flags } ≡ state_in rs ts
unfolding state_in
state-read rs ts p q r = rw (p, q, r)

pub truths-written : {ts₁ ts₂ : List ℕ} (s : State) (ts : List ℕ) → length s.preds ≡ 7 → length s.flags ≡ 4 → length ts ≡ 11
    → ts₁ ≡ sets ts 0 (map truth_byte s.preds) → ts₂ ≡ sets ts₁ 7 (map truth_byte s.flags) → ts₂ ≡ truth_bytes s
unfolding truth_bytes
truths-written {ts₁} s ts p f h e₁ e₂ =
    whole (s.preds ++ s.flags) 11 (appended ts₁ s.preds s.flags 7 4 11 f (omega arith) (appended ts [] s.preds 0 7 11 p (omega arith) (refl, h) e₁) e₂)

-- ---- the answer
module _ (layout : Result Layout UnknownLayout) (run rs ts cs fault : List ℕ) where
  pub wrong-registers : (length rs ≡ 255 → ⊥) → returns 7 rs ts fault ≡ evaluate_answer layout run rs ts cs fault
  unfolding evaluate_answer
  wrong-registers h = rw (ne_eqb (length rs) 255 h)

  pub wrong-truths : length rs ≡ 255 → (length ts ≡ 11 → ⊥) → returns 7 rs ts fault ≡ evaluate_answer layout run rs ts cs fault
  unfolding evaluate_answer
  wrong-truths e h = rw (eq-eqb (length rs) 255 e, ne_eqb (length ts) 11 h)

  pub no-layout : length rs ≡ 255 → length ts ≡ 11 → {e : UnknownLayout} → layout ≡ Err e → returns 7 rs ts fault ≡ evaluate_answer layout run rs ts cs fault
  unfolding evaluate_answer evaluate_in
  no-layout e h u = rw (eq-eqb (length rs) 255 e, eq-eqb (length ts) 11 h, u)

  pub ran : {s : State} {a : Answer} (l : Layout) → length rs ≡ 255 → length ts ≡ 11 → layout ≡ Ok l → s ≡ state_in rs ts → a ≡ evaluation (ref_length l) run s cs → handed_back a rs ts fault ≡ evaluate_answer layout run rs ts cs fault
  unfolding evaluate_answer evaluate_in
  ran l e h k p q = rw (eq-eqb (length rs) 255 e, eq-eqb (length ts) 11 h, k, ← p, ← q)

module _ (r : Evaluated) (rs ts fault : List ℕ) where
  pub done : {rs' ts' : List ℕ} → r.outcome ≡ Ok tt → rs' ≡ r.state.regs → ts' ≡ truth_bytes r.state → returns 0 rs' ts' fault ≡ handed_back (answer_of r) rs ts fault
  unfolding handed_back told
  done o p q = rw (o, p, q)

  -- what a refusal writes over slot, vec and comp
  abbrev placed : Refusal → List ℕ
  placed f = cond (eqb (refusal_told f).number 9) (refusal_told f).carried fault

  pub refused : (f : Refusal) → r.outcome ≡ Err f → returns (refusal_told f).number rs ts (placed f) ≡ handed_back (answer_of r) rs ts fault
  unfolding handed_back told refusal_told
  refused BadShape o = rw o
  refused UndefinedValue o = rw o
  refused (NoConstant slot vec comp) o = rw o
