use Rattle.std.proofs.Common.{◌≡◌, true, false, sym, refl, ap, ◌∙◌}
use Rattle.strip.specs.Entry.{kind_of}
use Rattle.strip.specs.declared.shape.Shape.{Shape}
use Rattle.strip.specs.Pass.{values_mask, has, opened}
use Rattle.strip.proofs.EntryStep.{taken, step-open}
use Rattle.evaluation.specs.declared.machine.Machine.{Machine}
use Rattle.evaluation.specs.declared.machine.Refusal.TheVariants.{UndefinedValue}
use Rattle.evaluation.specs.Machine.{Enter, Refuse, effect_of, one_effect, entering}
use Rattle.evaluation.specs.Progress.{progress_after, standing}
use Rattle.evaluation.proofs.Cases.{no_truth, yes-truth, not-running}
use Rattle.evaluation.proofs.Progress.{Kept, kept, opened-values, refuses, idle, stays, runs}
use Rattle.evaluation.proofs.machine.Machine.open.Goals as goal
use Rattle.evaluation.proofs.machine.Machine.open.Goals.{In-Runs}

-- where the shape test passes the entry, its value is kept
passed : (c : In-Runs) → (c.open-g.result.left ≡ 0 → ⊥) → (c.open-g.result ≡ opened c.args.self.shape) × Kept c.args.self.shape c.args.values.now c.args.a
unfolding values_mask
passed c some = let t = taken (has c.args.self.shape 2 c.args.a) _ _ c.open-g.ensures some in (t.1, kept c.args.self.shape c.requires _ 2 c.args.a t.0)

pub returns-then-g-eq0 : goal.returns-then-g-eq0
returns-then-g-eq0 c = λ s cs. refuses _ _ _ cs s _ _ c.passed.ensures _ (c.open-g.ensures ∙ sym (step-open _ _)) c.if-g-eq0.true

pub returns-in_default : goal.returns-in_default
unfolding effect_of one_effect entering progress_after standing kind_of
returns-in_default c = λ s cs. idle _ _ _ cs s _ _ c.passed-in_default.ensures (c.open-g.ensures ∙ sym (step-open _ _)) refl (not-running _ c.in_default.not-Runs)

pub returns-in_default-value_at : goal.returns-in_default-value_at
unfolding effect_of one_effect entering progress_after standing kind_of
returns-in_default-value_at c = λ s cs. (c.open-g.ensures ∙ sym (step-open _ _), λ some. let x = passed (goal.at.returns-in_default-value_at c).In-Runs some in runs c.args.self _ _ cs s c.in-Runs.is (Refuse UndefinedValue) (rw (x.1, ← c.value_at.ensures) (no_truth _ _ _ c.in_default-value_at.not-Truth)) _ refl)

pub returns-then-t : goal.returns-then-t
unfolding effect_of one_effect entering progress_after standing kind_of
returns-then-t c = let p = c.passed-then-t.ensures in let on = c.in-Runs.is in λ s cs. (ap (λ (r : Machine). r.shape) p ∙ c.open-g.ensures ∙ sym (step-open _ _), λ some. let more : c.open-g.result.left ≡ 0 → ⊥ = λ z. some (ap (λ (r : Machine). r.shape.left) p ∙ z) in let x = passed (goal.at.returns-then-t c).In-Runs more in runs c.args.self _ _ cs s on (Enter true) (rw (x.1, ← c.value_at.ensures, c.in-Truth.is, yes-truth, c.if-t.true)) _ (stays c.args.self _ on _ _ p s (ap (λ (g : Shape). g.values) x.0 ∙ opened-values c.args.self.shape (λ z. more (ap (λ (g : Shape). g.left) x.0 ∙ z)))))

pub returns : goal.returns
unfolding effect_of one_effect entering progress_after standing kind_of
returns c = λ s cs. (c.open-g.ensures ∙ sym (step-open _ _), λ some. let x = passed (goal.at.returns c).In-Runs some in runs c.args.self _ _ cs s c.in-Runs.is (Enter false) (rw (x.1, ← c.value_at.ensures, c.in-Truth.is, yes-truth, c.if-t.false)) _ refl)
