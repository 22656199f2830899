use Rattle.std.proofs.Common.{◌≡◌, ◌<◌, cond, eqb, ltb, sym, refl, ap, ◌∙◌, rules}
use Rattle.strip.specs.Entry.{kind_of}
use Rattle.strip.specs.declared.shape.Shape.{Shape}
use Rattle.strip.specs.Pass.{values_mask, placed, bit_at}
use Rattle.strip.proofs.EntryStep.{taken, step-store}
use Rattle.strip.proofs.Table.{no_end}
use Rattle.strip.proofs.Tests.{and_right}
use Rattle.evaluation.specs.declared.machine.Machine.{Machine}
use Rattle.evaluation.specs.declared.machine.Refusal.TheVariants.{UndefinedValue}
use Rattle.evaluation.specs.Machine.{Refuse, storing, effect_of}
use Rattle.evaluation.specs.State.{with_store}
use Rattle.evaluation.specs.Progress.{progress_after, standing}
use Rattle.evaluation.proofs.Cases.{is-running, not-running}
use Rattle.evaluation.proofs.Progress.{Kept, kept-either, refuses, idle, stays, runs, stored-none, store-runs, store-refused}
use Rattle.evaluation.proofs.machine.Machine.store.Goals as goal
use Rattle.evaluation.proofs.machine.Machine.store.Goals.{In-Runs}

-- where the shape test passes the entry, it makes no value, and its value is kept
passed : (c : In-Runs) → (c.store-g.result.left ≡ 0 → ⊥) → (c.store-g.result ≡ placed c.args.self.shape 0) × Kept c.args.self.shape c.args.values.now c.args.r
unfolding values_mask
passed c some =
    let h : c.args.k < 256 = search rules in
    let l = ltb c.args.n (cond (eqb c.args.k 7) 255 (cond (eqb c.args.k 8) 7 4)) in
    let m = bit_at (cond (eqb c.args.k 7) (values_mask c.args.self.shape 1) (values_mask c.args.self.shape 2)) c.args.r in
    let t = taken _ _ _ (c.store-g.ensures ∙ step-store _ _ h c.requires.body _ _) some in
    (t.1, kept-either c.args.self.shape c.requires.ready _ (eqb c.args.k 7) 1 2 c.args.r (and_right l m t.0))

pub returns-then-g-eq0 : goal.returns-then-g-eq0
unfolding with_store
returns-then-g-eq0 c = λ s cs. refuses _ _ _ cs _ _ _ c.passed.ensures _ c.store-g.ensures c.if-g-eq0.true

pub returns-in_default : goal.returns-in_default
unfolding with_store standing effect_of kind_of progress_after
returns-in_default c = let h : c.args.k < 256 = search rules in let off = not-running c.args.self.status c.in_default.not-Runs in λ s cs. rw (off, stored-none s c.args.k c.args.n) (idle _ _ _ cs _ _ _ c.passed-in_default.ensures c.store-g.ensures (no_end _ h (rw c.requires.body refl)) off)

pub returns-then-storable : goal.returns-then-storable
unfolding with_store standing effect_of kind_of placed progress_after
returns-then-storable c =
    let on = c.in-Runs.is in let p = c.passed-then-storable.ensures in let v = c.value_at.result in λ s cs. rw (is-running on, ← c.value_at.ensures) (ap (λ (r : Machine). r.shape) p ∙ c.store-g.ensures, λ some. let x = passed (goal.at.returns-then-storable c).In-Runs (λ z. some (ap (λ (r : Machine). r.shape.left) p ∙ z)) in runs c.args.self _ _ cs _ on (storing c.args.k c.args.n v) (ap (storing c.args.k c.args.n) (x.1 ∙ sym c.value_at.ensures)) _ (stays c.args.self _ on _ _ p _ (ap (λ (g : Shape). g.values) x.0) ∙ store-runs s _ c.args.k c.args.n v (sym (c.storable.ensures _) ∙ c.if-storable.true)))

pub returns : goal.returns
unfolding with_store standing effect_of kind_of progress_after
returns c =
    let on = c.in-Runs.is in λ s cs. (c.store-g.ensures, λ some. let x = passed (goal.at.returns c).In-Runs some in runs c.args.self _ _ cs _ on (Refuse UndefinedValue) (ap (storing c.args.k c.args.n) (x.1 ∙ sym c.value_at.ensures) ∙ store-refused c.args.k c.args.n _ (sym (c.storable.ensures _) ∙ c.if-storable.false)) _ refl)
