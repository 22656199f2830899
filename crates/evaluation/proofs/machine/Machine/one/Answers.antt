use Rattle.std.proofs.Common.{◌≡◌, ◌<◌, ◌%◌, refl, ne_eqb, rules}
use Rattle.strip.specs.Entry.{kind_of}
use Rattle.strip.specs.Pass.{values_mask, has}
use Rattle.strip.proofs.EntryStep.{step-load-at, step-negate, step-unary}
use Rattle.strip.proofs.Table.{no_end}
use Rattle.evaluation.specs.Machine.{effect_of, one_effect, fetched, value_at}
use Rattle.evaluation.specs.Value.{unary, negated}
use Rattle.evaluation.proofs.Progress.{kept, makes}
use Rattle.evaluation.proofs.machine.Machine.one.Goals as goal

pub returns-then-k-eq12 : goal.returns-then-k-eq12
unfolding effect_of one_effect values_mask kind_of
returns-then-k-eq12 c =
    let g = c.args.self.shape in let all = c.args.values.now in let x = fetched (value_at all (c.args.a % 64)) c.args.constants.now in
    λ s. rw c.if-k-eq12.true (makes _ _ _ _ s _ _ c.made.ensures.machine (has g 4 c.args.a) 1 c.load_at.ensures refl (step-load-at _ _) refl _ x
    (λ some. let q = c.made.ensures.values some in let e : q.0 ≡ x = search rules in rw (← e) q.2)
    (λ t. rw (kept g c.requires.ready all 4 c.args.a t) refl))

pub returns-then-k-eq80 : goal.returns-then-k-eq80
unfolding effect_of one_effect values_mask kind_of
returns-then-k-eq80 c =
    let g = c.args.self.shape in let all = c.args.values.now in let x = negated (value_at all (c.args.a % 64)) in
    λ s. rw c.if-k-eq80.true (makes _ _ _ _ s _ _ c.made-then-k-eq80.ensures.machine (has g 2 c.args.a) 2 c.negate.ensures refl (step-negate _ _) refl _ x
    (λ some. let q = c.made-then-k-eq80.ensures.values some in let e : q.0 ≡ x = search rules in rw (← e) q.2)
    (λ t. rw (kept g c.requires.ready all 2 c.args.a t) refl))

pub returns-then-k-eq100 : goal.returns-then-k-eq100
returns-then-k-eq100 c = λ s. rw c.if-k-eq100.true (c.open.ensures s _)

pub returns : goal.returns
unfolding effect_of one_effect values_mask kind_of
returns c =
    let h : c.args.k < 256 = search rules in let b = c.requires.body in let p = ne_eqb _ _ c.if-k-eq12.false in let q = ne_eqb _ _ c.if-k-eq80.false in let r = ne_eqb _ _ c.if-k-eq100.false in
    let g = c.args.self.shape in let all = c.args.values.now in let x = unary c.args.k (value_at all (c.args.a % 64)) in
    λ s. makes _ _ _ _ s _ _ c.made-2.ensures.machine (has g 1 c.args.a) 1 c.unary.ensures refl (step-unary _ _ h b p q r _) (no_end _ h (rw b refl)) _ x
    (λ some. let q = c.made-2.ensures.values some in let e : q.0 ≡ x = search rules in rw (← e) q.2)
    (λ t. rw (p, q, r, kept g c.requires.ready all 1 c.args.a t) refl)
