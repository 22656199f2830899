use Rattle.std.proofs.Common.{◌≡◌, ◌<◌, ◌%◌, ◌&&◌, refl, le-ltb, lt-ltb, rules}
use Rattle.strip.specs.Entry.{kind_of}
use Rattle.strip.specs.Pass.{values_mask, has}
use Rattle.strip.proofs.EntryStep.{step-binary, step-compare, step-logic}
use Rattle.strip.proofs.Table.{no_end}
use Rattle.evaluation.specs.Machine.{effect_of, value_at}
use Rattle.evaluation.specs.Value.{binary, compared, logic, two}
use Rattle.evaluation.proofs.Progress.{two-kept, makes}
use Rattle.evaluation.proofs.machine.Machine.two.Goals as goal

pub returns-then-k-lt60 : goal.returns-then-k-lt60
unfolding effect_of two values_mask kind_of
returns-then-k-lt60 c =
    let h : c.args.k < 256 = search rules in let b = c.requires.body in let g = c.args.self.shape in let all = c.args.values.now in let i = lt-ltb _ _ c.if-k-lt60.true in
    λ s cs. makes _ _ _ cs s _ _ c.made.ensures.machine (has g 1 c.args.a && has g 1 c.args.b) 1 c.binary.ensures refl (step-binary _ _ h b i _ _) (no_end _ h (rw b refl)) _ (binary c.args.k (value_at all (c.args.a % 64)) (value_at all (c.args.b % 64)))
    (λ some. let q = c.made.ensures.values some in let e : q.0 ≡ binary c.args.k (value_at all (c.args.a % 64)) (value_at all (c.args.b % 64)) = search rules in rw (← e) q.2)
    (λ t. let x = two-kept g c.requires.ready all 1 c.args.a c.args.b t in rw (i, x.0, x.1) refl)

pub returns-then-k-lt80 : goal.returns-then-k-lt80
unfolding effect_of two values_mask kind_of
returns-then-k-lt80 c =
    let h : c.args.k < 256 = search rules in let b = c.requires.body in let g = c.args.self.shape in let all = c.args.values.now in let i = le-ltb _ _ c.if-k-lt60.false in let j = lt-ltb _ _ c.if-k-lt80.true in
    λ s cs. makes _ _ _ cs s _ _ c.made-then-k-lt80.ensures.machine (has g 1 c.args.a && has g 1 c.args.b) 2 c.compare.ensures refl (step-compare _ _ h b i j _ _) (no_end _ h (rw b refl)) _ (compared c.args.k (value_at all (c.args.a % 64)) (value_at all (c.args.b % 64)))
    (λ some. let q = c.made-then-k-lt80.ensures.values some in let e : q.0 ≡ compared c.args.k (value_at all (c.args.a % 64)) (value_at all (c.args.b % 64)) = search rules in rw (← e) q.2)
    (λ t. let x = two-kept g c.requires.ready all 1 c.args.a c.args.b t in rw (i, j, x.0, x.1) refl)

pub returns : goal.returns
unfolding effect_of two values_mask kind_of
returns c =
    let h : c.args.k < 256 = search rules in let b = c.requires.body in let g = c.args.self.shape in let all = c.args.values.now in let i = le-ltb _ _ c.if-k-lt60.false in let j = le-ltb _ _ c.if-k-lt80.false in
    λ s cs. makes _ _ _ cs s _ _ c.made-2.ensures.machine (has g 2 c.args.a && has g 2 c.args.b) 2 c.logic.ensures refl (step-logic _ _ h b i j _ _) (no_end _ h (rw b refl)) _ (logic c.args.k (value_at all (c.args.a % 64)) (value_at all (c.args.b % 64)))
    (λ some. let q = c.made-2.ensures.values some in let e : q.0 ≡ logic c.args.k (value_at all (c.args.a % 64)) (value_at all (c.args.b % 64)) = search rules in rw (← e) q.2)
    (λ t. let x = two-kept g c.requires.ready all 2 c.args.a c.args.b t in rw (i, j, x.0, x.1) refl)
