use Rattle.std.proofs.Common.{◌≡◌, ◌<◌, ◌%◌, ◌&&◌, refl, ◌∙◌, eqb, cond, rules}
use Rattle.strip.specs.Entry.{kind_of}
use Rattle.strip.specs.Pass.{bit_at, values_mask, has}
use Rattle.strip.proofs.EntryStep.{step-three}
use Rattle.strip.proofs.Table.{no_end}
use Rattle.evaluation.specs.Machine.{effect_of, value_at}
use Rattle.evaluation.specs.Value.{three}
use Rattle.evaluation.proofs.Progress.{three-kept, makes}
use Rattle.evaluation.proofs.machine.Machine.three.Goals as goal

pub returns : goal.returns
unfolding effect_of values_mask kind_of
returns c =
    let h : c.args.k < 256 = search rules in let b = c.requires.body in let a = c.args in let g = c.args.self.shape in let all = a.values.now in λ s cs.
    makes _ _ _ cs s _ _ c.made.ensures.machine (bit_at (cond (eqb a.k 90) (values_mask g 2) (values_mask g 1)) a.a && (has g 1 a.b && has g 1 a.c)) 1 (c.three.ensures ∙ step-three _ _ h b _ _ _) refl (step-three _ _ h b _ _ _) (no_end _ h (rw b refl)) _
    (three a.k (value_at all (a.a % 64)) (value_at all (a.b % 64)) (value_at all (a.c % 64)))
    (λ some. let q = c.made.ensures.values some in let e : q.0 ≡ three a.k (value_at all (a.a % 64)) (value_at all (a.b % 64)) (value_at all (a.c % 64)) = search rules in rw (← e) q.2)
    (λ t. let x = three-kept g c.requires.ready all (eqb a.k 90) 2 1 1 a.a a.b a.c t in rw (x.0, x.1.0, x.1.1) refl)
