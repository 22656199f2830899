use Rattle.std.proofs.Common.{ℕ, ◌<◌, Bool, cond, ◌&&◌, eqb, sym, refl, ap, ◌∙◌, rules, eq-eqb, ne_eqb}
use Rattle.strip.specs.Entry.{kind_of}
use Rattle.strip.specs.declared.shape.Shape.{Shape}
use Rattle.strip.specs.Pass.{bit_at, values_mask, has}
use Rattle.strip.proofs.EntryStep.{taken, step-four}
use Rattle.strip.proofs.Table.{no_end}
use Rattle.evaluation.specs.Machine.{Push, four_effect, effect_of}
use Rattle.evaluation.proofs.Progress.{four-kept, placed-values, refuses, idle, makes, runs}
use Rattle.evaluation.proofs.Cases.{not-running}
use Rattle.evaluation.proofs.machine.Machine.four.Goals as goal

-- the shape test passes the entry's references
abbrev passes : Shape → ℕ → ℕ → ℕ → ℕ → ℕ → Bool
passes g k a b c d = bit_at (cond (eqb k 11) (values_mask g 3) (values_mask g 1)) a && (has g 1 b && (has g 1 c && has g 1 d))

pub returns-then-g-eq0 : goal.returns-then-g-eq0
returns-then-g-eq0 c = λ s cs z. refuses _ _ _ cs s _ _ c.passed.ensures _ c.four-g.ensures c.if-g-eq0.true

pub returns-in_default : goal.returns-in_default
unfolding kind_of
returns-in_default c = let h : c.args.k < 256 = search rules in λ s cs z. idle _ _ _ cs s _ _ c.passed-in_default.ensures c.four-g.ensures (no_end _ h (rw c.requires.body refl)) (not-running _ c.in_default.not-Runs)

pub returns-then-k-eq11 : goal.returns-then-k-eq11
unfolding effect_of four_effect values_mask kind_of
returns-then-k-eq11 c =
    let h : c.args.k < 256 = search rules in let a = c.args in let g = c.args.self.shape in let k = eq-eqb c.args.k 11 c.if-k-eq11.true in let r = c.address.ensures in λ s cs z. (
      r.0 ∙ c.four-g.ensures,
      λ some.
          let t = taken (passes g a.k a.a a.b a.c a.d) _ _ (r.0 ∙ c.four-g.ensures ∙ step-four _ _ h c.requires.body _ _ _ _) some in
          let x = four-kept g c.requires.ready a.values.now (eqb a.k 11) 3 1 1 a.a a.b a.c a.d t.0 in
          runs c.args.self _ _ cs s c.in-Runs.is _ (rw (k, x.0, x.1.0, x.1.1.0, x.1.1.1, ← c.value_at-x.ensures, ← c.value_at-y.ensures, ← c.value_at-z.ensures, ← c.value_at-w.ensures, ← z)) _ (r.1 s c.in-Runs.is (ap (λ (g : Shape). g.values) (sym r.0 ∙ t.1) ∙ placed-values g (cond (eqb a.k 11) 4 1) (rw k))),
    )

pub returns : goal.returns
unfolding effect_of four_effect values_mask kind_of
returns c =
    let h : c.args.k < 256 = search rules in let b = c.requires.body in let a = c.args in let g = c.args.self.shape in let k = ne_eqb c.args.k 11 c.if-k-eq11.false in λ s cs z.
    makes _ _ _ cs s _ _ c.put.ensures.machine (passes g a.k a.a a.b a.c a.d) (cond (eqb a.k 11) 4 1) (c.four-g.ensures ∙ step-four _ _ h b _ _ _ _) (rw k) (step-four _ _ h b _ _ _ _) (no_end _ h (rw b refl)) _ _ (λ some. c.put.ensures.values)
    (λ t. let x = four-kept g c.requires.ready a.values.now (eqb a.k 11) 3 1 1 a.a a.b a.c a.d t in rw (k, x.0, x.1.0, x.1.1.0, x.1.1.1, ← c.value_at-x.ensures, ← c.value_at-y.ensures, ← c.value_at-z.ensures, ← c.value_at-w.ensures) (ap Push (sym c.insert.ensures)))
