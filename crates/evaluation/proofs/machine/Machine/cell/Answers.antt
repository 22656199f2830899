use Rattle.std.proofs.Common.{◌<◌, ◌&&◌, cond, eqb, ltb, leb, sym, refl, ap, ◌∙◌, ne_eqb, rules}
use Rattle.strip.specs.Entry.{kind_of}
use Rattle.strip.specs.declared.shape.Shape.{Shape}
use Rattle.strip.specs.Pass.{placed}
use Rattle.strip.proofs.EntryStep.{taken, step-register, step-slot, step-note, step-flag}
use Rattle.strip.proofs.Table.{no_end}
use Rattle.evaluation.specs.Machine.{Push, effect_of, cell_effect}
use Rattle.evaluation.proofs.Progress.{quiet, makes}
use Rattle.evaluation.proofs.machine.Machine.cell.Goals as goal

pub returns-then-k-eq4 : goal.returns-then-k-eq4
unfolding effect_of cell_effect kind_of
returns-then-k-eq4 c = λ s cs p. let e = c.if-k-eq4.true in let q = rw e at p in rw e (makes _ _ _ cs _ _ _ c.push.ensures.machine (ltb c.args.n 255) 1 c.register.ensures refl (step-register _ _) refl _ _ c.push.ensures.values (λ t. ap Push (sym q)))

pub returns-then-k-eq10 : goal.returns-then-k-eq10
unfolding effect_of cell_effect kind_of
returns-then-k-eq10 c = λ s cs p. rw c.if-k-eq10.true (makes _ _ _ cs _ _ _ c.push-then-k-eq10.ensures.machine (ltb c.args.n 32) 3 c.constant_slot.ensures refl (step-slot _ _) refl _ _ c.push-then-k-eq10.ensures.values (λ t. refl))

pub returns-then-k-eq110 : goal.returns-then-k-eq110
unfolding effect_of cell_effect kind_of placed
returns-then-k-eq110 c = λ s cs p. rw c.if-k-eq110.true (quiet _ _ _ cs _ _ _ c.passed.ensures (c.note.ensures ∙ sym (step-note _ _)) refl refl (λ some. ap (λ (g : Shape). g.values) (taken (leb 1 c.args.n && ltb c.args.n 6) (placed c.args.self.shape 0) _ c.note.ensures some).1))

pub returns : goal.returns
unfolding effect_of cell_effect kind_of
returns c =
    let h : c.args.k < 256 = search rules in let b = c.requires.body in
    let p = ne_eqb _ _ c.if-k-eq4.false in let q = ne_eqb _ _ c.if-k-eq10.false in let r = ne_eqb _ _ c.if-k-eq110.false in
    λ s cs v. makes _ _ _ cs _ _ _ c.push-2.ensures.machine (ltb c.args.n (cond (eqb c.args.k 5) 7 4)) 2 c.flag.ensures refl (step-flag _ _ h b p q r _) (no_end _ h (rw b refl)) _ _ c.push-2.ensures.values (λ t. rw (q, r) (ap Push (sym v)))
