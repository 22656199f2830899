use Rattle.std.proofs.Common.{◌<◌, true, sym, refl, ap, ◌∙◌, rules, ne_eqb}
use Rattle.strip.specs.Entry.{kind_of}
use Rattle.strip.specs.declared.shape.Shape.{Shape}
use Rattle.strip.proofs.EntryStep.{step-bare, step-close}
use Rattle.strip.proofs.Table.{bare-truth}
use Rattle.evaluation.specs.Machine.{effect_of, bare_effect}
use Rattle.evaluation.proofs.Progress.{closed-values, bare-push, quiet, makes}
use Rattle.evaluation.proofs.machine.Machine.bare.Goals as goal

pub returns-then-k-eq255 : goal.returns-then-k-eq255
unfolding effect_of bare_effect kind_of
returns-then-k-eq255 c = λ s cs. rw c.if-k-eq255.true (c.end.ensures _ s cs)

pub returns-then-k-eq101 : goal.returns-then-k-eq101
unfolding effect_of bare_effect kind_of
returns-then-k-eq101 c = let e = c.close.ensures in λ s cs. rw c.if-k-eq101.true (quiet _ _ _ cs s _ _ c.passed.ensures (e ∙ sym (step-close _)) refl refl (λ some. ap (λ (g : Shape). g.values) e ∙ closed-values _ (λ z. some (ap (λ (g : Shape). g.left) e ∙ z))))

pub returns : goal.returns
unfolding effect_of bare_effect kind_of
returns c = let h : c.args.k < 256 = search rules in let b = c.requires.body in let x = ne_eqb _ _ c.if-k-eq255.false in let y = ne_eqb _ _ c.if-k-eq101.false in λ s cs. makes _ _ _ cs s _ _ c.push.ensures.machine true 2 c.value.ensures refl (step-bare _ _ h b x y) x _ _ c.push.ensures.values (λ t. bare-push c.args.k (bare-truth _ h b x y))
