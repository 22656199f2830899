use mathlib.Core.Path.{ap, ◌∙◌, sym}
use borrow.Author.Rules.{rules}
use Rattle.reach.specs.Reach.{answer_of, reach_answer}
use Rattle.reach.proofs.ListedCells.{outcome-ok, outcome-err, refused, answered}
use Rattle.reach.proofs.walk.reach.Goals as goal

pub returns-then-is_ok : goal.returns-then-is_ok
unfolding reach_answer
returns-then-is_ok c =
    let p = c.pass-outcome.ensures in
    let ok = sym c.is_ok.ensures.value ∙ c.if-is_ok.true in
    rw (outcome-ok _ ok, c.list.ensures, c.collect.ensures)
    (ap answer_of (answered _ _ (record { regs = search rules; preds = search rules; flags = search rules; slots = search rules }) (sym p.shape ∙ ok) _ (p.holds ok)))

pub returns-else-is_ok : goal.returns-else-is_ok
unfolding reach_answer
returns-else-is_ok c =
    let no = sym c.is_ok.ensures.value ∙ c.if-is_ok.false in
    rw (outcome-err _ no) (ap answer_of (refused _ _ (sym c.pass-outcome.ensures.shape ∙ no)))
