use mathlib.Core.Path.{refl, ap, sym, ◌∙◌}
use mathlib.Core.Bool.{true, false}
use native.Mathlib.Omega.{arith}
use borrow.Author.Tests.{eq-eqb, ne_eqb}
use Rattle.strip.specs.Entry.{wide}
use Rattle.strip.specs.declared.shape.Shape.{Shape}
use Rattle.strip.proofs.EntryRead.{Turn, turn, halt}
use Rattle.reach.proofs.Bits.{zeros}
use Rattle.reach.proofs.Pass.{passing-begin, passing-stop, passing-refused, passing-done, passing-room, passing_step, refused-run}
use Rattle.reach.proofs.walk.pass.Goals as goal
use Rattle.reach.proofs.walk.pass.Goals.{In-Some}

-- what the entry that a turn has read says of the run
turned : (c : In-Some) → Turn wide c.args.run.now c.loop-at.at c.in-Some.e c.in-Some.n
turned c = turn _ _ _ _ c.loop-at-test.true c.read_entry.ensures _ _ c.in-Some.is

pub loop-at-init : goal.loop-at-init
loop-at-init c = (omega arith, rw (c.new-g.ensures, c.new-s.ensures, c.requires) (passing-begin _ _ _ refl (zeros 1500) refl))

pub returns-in_default : goal.returns-in_default
returns-in_default c = refused-run _ _ (passing-stop _ _ _ _ _ c.loop-at.invariant.1 (halt _ _ _ _ c.loop-at-test.true c.read_entry.ensures c.in_default.is))

pub entry-g-requires : goal.entry-g-requires
entry-g-requires c = (c.loop-at.invariant.1.ready, (turned (goal.at.entry-g-requires c).In-Some).body)

pub returns-then-g-eq0 : goal.returns-then-g-eq0
returns-then-g-eq0 c = refused-run _ _ (passing-refused _ _ _ _ _ c.loop-at.invariant.1 _ _ (turned (goal.at.returns-then-g-eq0 c).In-Some) (ap (λ (g : Shape). g.left) (sym c.entry-g.ensures) ∙ c.if-g-eq0.true))

pub step-requires : goal.step-requires
step-requires c = passing-room _ _ _ _ _ c.loop-at.invariant.1

pub overflow_add-at : goal.overflow_add-at
overflow_add-at c = omega (arith, (turned (goal.at.overflow_add-at c).In-Some).inside, c.well_formed.0.0)

pub loop-at-smaller : goal.loop-at-smaller
loop-at-smaller c = omega (arith, (turned (goal.at.loop-at-smaller c).In-Some).inside, (turned (goal.at.loop-at-smaller c).In-Some).forward)

pub loop-at-preserved : goal.loop-at-preserved
loop-at-preserved c = ((turned (goal.at.loop-at-preserved c).In-Some).inside, passing_step _ _ _ _ _ c.loop-at.invariant.1 _ _ (turned (goal.at.loop-at-preserved c).In-Some) _ _ c.step.ensures _ c.entry-g.ensures c.if-g-eq0.false)

pub returns-then-g-eq64 : goal.returns-then-g-eq64
returns-then-g-eq64 c = passing-done _ _ _ _ _ c.loop-at.invariant.1 c.loop-at-test.false true (eq-eqb _ 64 c.if-g-eq64.true)

pub returns-else-g-eq64 : goal.returns-else-g-eq64
returns-else-g-eq64 c = passing-done _ _ _ _ _ c.loop-at.invariant.1 c.loop-at-test.false false (ne_eqb _ 64 c.if-g-eq64.false)
