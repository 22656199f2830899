use Rattle.std.specs.Prelude.{Some}
use Rattle.std.proofs.Common.{◌≡◌, sym, refl, ◌∙◌, arith, length-drop}
use Rattle.strip.specs.Entry.{wide, read_entry}
use Rattle.strip.proofs.EntryRead.{Taken, found, part-rest}
use Rattle.spirv.proofs.Surveys.{stops, runs-out}
use Rattle.spirv.proofs.Bodies.{none-left, some-left, turn-begins, turn-refused, turn-ends, turn-early, turn-goes}
use Rattle.spirv.proofs.pass.pass.Goals as goal
use Rattle.spirv.proofs.pass.pass.Goals.{In-Some}

-- what was read at the start of the rest
read : (c : In-Some) → read_entry wide c.loop-rest.rest.now ≡ Some (c.in-Some.e, c.in-Some.size)
read c = sym c.read_entry.ensures ∙ c.in-Some.is

taken : (c : In-Some) → Taken c.loop-rest.rest.now c.in-Some.e c.in-Some.size
taken c = found _ _ _ _ (read c)

pub loop-rest-init : goal.loop-rest-init
loop-rest-init c = rw c.new-shape.ensures (turn-begins _ _ _ c.requires)

pub returns-in_default : goal.returns-in_default
returns-in_default c = (stops _ _ _ _ c.loop-rest.invariant.going (sym c.read_entry.ensures ∙ c.in_default.is) (some-left _ c.loop-rest-test.ensures), refl)

pub enter-requires-clause-formed : goal.enter-requires-clause-formed
enter-requires-clause-formed c = (taken (goal.at.enter-requires-clause-formed c).In-Some).body

pub entry-shape-requires : goal.entry-shape-requires
entry-shape-requires c = (c.loop-rest.invariant.going.ready, (taken (goal.at.entry-shape-requires c).In-Some).body)

pub slice_bounds-rest-count : goal.slice_bounds-rest-count
slice_bounds-rest-count c = (taken (goal.at.slice_bounds-rest-count c).In-Some).within

pub slice_bounds-rest-start : goal.slice_bounds-rest-start
slice_bounds-rest-start c = (taken (goal.at.slice_bounds-rest-start c).In-Some).within

pub returns-then-shape-eq0 : goal.returns-then-shape-eq0
returns-then-shape-eq0 c = (turn-refused _ _ _ _ _ _ _ c.loop-rest.invariant _ _ (read (goal.at.returns-then-shape-eq0 c).In-Some) _ _ c.enter.ensures.listed c.enter.ensures.written (rw c.entry-shape.ensures at c.if-shape-eq0.true), refl)

pub returns-then-is_empty : goal.returns-then-is_empty
returns-then-is_empty c = turn-ends _ _ _ _ _ _ _ c.loop-rest.invariant _ _ (read (goal.at.returns-then-is_empty c).In-Some) _ _ c.enter.ensures.listed c.enter.ensures.written (rw c.entry-shape.ensures at c.if-shape-eq0.false) (rw c.entry-shape.ensures at c.if-shape-eq64.true) (rw part-rest at (none-left _ c.if-is_empty.ensures))

pub returns-else-is_empty : goal.returns-else-is_empty
returns-else-is_empty c = (turn-early _ _ _ _ _ _ _ c.loop-rest.invariant _ _ (read (goal.at.returns-else-is_empty c).In-Some) _ _ c.enter.ensures.listed c.enter.ensures.written (rw c.entry-shape.ensures at c.if-shape-eq0.false) (rw c.entry-shape.ensures at c.if-shape-eq64.true) (rw part-rest at (some-left _ c.if-is_empty.ensures)), refl)

pub loop-rest-smaller : goal.loop-rest-smaller
loop-rest-smaller c =
    let t = (taken (goal.at.loop-rest-smaller c).In-Some) in rw (part-rest, length-drop) (omega (arith, t.forward, t.within))

pub loop-rest-preserved : goal.loop-rest-preserved
loop-rest-preserved c = rw (part-rest, c.entry-shape.ensures) (turn-goes _ _ _ _ _ _ _ c.loop-rest.invariant _ _ (read (goal.at.loop-rest-preserved c).In-Some) _ _ c.enter.ensures.listed c.enter.ensures.written (rw c.entry-shape.ensures at c.if-shape-eq0.false) (rw c.entry-shape.ensures at c.if-shape-eq64.false))

pub returns : goal.returns
returns c = (runs-out _ _ _ _ c.loop-rest.invariant.going (none-left _ c.loop-rest-test.ensures), refl)
