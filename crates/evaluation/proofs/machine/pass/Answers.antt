use Rattle.std.specs.Prelude.{Some}
use Rattle.std.proofs.Common.{◌≡◌, [], sym, ◌∙◌, arith, length-drop}
use Rattle.strip.specs.Entry.{ref_length, read_entry}
use Rattle.strip.proofs.EntryRead.{Taken, found, part-rest}
use Rattle.strip.proofs.Pass.{ready-fresh}
use Rattle.evaluation.proofs.Progress.{holds-begin, stops, stops_at, goes_on, stops-open, finished, rest-undefined, rest-missing, rest-done}
use Rattle.evaluation.proofs.machine.pass.Goals as goal
use Rattle.evaluation.proofs.machine.pass.Goals.{In-Some}

-- what was read at the start of the rest
found-e : (c : In-Some) → read_entry (ref_length c.args.layout) c.loop-rest.rest.now ≡ Some (c.in-Some.e, c.in-Some.n)
found-e c = sym c.read_entry.ensures ∙ c.in-Some.is

taken : (c : In-Some) → Taken c.loop-rest.rest.now c.in-Some.e c.in-Some.n
taken c = found _ _ _ _ (found-e c)

pub loop-rest-init : goal.loop-rest-init
loop-rest-init c = let n = c.new-m.ensures in rw n (ready-fresh, holds-begin _ _ _ _ [])

pub returns-in_default : goal.returns-in_default
returns-in_default c = c.refused.ensures ∙ (stops _ _ _ _ _ _ _ _ c.loop-rest.invariant.1 (sym c.read_entry.ensures ∙ c.in_default.is) c.loop-rest-test.true)

pub step-m-requires : goal.step-m-requires
step-m-requires c = record { ready = c.loop-rest.invariant.0; body = (taken (goal.at.step-m-requires c).In-Some).body }

pub returns-then-m-eq0 : goal.returns-then-m-eq0
returns-then-m-eq0 c = c.refused-then-m-eq0.ensures ∙ (stops_at _ _ _ _ _ _ _ _ c.loop-rest.invariant.1 _ _ (found-e (goal.at.returns-then-m-eq0 c).In-Some) _ _ _ (c.step-m.ensures _ c.load-loaded.ensures) c.if-m-eq0.true)

pub slice_bounds-rest-count : goal.slice_bounds-rest-count
slice_bounds-rest-count c = (taken (goal.at.slice_bounds-rest-count c).In-Some).within

pub slice_bounds-rest-start : goal.slice_bounds-rest-start
slice_bounds-rest-start c = (taken (goal.at.slice_bounds-rest-start c).In-Some).within

pub loop-rest-smaller : goal.loop-rest-smaller
loop-rest-smaller c =
    let t = (taken (goal.at.loop-rest-smaller c).In-Some) in rw (part-rest, length-drop) (omega (arith, t.forward, t.within))

pub loop-rest-preserved : goal.loop-rest-preserved
loop-rest-preserved c = rw (c.step-state.ensures, c.operand-stored.ensures, part-rest) (goes_on _ _ _ _ _ _ _ _ c.loop-rest.invariant.1 _ _ (found-e (goal.at.loop-rest-preserved c).In-Some) _ _ _ (c.step-m.ensures _ c.load-loaded.ensures) c.loop-rest.invariant.0 c.if-m-eq0.false)

pub returns-then-m-ne64 : goal.returns-then-m-ne64
returns-then-m-ne64 c = c.refused-then-m-ne64.ensures ∙ (stops-open _ _ _ _ _ _ _ _ c.loop-rest.invariant.1 c.loop-rest-test.false c.if-m-ne64.true)

pub returns-in-Undefined : goal.returns-in-Undefined
returns-in-Undefined c = c.refused-in-Undefined.ensures ∙ (finished _ _ _ _ _ _ _ _ c.loop-rest.invariant.1 c.loop-rest-test.false c.if-m-ne64.false _ (rest-undefined c.loop-rest.m _ _ _ _ c.in-Undefined.is))

pub returns-in-Missing : goal.returns-in-Missing
returns-in-Missing c = c.refused-in-Missing.ensures ∙ (finished _ _ _ _ _ _ _ _ c.loop-rest.invariant.1 c.loop-rest-test.false c.if-m-ne64.false _ (rest-missing c.loop-rest.m _ _ _ _ _ _ _ c.in-Missing.is))

pub returns : goal.returns
returns c = finished _ _ _ _ _ _ _ _ c.loop-rest.invariant.1 c.loop-rest-test.false c.if-m-ne64.false _ (rest-done c.loop-rest.m _ _ _ _ c.in_default-status.not-Undefined c.in_default-status-2.not-Missing)
