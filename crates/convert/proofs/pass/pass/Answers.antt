use Rattle.std.specs.Prelude.{Some}
use Prim.Native.Nat.{ℕ, ◌+◌, ◌*◌, ◌≤◌}
use mathlib.Core.Path.{◌≡◌, ap, ◌∙◌, sym}
use native.Mathlib.Omega.{arith}
use lib.ListN.{length, length-drop}
use Rattle.std.proofs.Common.{rules}
use Rattle.strip.specs.declared.format.Layout.{Layout}
use Rattle.strip.specs.declared.format.Layout.TheVariants.{Wide, Narrow}
use Rattle.strip.specs.Entry.{ref_length, read_entry}
use Rattle.strip.proofs.EntryRead.{Taken, found, part-rest}
use Rattle.convert.proofs.Turns.{length-turned}
use Rattle.convert.proofs.Passes.{holds-begin, stops, room, in-range, stops_at, goes_on, stops-open, finished}
use Rattle.convert.proofs.pass.pass.Goals as goal
use Rattle.convert.proofs.pass.pass.Goals.{In-Some}

-- what was read at the start of the rest
found-e : (c : In-Some) → read_entry (ref_length c.args.from) c.loop-rest.rest.now ≡ Some (c.in-Some.e, c.in-Some.n)
found-e c = sym c.read_entry.ensures ∙ c.in-Some.is

taken : (c : In-Some) → Taken c.loop-rest.rest.now c.in-Some.e c.in-Some.n
taken c = found _ _ _ _ (found-e c)

-- a reference of the one layout takes twice the bytes of the other's at most
twice : (from to : Layout) → ref_length to ≤ 2 * ref_length from
twice Wide Wide = omega arith
twice Wide Narrow = omega arith
twice Narrow Wide = omega arith
twice Narrow Narrow = omega arith

pub loop-rest-init : goal.loop-rest-init
loop-rest-init c = rw c.new-g.ensures (holds-begin _ _ _ _ _)

pub shape_of-out-in_default : goal.shape_of-out-in_default
shape_of-out-in_default c = c.loop-rest.invariant.kept

pub returns-in_default : goal.returns-in_default
returns-in_default c = stops _ _ (twice c.args.from c.args.to) _ _ _ c.requires _ _ _ _ c.loop-rest.invariant (sym c.read_entry.ensures ∙ c.in_default.is) (let e : 1 ≤ length c.loop-rest.rest.now = search rules in e)

pub overflow_add-next : goal.overflow_add-next
overflow_add-next c = omega (arith, in-range _ _ (twice c.args.from c.args.to) _ _ _ c.requires _ _ _ _ c.loop-rest.invariant _ _ (found-e (goal.at.overflow_add-next c).In-Some), c.well_formed.0.1, c.entry_length.ensures)

pub turn-g-requires : goal.turn-g-requires
turn-g-requires c = (c.loop-rest.invariant.ready, (taken (goal.at.turn-g-requires c).In-Some).body, room _ _ (twice c.args.from c.args.to) _ _ _ c.requires _ _ _ _ c.loop-rest.invariant _ _ (found-e (goal.at.turn-g-requires c).In-Some))

pub shape_of-out-then-g-eq0 : goal.shape_of-out-then-g-eq0
shape_of-out-then-g-eq0 c = length-turned c.turn-g.ensures ∙ c.loop-rest.invariant.kept

pub returns-then-g-eq0 : goal.returns-then-g-eq0
returns-then-g-eq0 c = stops_at _ _ (twice c.args.from c.args.to) _ _ _ c.requires _ _ _ _ c.loop-rest.invariant _ _ (found-e (goal.at.returns-then-g-eq0 c).In-Some) _ _ c.turn-g.ensures c.if-g-eq0.true

pub slice_bounds-rest-count : goal.slice_bounds-rest-count
slice_bounds-rest-count c = (taken (goal.at.slice_bounds-rest-count c).In-Some).within

pub slice_bounds-rest-start : goal.slice_bounds-rest-start
slice_bounds-rest-start c = (taken (goal.at.slice_bounds-rest-start c).In-Some).within

pub loop-rest-smaller : goal.loop-rest-smaller
loop-rest-smaller c =
    let t = (taken (goal.at.loop-rest-smaller c).In-Some) in rw (part-rest, length-drop) (omega (arith, t.forward, t.within))

pub loop-rest-preserved : goal.loop-rest-preserved
loop-rest-preserved c = rw part-rest (goes_on _ _ (twice c.args.from c.args.to) _ _ _ c.requires _ _ _ _ c.loop-rest.invariant _ _ (found-e (goal.at.loop-rest-preserved c).In-Some) _ _ c.turn-g.ensures _ (ap (λ (n : ℕ). c.loop-rest.at + n) c.entry_length.ensures) c.if-g-eq0.false)

pub shape_of-out-then-g-eq64 : goal.shape_of-out-then-g-eq64
shape_of-out-then-g-eq64 c = c.loop-rest.invariant.kept

pub returns-then-g-eq64 : goal.returns-then-g-eq64
returns-then-g-eq64 c = finished _ _ (twice c.args.from c.args.to) _ _ _ c.requires _ _ _ _ c.loop-rest.invariant (let e : length c.loop-rest.rest.now ≤ 0 = search rules in e) c.if-g-eq64.true

pub shape_of-out : goal.shape_of-out
shape_of-out c = c.loop-rest.invariant.kept

pub returns : goal.returns
returns c = stops-open _ _ (twice c.args.from c.args.to) _ _ _ c.requires _ _ _ _ c.loop-rest.invariant (let e : length c.loop-rest.rest.now ≤ 0 = search rules in e) c.if-g-eq64.false
