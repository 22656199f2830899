use Rattle.std.specs.Prelude.{Some}
use mathlib.Core.Path.{◌≡◌, ◌∙◌, ap, sym}
use native.Mathlib.Omega.{arith}
use Prim.Native.Nat.{◌≤◌}
use lib.ListN.{length, length-drop}
use Rattle.std.proofs.Common.{rules}
use Rattle.strip.specs.declared.shape.Shape.{Shape}
use Rattle.strip.specs.Entry.{ref_length, read_entry}
use Rattle.strip.specs.Pass.{stepped}
use Rattle.strip.specs.Steps.{walk}
use Rattle.strip.proofs.EntryRead.{Taken, found, part-rest}
use Rattle.strip.proofs.Steps.{end-of-few, end-of-is, walking_start, walking-stop, walking-end, walking-refused, walking_on}
use Rattle.strip.proofs.shape.walk.Goals as goal
use Rattle.strip.proofs.shape.walk.Goals.{After-copied-g, In-Some}

-- the loop begins with the state that is given
given : (c : After-copied-g) → walk (ref_length c.args.layout) c.copied-g.result c.args.part.now ≡ walk (ref_length c.args.layout) c.args.start c.args.part.now
given c = ap (λ (g : Shape). walk (ref_length c.args.layout) g c.args.part.now) c.copied-g.ensures

-- what was read at the start of the rest
found-e : (c : In-Some) → read_entry (ref_length c.args.layout) c.loop-rest.rest.now ≡ Some (c.in-Some.e, c.in-Some.n)
found-e c = sym c.read_entry.ensures ∙ c.in-Some.is

taken : (c : In-Some) → Taken c.loop-rest.rest.now c.in-Some.e c.in-Some.n
taken c = found _ _ _ _ (found-e c)

pub loop-rest-init : goal.loop-rest-init
loop-rest-init c = walking_start _ _ _ (rw c.copied-g.ensures c.requires)

pub overflow_sub-result : goal.overflow_sub-result
overflow_sub-result c = c.loop-rest.invariant.within

pub returns-in_default : goal.returns-in_default
returns-in_default c = walking-stop _ _ _ _ _ _ c.loop-rest.invariant (sym c.read_entry.ensures ∙ c.in_default.is) _ c.unless_unknown.ensures ∙ (given (goal.at.returns-in_default c).After-copied-g)

pub entry-g-requires : goal.entry-g-requires
entry-g-requires c = (c.loop-rest.invariant.is_ready, (taken (goal.at.entry-g-requires c).In-Some).body)

pub overflow_sub-result-then-g-eq0 : goal.overflow_sub-result-then-g-eq0
overflow_sub-result-then-g-eq0 c = c.loop-rest.invariant.within

pub returns-then-g-eq0 : goal.returns-then-g-eq0
returns-then-g-eq0 c = rw c.refused.ensures (walking-refused _ _ _ _ _ _ c.loop-rest.invariant _ _ (found-e (goal.at.returns-then-g-eq0 c).In-Some) (ap (λ (g : Shape). g.left) (sym c.entry-g.ensures) ∙ c.if-g-eq0.true) ∙ (given (goal.at.returns-then-g-eq0 c).After-copied-g))

pub overflow_add-strips : goal.overflow_add-strips
overflow_add-strips c =
    let i = c.loop-rest.invariant in let t = (taken (goal.at.overflow_add-strips c).In-Some) in let k = c.shared_slice_known-1 in let o = end-of-few c.in-Some.e in let r = c.end_of-strips.ensures in omega (arith, i.few, i.within, t.forward, t.within)

pub slice_bounds-rest-count : goal.slice_bounds-rest-count
slice_bounds-rest-count c = (taken (goal.at.slice_bounds-rest-count c).In-Some).within

pub slice_bounds-rest-start : goal.slice_bounds-rest-start
slice_bounds-rest-start c = (taken (goal.at.slice_bounds-rest-start c).In-Some).within

pub loop-rest-smaller : goal.loop-rest-smaller
loop-rest-smaller c =
    let t = (taken (goal.at.loop-rest-smaller c).In-Some) in rw (part-rest, length-drop) (omega (arith, t.forward, t.within))

pub loop-rest-preserved : goal.loop-rest-preserved
loop-rest-preserved c =
    let left-some : (stepped c.loop-rest.g c.in-Some.e).left ≡ 0 → ⊥ = λ z. c.if-g-eq0.false (ap (λ (g : Shape). g.left) c.entry-g.ensures ∙ z) in
    rw (part-rest, c.end_of-strips.ensures ∙ end-of-is _ c.loop-rest.invariant.is_ready _ (taken (goal.at.loop-rest-preserved c).In-Some).body left-some, c.entry-g.ensures) (walking_on _ _ _ _ _ _ c.loop-rest.invariant _ _ (found-e (goal.at.loop-rest-preserved c).In-Some) left-some)

pub returns : goal.returns
returns c = walking-end _ _ _ _ _ _ c.loop-rest.invariant (let e : length c.loop-rest.rest.now ≤ 0 = search rules in e) ∙ (given (goal.at.returns c).After-copied-g)
