use mathlib.Core.Path.{◌≡◌, ap, ap₂, ◌∙◌}
use mathlib.Core.List.{List}
use Prim.Native.Nat.{ℕ, ◌≤◌}
use native.Mathlib.Omega.{arith}
use lib.ListN.{length, drop}
use Rattle.strip.specs.declared.shape.Walked.{Walked}
use Rattle.strip.specs.Entry.{ref_length}
use Rattle.strip.specs.Steps.{ahead, walk}
use Rattle.strip.specs.Stream.{settled}
use Rattle.strip.proofs.EntryRead.{part-rest}
use Rattle.strip.proofs.Steps.{walk-within, walk-few}
use Rattle.strip.proofs.Blocks.{kept-few}
use Rattle.strip.proofs.stream.walk_on.Goals as goal
use Rattle.strip.proofs.stream.walk_on.Goals.{After-walk-second}

-- what the walk over the rest passes
within : (c : After-walk-second) → c.walk-second.result.bytes ≤ length c.args.rest.now
within c = let e : c.walk-second.result.bytes ≡ (walk (ref_length c.args.layout) c.args.first.shape c.args.rest.now).bytes = ap (λ (v : Walked). v.bytes) c.walk-second.ensures in let h = walk-within (ref_length c.args.layout) c.args.first.shape c.requires.0 c.args.rest.now in omega arith

pub walk-second-requires : goal.walk-second-requires
walk-second-requires c = c.requires.0

pub overflow_add-w : goal.overflow_add-w
overflow_add-w c =
    let h = (within (goal.at.overflow_add-w c).After-walk-second) in let k = c.requires in let l = c.shared_slice_known-1 in omega arith

pub overflow_add-w-2 : goal.overflow_add-w-2
overflow_add-w-2 c =
    let few : c.walk-second.result.strips ≤ c.walk-second.result.bytes = rw c.walk-second.ensures (walk-few (ref_length c.args.layout) c.args.first.shape c.requires.0 c.args.rest.now) in
    let h = (within (goal.at.overflow_add-w-2 c).After-walk-second) in let j = few in let k = c.requires in let l = c.shared_slice_known-1 in omega arith

pub slice_bounds-settle-count : goal.slice_bounds-settle-count
slice_bounds-settle-count c = (within (goal.at.slice_bounds-settle-count c).After-walk-second)

pub slice_bounds-settle-start : goal.slice_bounds-settle-start
slice_bounds-settle-start c = (within (goal.at.slice_bounds-settle-start c).After-walk-second)

pub settle-requires : goal.settle-requires
settle-requires c z =
    let kept : (c.walk-second.result.shape.left ≡ 0 → ⊥) → length (drop c.walk-second.result.bytes c.args.rest.now) ≤ 8 = λ z. let h = kept-few c.args.layout c.args.first.shape c.requires.0 c.args.rest.now (λ q. z (ap (λ (v : Walked). v.shape.left) c.walk-second.ensures ∙ q)) in rw c.walk-second.ensures h in
    rw (part-rest) (kept z)

pub returns : goal.returns
returns c = c.settle.ensures ∙ ap₂ (λ (v : Walked) (l : List ℕ). settled c.args.layout (ahead c.args.first.bytes c.args.first.strips v) l) c.walk-second.ensures (part-rest c.args.rest.now c.walk-second.result.bytes ∙ ap (λ (v : Walked). drop v.bytes c.args.rest.now) c.walk-second.ensures)
