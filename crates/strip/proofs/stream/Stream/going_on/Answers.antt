use mathlib.Core.Path.{◌≡◌, ap, sym, ◌∙◌}
use mathlib.Core.Logic.{inl, inr}
use mathlib.Core.List.{List}
use Prim.Native.Nat.{ℕ, ◌-◌, ◌≤◌}
use native.Mathlib.Omega.{arith}
use lib.ListN.{length, take, drop}
use lib.Seq.{length-take-le}
use Rattle.strip.specs.Pass.{Ready}
use Rattle.strip.specs.Stream.{pending, settled, walked_on, feed}
use Rattle.strip.proofs.EntryRead.{part-rest}
use Rattle.strip.proofs.Blocks.{going-is, feed-refused, feed-kept, past, feed-on}
use borrow.Author.Rules.{rules}
use Rattle.strip.proofs.stream.Stream.going_on.Goals as goal
use Rattle.strip.proofs.stream.Stream.going_on.Goals.{After-walk-first}

keeps : (c : After-walk-first) → (c.walk-first.result.shape.left ≡ 0 → ⊥) → c.walk-first.result.bytes ≡ 0 → (length (take c.join-n.result c.join-n.new.out) ≤ 8) × (settled c.args.self.layout c.walk-first.result (take c.join-n.result c.join-n.new.out) ≡ feed c.args.self c.args.block.now)
keeps c = feed-kept c.args.self c.requires c.args.block.now c.join-n.result c.join-n.ensures.count (take c.join-n.result c.join-n.new.out) c.join-n.ensures.front c.walk-first.result c.walk-first.ensures

count-is : (c : After-walk-first) → length (pending c.args.self) ≡ c.args.self.count
count-is c = let l : length c.args.self.kept ≡ 8 = search rules in let h = (going-is _ c.requires).few in length-take-le _ _ (omega arith)

passes : (c : After-walk-first) → (c.walk-first.result.shape.left ≡ 0 → ⊥) → (c.walk-first.result.bytes ≡ 0 → ⊥) → (c.args.self.count ≤ c.walk-first.result.bytes) × (c.walk-first.result.bytes - c.args.self.count ≤ length c.args.block.now) × (Ready c.walk-first.result.shape × (c.walk-first.result.bytes ≤ 9) × (c.walk-first.result.strips ≤ 9))
passes c z b = let p = past c.args.self c.requires c.args.block.now c.join-n.result c.join-n.ensures.count (take c.join-n.result c.join-n.new.out) c.join-n.ensures.front c.walk-first.result c.walk-first.ensures z b in let e = (count-is c) in (omega (arith, p.0), omega (arith, p.1), (p.2, p.3, p.4))

pub shared_ref_as_front-join : goal.shared_ref_as_front-join
shared_ref_as_front-join c = (going-is _ c.requires).few

pub walk-first-requires : goal.walk-first-requires
walk-first-requires c = (going-is _ c.requires).is_ready

pub settle-requires : goal.settle-requires
settle-requires c z = elim c.then-first-eq0.either [
  | inl e ↦ absurd (z e)
  | inr p ↦ (keeps (goal.at.settle-requires c).After-walk-first p.0 p.1).0
]

pub returns-then-first-eq0 : goal.returns-then-first-eq0
returns-then-first-eq0 c =
    let refused : c.walk-first.result.shape.left ≡ 0 → (rest : List ℕ) → settled c.args.self.layout c.walk-first.result rest ≡ feed c.args.self c.args.block.now = feed-refused c.args.self c.requires c.args.block.now c.join-n.result c.join-n.ensures.count (take c.join-n.result c.join-n.new.out) c.join-n.ensures.front c.walk-first.result c.walk-first.ensures in
    elim c.then-first-eq0.either [
      | inl e ↦ c.settle.ensures ∙ refused e _
      | inr p ↦ c.settle.ensures ∙ (keeps (goal.at.returns-then-first-eq0 c).After-walk-first p.0 p.1).1
    ]

pub overflow_sub-first : goal.overflow_sub-first
overflow_sub-first c = (passes (goal.at.overflow_sub-first c).After-walk-first c.if-first-eq0.false c.if-first-eq0-2.false).0

pub slice_bounds-walk_on-count : goal.slice_bounds-walk_on-count
slice_bounds-walk_on-count c = (passes (goal.at.slice_bounds-walk_on-count c).After-walk-first c.if-first-eq0.false c.if-first-eq0-2.false).1

pub slice_bounds-walk_on-start : goal.slice_bounds-walk_on-start
slice_bounds-walk_on-start c = (passes (goal.at.slice_bounds-walk_on-start c).After-walk-first c.if-first-eq0.false c.if-first-eq0-2.false).1

pub walk_on-requires : goal.walk_on-requires
walk_on-requires c = (passes (goal.at.walk_on-requires c).After-walk-first c.if-first-eq0.false c.if-first-eq0-2.false).2

pub returns : goal.returns
returns c =
    let on : (c.walk-first.result.shape.left ≡ 0 → ⊥) → (c.walk-first.result.bytes ≡ 0 → ⊥) → walked_on c.args.self.layout c.walk-first.result (drop (c.walk-first.result.bytes - c.args.self.count) c.args.block.now) ≡ feed c.args.self c.args.block.now = λ z b. ap (λ (n : ℕ). walked_on c.args.self.layout c.walk-first.result (drop (c.walk-first.result.bytes - n) c.args.block.now)) (sym (count-is (goal.at.returns c).After-walk-first)) ∙ feed-on c.args.self c.requires c.args.block.now c.join-n.result c.join-n.ensures.count (take c.join-n.result c.join-n.new.out) c.join-n.ensures.front c.walk-first.result c.walk-first.ensures z b in
    c.walk_on.ensures ∙ ap (λ (l : List ℕ). walked_on c.args.self.layout c.walk-first.result l) (part-rest c.args.block.now (c.walk-first.result.bytes - c.args.self.count)) ∙ on c.if-first-eq0.false c.if-first-eq0-2.false
