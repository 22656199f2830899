use mathlib.Core.Path.{◌≡◌, refl, sym, ◌∙◌}
use mathlib.Core.Bool.{Bool, true, false, ◌&&◌, true≢false, false≢true}
use Prim.Native.Nat.{◌+◌, ◌≤◌}
use native.Mathlib.Omega.{arith}
use Rattle.std.proofs.Common.{rules}
use Rattle.strip.specs.Pass.{made_of, values_mask}
use Rattle.strip.proofs.Pass.{ready-none, ready-full, ready_by}
use Rattle.strip.proofs.shape.Shape.ready.Goals as goal
use Rattle.strip.proofs.shape.Shape.ready.Goals.{then-self-eq0-via-then-self-eq0, then-self-eq0-via-else-self-eq0+then-self-gt64, then-self-eq0-via-else-self-eq0+else-self-gt64+then-self-n}

-- of tests in a row the last is asked where those before it hold
last-asked : (a b c : Bool) → a && b ≡ true → a && (b && c) ≡ c
last-asked true true c h = refl
last-asked true false c h = absurd (false≢true h)
last-asked false b c h = absurd (false≢true h)

not-asked : (a b c : Bool) → a && b ≡ false → a && (b && c) ≡ false
not-asked true true c h = absurd (true≢false h)
not-asked true false c h = refl
not-asked false b c h = refl

pub returns-then-self-eq0 : goal.returns-then-self-eq0
returns-then-self-eq0 c = elim c.then-self-eq0.branch [
  | then-self-eq0-via-then-self-eq0 w ↦ ready-none _ w.if-self-eq0.true
  | then-self-eq0-via-else-self-eq0+then-self-gt64 w ↦ ready-full _ (let l = w.if-self-gt64.true in omega arith)
  | then-self-eq0-via-else-self-eq0+else-self-gt64+then-self-n w ↦ ready-full _ (let l = w.if-self-n.true in omega arith)
]

pub returns-then-below-3 : goal.returns-then-below-3
unfolding values_mask
returns-then-below-3 c =
    let g = c.args.self in
    let first : c.if-below-2.value ≡ (made_of g 1 && made_of g 2) && made_of g 3 = search rules in
    let room : g.values + g.left ≤ 64 = omega arith in
    ready_by g c.if-self-eq0.false room _ _ refl (last-asked _ _ _ (sym first ∙ c.if-below-3.true) ∙ sym c.below-then-below-3.ensures)

pub returns-else-below-3 : goal.returns-else-below-3
unfolding values_mask
returns-else-below-3 c =
    let g = c.args.self in
    let first : c.if-below-2.value ≡ (made_of g 1 && made_of g 2) && made_of g 3 = search rules in
    let room : g.values + g.left ≤ 64 = omega arith in
    ready_by g c.if-self-eq0.false room _ _ refl (not-asked (made_of g 1 && made_of g 2) (made_of g 3) (made_of g 4) (sym first ∙ c.if-below-3.false) ∙ sym c.if-below-3.false)
