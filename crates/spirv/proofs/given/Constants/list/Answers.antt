use Rattle.std.proofs.Common.{◌≡◌, ◌<◌, false, map, length, take, sym, ◌∙◌, ap, rules, arith}
use Rattle.spirv.specs.Writer.{listed}
use Rattle.spirv.specs.Page.{constant}
use Rattle.spirv.proofs.Listed.{is-listed, not-listed, list-stays, list-grows, grown-place, constants-length}
use Rattle.spirv.proofs.given.Constants.list.Goals as goal
use Rattle.spirv.proofs.given.Constants.list.Goals.{In_default}

pub returns-in-Some-clause-listed : goal.returns-in-Some-clause-listed
returns-in-Some-clause-listed c = list-stays _ _ (is-listed _ _ _ c.in-Some.ensures.value).0

-- it is not yet listed, and there is room
full : (c : In_default) → length c.self.inside.list ≡ 64
full c = search rules

new : (c : In_default) → listed (map constant (take c.self.inside.count c.self.inside.list)) (constant c.args.k) ≡ false
new c = rw c.self.view_is (not-listed _ _ _ c.place_of.ensures.value c.in_default.not-Some)

count-is : (c : In_default) → length (map constant (take c.self.inside.count c.self.inside.list)) ≡ c.self.inside.count
count-is c = constants-length c.self.inside.count c.self.inside.list (omega (arith, full c, c.self.invariant))

room : (c : In_default) → c.self.inside.count < length c.self.inside.list
room c = omega (arith, full c, count-is c, ap length c.self.view_is, c.requires)

pub returns-clause-listed : goal.returns-clause-listed
returns-clause-listed c = let d = (goal.at.returns-clause-listed c).In_default in rw (← c.self.view_is) (list-grows _ _ _ (room d) (new d))

pub returns-clause-place : goal.returns-clause-place
returns-clause-place c =
    let d = (goal.at.returns-clause-place c).In_default in
    sym (count-is d) ∙ grown-place _ _ (new d) ∙ rw (list-grows _ _ _ (room d) (new d))
