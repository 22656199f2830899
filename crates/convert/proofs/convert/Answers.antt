use mathlib.Core.Path.{ap}
use mathlib.Core.Bool.{false≢true}
use lib.ListN.{length}
use Rattle.convert.proofs.Converts.{refused-shape, refused-room, asks, room-kept, accepted}
use Rattle.convert.proofs.convert.Goals as goal

pub pass-requires : goal.pass-requires
pass-requires c = λ t. absurd (false≢true t)

pub shape_of-out-in_default : goal.shape_of-out-in_default
shape_of-out-in_default c = ap length c.pass.ensures.list

pub returns-in_default : goal.returns-in_default
returns-in_default c = refused-shape c.args.layout _ _ _ _ (rw c.other-to.ensures at c.pass.ensures) c.in_default.is

pub shape_of-out-then-out-n : goal.shape_of-out-then-out-n
shape_of-out-then-out-n c = ap length c.pass.ensures.list

pub returns-then-out-n : goal.returns-then-out-n
returns-then-out-n c = refused-room c.args.layout _ _ _ _ (rw c.other-to.ensures at c.pass.ensures) _ c.in-Some.is c.if-out-n.true

pub pass-requires-2 : goal.pass-requires-2
pass-requires-2 c = λ _. rw c.other-to.ensures (asks c.args.layout _ _ _ _ (rw c.other-to.ensures at c.pass.ensures) _ c.in-Some.is c.if-out-n.false)

pub shape_of-out : goal.shape_of-out
shape_of-out c = room-kept c.args.layout _ _ _ _ (rw c.other-to.ensures at c.pass.ensures) _ c.in-Some.is c.if-out-n.false _ _ (rw c.other-to.ensures at c.pass-2.ensures)

pub returns : goal.returns
returns c = accepted c.args.layout _ _ _ _ (rw c.other-to.ensures at c.pass.ensures) _ c.in-Some.is c.if-out-n.false _ _ (rw c.other-to.ensures at c.pass-2.ensures)
