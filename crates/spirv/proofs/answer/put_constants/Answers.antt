use Rattle.std.proofs.Common.{arith}
use Rattle.spirv.proofs.Tapes.{consts-next, consts-end}
use Rattle.spirv.proofs.answer.put_constants.Goals as goal

pub loop-k-init : goal.loop-k-init
loop-k-init c = (omega (arith, c.first-id.ensures.0), rw c.first-id.ensures.0)

pub overflow_add-id : goal.overflow_add-id
overflow_add-id c = record { fits = omega (arith, c.loop-k.invariant.0, c.first-id.ensures.0, c.first-id.ensures.1, c.constants-k-items.ensures.most, c.loop-k-test.true) }

pub loop-k-preserved : goal.loop-k-preserved
loop-k-preserved c = (omega (arith, c.loop-k.invariant.0), consts-next _ _ _ _ _ c.loop-k-test.true _ _ _ c.loop-k.invariant.1 c.put_constant.ensures)

pub returns : goal.returns
returns c = rw c.constants-k-items.ensures.same at (consts-end _ _ _ _ c.loop-k-test.false _ _ c.loop-k.invariant.1)
