use Rattle.std.proofs.Common.{arith}
use Rattle.spirv.proofs.Tapes.{instr-put}
use Rattle.spirv.proofs.page.Tape.put_instr.Goals as goal

pub returns : goal.returns
returns c = instr-put _ _ _ _ _ _ _ _ (omega (arith, c.from.ensures)) c.put.ensures c.put_all.ensures c.put_all-2.ensures
