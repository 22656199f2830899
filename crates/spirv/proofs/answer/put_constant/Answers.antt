use Rattle.spirv.proofs.answer.put_constant.Goals as goal

pub returns-in-Word : goal.returns-in-Word
returns-in-Word c = rw c.in-Word.is (rw (c.lent.ensures, c.from.ensures) at c.put_instr.ensures)

pub returns-in-True : goal.returns-in-True
returns-in-True c = rw c.in-True.is (rw c.lent-in-True.ensures at c.put_instr-in-True.ensures)

pub returns-in-False : goal.returns-in-False
returns-in-False c = rw c.in-False.is (rw c.lent-in-False.ensures at c.put_instr-in-False.ensures)
