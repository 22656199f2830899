use Rattle.evaluation.proofs.word.s_max.Goals as goal

pub returns-then-s_less : goal.returns-then-s_less
returns-then-s_less c = rw (← c.s_less.ensures, c.if-s_less.true)

pub returns-else-s_less : goal.returns-else-s_less
returns-else-s_less c = rw (← c.s_less.ensures, c.if-s_less.false)
