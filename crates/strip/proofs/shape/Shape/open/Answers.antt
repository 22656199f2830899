use Rattle.strip.proofs.shape.Shape.open.Goals as goal

pub returns-then-has : goal.returns-then-has
returns-then-has c = rw (← c.has.ensures, c.if-has.true) c.opened.ensures

pub returns : goal.returns
returns c = rw (← c.has.ensures, c.if-has.false) c.refused.ensures
