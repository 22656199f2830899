use Rattle.spirv.specs.Writer.{const_id}
use Rattle.spirv.proofs.Listed.{is-listed}
use Rattle.spirv.proofs.given.Given.is_zero.Goals as goal

pub returns-in-Some : goal.returns-in-Some
unfolding const_id
returns-in-Some c = let h = is-listed _ _ _ c.in-Some.ensures.value in rw (← c.self.view_is, h.0, c.from.ensures, h.1)
