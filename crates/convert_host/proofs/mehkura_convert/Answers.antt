use Rattle.std.specs.Prelude.{Ok}
use mathlib.Core.Path.{◌∙◌, sym}
use Rattle.convert.specs.Convert.{number_of, length_of}
use Rattle.convert_host.proofs.Answers.{no-layout, told, refused}
use Rattle.convert_host.proofs.mehkura_convert.Goals as goal

pub returns-in_default : goal.returns-in_default
returns-in_default c = no-layout _ _ _ _ (sym c.try_from.ensures ∙ c.in_default.is)

pub returns-in-Ok-convert : goal.returns-in-Ok-convert
unfolding number_of length_of
returns-in-Ok-convert c = told _ _ _ _ c.in-Ok.l _ (Ok _) _ (sym c.try_from.ensures ∙ c.in-Ok.is) c.in-Ok-convert.is c.convert.ensures

pub returns-in-Err : goal.returns-in-Err
returns-in-Err c = rw c.from.ensures (refused _ _ _ _ c.in-Ok.l c.in-Err.r _ _ (sym c.try_from.ensures ∙ c.in-Ok.is) c.in-Err.is c.convert.ensures)
