use Rattle.std.proofs.Common.{refl, ap, ◌∙◌, ne_eqb}
use Rattle.evaluation.specs.declared.value.Value.TheVariants.{Word}
use Rattle.evaluation.specs.Word.{binary_word}
use Rattle.evaluation.proofs.Words.{min-is, max-is}
use Rattle.evaluation.proofs.word.binary_word.Goals as goal

pub returns-in-40 : goal.returns-in-40
unfolding binary_word
returns-in-40 c = rw c.in-40.is refl

pub returns-in-41 : goal.returns-in-41
unfolding binary_word
returns-in-41 c = rw c.in-41.is refl

pub returns-in-42 : goal.returns-in-42
unfolding binary_word
returns-in-42 c = rw c.in-42.is refl

pub returns-in-43 : goal.returns-in-43
unfolding binary_word
returns-in-43 c = rw c.in-43.is c.shift_left.ensures

pub returns-in-44 : goal.returns-in-44
unfolding binary_word
returns-in-44 c = rw c.in-44.is c.shift_right.ensures

pub returns-in-45 : goal.returns-in-45
unfolding binary_word
returns-in-45 c = rw c.in-45.is c.shift_right_arithmetic.ensures

pub returns-in-46 : goal.returns-in-46
unfolding binary_word
returns-in-46 c = rw c.in-46.is

pub returns-in-47 : goal.returns-in-47
unfolding binary_word
returns-in-47 c = rw c.in-47.is

pub returns-in-48 : goal.returns-in-48
unfolding binary_word
returns-in-48 c = rw c.in-48.is

pub returns-in-49 : goal.returns-in-49
unfolding binary_word
returns-in-49 c = rw c.in-49.is (ap Word (c.min.ensures ∙ min-is _ _))

pub returns-in-50 : goal.returns-in-50
unfolding binary_word
returns-in-50 c = rw c.in-50.is (ap Word c.s_min.ensures)

pub returns-in-51 : goal.returns-in-51
unfolding binary_word
returns-in-51 c = rw c.in-51.is (ap Word (c.max.ensures ∙ max-is _ _))

pub returns-in-52 : goal.returns-in-52
unfolding binary_word
returns-in-52 c = rw c.in-52.is (ap Word c.s_max.ensures)

pub returns-in_default : goal.returns-in_default
unfolding binary_word
returns-in_default c = simp (ne_eqb _ _ c.in_default.in_default-own.rest.1, ne_eqb _ _ c.in_default.in_default-own.rest.0.1, ne_eqb _ _ c.in_default.in_default-own.rest.0.0.1, ne_eqb _ _ c.in_default.in_default-own.rest.0.0.0.1, ne_eqb _ _ c.in_default.in_default-own.rest.0.0.0.0.1, ne_eqb _ _ c.in_default.in_default-own.rest.0.0.0.0.0.1, ne_eqb _ _ c.in_default.in_default-own.rest.0.0.0.0.0.0.1, ne_eqb _ _ c.in_default.in_default-own.rest.0.0.0.0.0.0.0.1, ne_eqb _ _ c.in_default.in_default-own.rest.0.0.0.0.0.0.0.0.1, ne_eqb _ _ c.in_default.in_default-own.rest.0.0.0.0.0.0.0.0.0.1, ne_eqb _ _ c.in_default.in_default-own.rest.0.0.0.0.0.0.0.0.0.0.1, ne_eqb _ _ c.in_default.in_default-own.rest.0.0.0.0.0.0.0.0.0.0.0.1, ne_eqb _ _ c.in_default.in_default-own.rest.0.0.0.0.0.0.0.0.0.0.0.0.1)
