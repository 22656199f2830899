use Rattle.std.proofs.Common.{sym, ap, ◌∙◌, ne_eqb, rules}
use Rattle.evaluation.specs.declared.value.Value.TheVariants.{Word}
use Rattle.evaluation.specs.Word.{not_word, unary_word}
use Rattle.evaluation.proofs.Counts.{counted-ones, reversed-bits}
use Rattle.evaluation.proofs.word.unary_word.Goals as goal

pub returns-in-20 : goal.returns-in-20
unfolding unary_word not_word
returns-in-20 c = rw c.in-20.is

pub returns-in-21 : goal.returns-in-21
unfolding unary_word not_word
returns-in-21 c = rw c.in-21.is (ap Word (c.reverse_bits.ensures ∙ reversed-bits _))

pub returns-in-22 : goal.returns-in-22
unfolding unary_word not_word
returns-in-22 c = rw c.in-22.is (ap Word (sym (counted-ones 32 _ (search rules))))

pub returns-in-23 : goal.returns-in-23
unfolding unary_word not_word
returns-in-23 c = rw c.in-23.is

pub returns-in-24 : goal.returns-in-24
unfolding unary_word not_word
returns-in-24 c = rw c.in-24.is

pub returns-in-25 : goal.returns-in-25
unfolding unary_word not_word
returns-in-25 c = rw c.in-25.is (ap Word c.s_abs.ensures)

pub returns-in-26 : goal.returns-in-26
unfolding unary_word not_word
returns-in-26 c = rw c.in-26.is (ap Word c.find_s_msb.ensures)

pub returns-in-27 : goal.returns-in-27
unfolding unary_word not_word
returns-in-27 c = rw c.in-27.is (ap Word c.find_u_msb.ensures)

pub returns-in_default : goal.returns-in_default
unfolding unary_word not_word
returns-in_default c = simp (ne_eqb _ _ c.in_default.in_default-own.rest.1, ne_eqb _ _ c.in_default.in_default-own.rest.0.1, ne_eqb _ _ c.in_default.in_default-own.rest.0.0.1, ne_eqb _ _ c.in_default.in_default-own.rest.0.0.0.1, ne_eqb _ _ c.in_default.in_default-own.rest.0.0.0.0.1, ne_eqb _ _ c.in_default.in_default-own.rest.0.0.0.0.0.1, ne_eqb _ _ c.in_default.in_default-own.rest.0.0.0.0.0.0.1, ne_eqb _ _ c.in_default.in_default-own.rest.0.0.0.0.0.0.0.1)
