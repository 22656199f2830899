use Rattle.std.proofs.Common.{not, ap, ne_eqb}
use Rattle.evaluation.specs.Word.{compare_word}
use Rattle.evaluation.proofs.word.compare_word.Goals as goal

pub returns-in-60 : goal.returns-in-60
unfolding compare_word
returns-in-60 c = rw c.in-60.is

pub returns-in-61 : goal.returns-in-61
unfolding compare_word
returns-in-61 c = rw c.in-61.is

pub returns-in-62 : goal.returns-in-62
unfolding compare_word
returns-in-62 c = rw c.in-62.is

pub returns-in-63 : goal.returns-in-63
unfolding compare_word
returns-in-63 c = rw c.in-63.is

pub returns-in-64 : goal.returns-in-64
unfolding compare_word
returns-in-64 c = rw c.in-64.is

pub returns-in-65 : goal.returns-in-65
unfolding compare_word
returns-in-65 c = rw c.in-65.is

pub returns-in-66 : goal.returns-in-66
unfolding compare_word
returns-in-66 c = rw c.in-66.is c.s_less.ensures

pub returns-in-67 : goal.returns-in-67
unfolding compare_word
returns-in-67 c = rw c.in-67.is (ap not c.s_less-in-67.ensures)

pub returns-in-68 : goal.returns-in-68
unfolding compare_word
returns-in-68 c = rw c.in-68.is c.s_less-in-68.ensures

pub returns-in_default : goal.returns-in_default
unfolding compare_word
returns-in_default c = simp (ne_eqb _ _ c.in_default.in_default-own.rest.1, ne_eqb _ _ c.in_default.in_default-own.rest.0.1, ne_eqb _ _ c.in_default.in_default-own.rest.0.0.1, ne_eqb _ _ c.in_default.in_default-own.rest.0.0.0.1, ne_eqb _ _ c.in_default.in_default-own.rest.0.0.0.0.1, ne_eqb _ _ c.in_default.in_default-own.rest.0.0.0.0.0.1, ne_eqb _ _ c.in_default.in_default-own.rest.0.0.0.0.0.0.1, ne_eqb _ _ c.in_default.in_default-own.rest.0.0.0.0.0.0.0.1, ne_eqb _ _ c.in_default.in_default-own.rest.0.0.0.0.0.0.0.0.1) (ap not c.s_less-in_default.ensures)
