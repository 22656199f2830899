use Rattle.std.proofs.Common.{◌+◌, ◌/◌, ◌^◌, ◌<◌, ◌≤◌, arith, rules, ne_eqb}
use Rattle.evaluation.specs.Word.{extract_word}
use Rattle.evaluation.proofs.Fields.{low_bits, extract-past, extract-unsigned, extract-low, extract-high}
use Rattle.evaluation.proofs.word.extract_word.Goals as goal

pub returns-then-not-in_word : goal.returns-then-not-in_word
returns-then-not-in_word c = let a = c.args in let h : 32 < a.o + a.n = search rules in extract-past _ _ _ _ h

pub nonzero_rem-v : goal.nonzero_rem-v
nonzero_rem-v c = let a = c.args in let h : a.o + a.n ≤ 32 = search rules in let l = low_bits (a.x / 2 ^ a.o) a.n (omega arith) in omega arith

pub overflow_cast-result : goal.overflow_cast-result
overflow_cast-result c = let a = c.args in let h : a.o + a.n ≤ 32 = search rules in let l = low_bits (a.x / 2 ^ a.o) a.n (omega arith) in omega arith

pub returns-then-k-eq91 : goal.returns-then-k-eq91
returns-then-k-eq91 c = let a = c.args in let h : a.o + a.n ≤ 32 = search rules in let l = low_bits (a.x / 2 ^ a.o) a.n (omega arith) in rw (c.if-k-eq91.true, l.is) (extract-unsigned _ _ _ h)

pub overflow_mul-v : goal.overflow_mul-v
overflow_mul-v c = let a = c.args in let h : a.o + a.n ≤ 32 = search rules in let l = low_bits (a.x / 2 ^ a.o) a.n (omega arith) in omega arith

pub overflow_cast-result-then-v-end : goal.overflow_cast-result-then-v-end
overflow_cast-result-then-v-end c = let a = c.args in let h : a.o + a.n ≤ 32 = search rules in let l = low_bits (a.x / 2 ^ a.o) a.n (omega arith) in omega arith

pub returns-then-v-end : goal.returns-then-v-end
unfolding extract_word
returns-then-v-end c = let a = c.args in let h : a.o + a.n ≤ 32 = search rules in let l = low_bits (a.x / 2 ^ a.o) a.n (omega arith) in rw (ne_eqb _ _ c.if-k-eq91.false, l.is) (extract-low _ _ _ h (omega arith))

pub overflow_sub-result : goal.overflow_sub-result
overflow_sub-result c = let a = c.args in let h : a.o + a.n ≤ 32 = search rules in let l = low_bits (a.x / 2 ^ a.o) a.n (omega arith) in omega arith

pub overflow_add-result : goal.overflow_add-result
overflow_add-result c = let a = c.args in let h : a.o + a.n ≤ 32 = search rules in let l = low_bits (a.x / 2 ^ a.o) a.n (omega arith) in omega arith

pub overflow_cast-result-else-v-end : goal.overflow_cast-result-else-v-end
overflow_cast-result-else-v-end c = let a = c.args in let h : a.o + a.n ≤ 32 = search rules in let l = low_bits (a.x / 2 ^ a.o) a.n (omega arith) in omega arith

pub returns-else-v-end : goal.returns-else-v-end
unfolding extract_word
returns-else-v-end c = let a = c.args in let h : a.o + a.n ≤ 32 = search rules in let l = low_bits (a.x / 2 ^ a.o) a.n (omega arith) in rw (ne_eqb _ _ c.if-k-eq91.false, l.is) (extract-high _ _ _ h (omega arith))
