use Rattle.std.proofs.Common.{◌+◌, ◌<◌, ◌≤◌, arith, rules}
use Rattle.evaluation.proofs.Fields.{inserted-lt, insert-sum, insert-past, insert-within}
use Rattle.evaluation.proofs.word.insert_word.Goals as goal

pub returns-then-not-in_word : goal.returns-then-not-in_word
returns-then-not-in_word c = let a = c.args in let h : 32 < a.o + a.n = search rules in insert-past _ _ _ _ h

pub overflow_add-result : goal.overflow_add-result
overflow_add-result c = let a = c.args in let h : a.o + a.n ≤ 32 = search rules in omega (arith, insert-sum a.b a.v a.o a.n (omega arith) h, inserted-lt a.b a.v a.o a.n (omega arith) h)

pub overflow_cast-result-4 : goal.overflow_cast-result-4
overflow_cast-result-4 c = let a = c.args in let h : a.o + a.n ≤ 32 = search rules in omega (arith, insert-sum a.b a.v a.o a.n (omega arith) h, inserted-lt a.b a.v a.o a.n (omega arith) h)

pub returns : goal.returns
returns c = let a = c.args in let h : a.o + a.n ≤ 32 = search rules in rw (insert-sum a.b a.v a.o a.n (omega arith) h) (insert-within _ _ _ _ h)
