use Rattle.std.proofs.Common.{refl, arith}
use Rattle.check_run.proofs.Theorems.{brings, taken_is}
use Rattle.check_run.proofs.report.Check.take.Goals as goal

pub overflow_add-self : goal.overflow_add-self
overflow_add-self c = let b = brings c.args.self.now c.args.block.now _ c.feed-f.ensures in let p = c.requires in omega arith

pub overflow_add-self-2 : goal.overflow_add-self-2
overflow_add-self-2 c = let b = brings c.args.self.now c.args.block.now _ c.feed-f.ensures in let p = c.requires in omega arith

pub returns-clause-value : goal.returns-clause-value
returns-clause-value c = taken_is c.args.self.now c.args.block.now _ _ _ c.feed-f.ensures refl refl

pub returns-clause-passed_bound : goal.returns-clause-passed_bound
returns-clause-passed_bound c = let b = brings c.args.self.now c.args.block.now _ c.feed-f.ensures in let p = c.requires in (omega arith, omega arith)
