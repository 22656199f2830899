use Prim.Native.Nat.{◌<◌}
use borrow.Author.Rules.{rules}
use Rattle.translation.specs.Strip.{refusal_number}
use Rattle.strip_printer.proofs.Text.{one-digit}
use Rattle.strip_printer.proofs.line.digit.Goals as goal

pub overflow_cast-result : goal.overflow_cast-result
overflow_cast-result c = let h : refusal_number c.args.r < 10 = one-digit c.args.r in search (rules, h)

pub overflow_add-result : goal.overflow_add-result
overflow_add-result c = let h : refusal_number c.args.r < 10 = one-digit c.args.r in search (rules, h)
