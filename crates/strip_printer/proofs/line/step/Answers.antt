use Prim.Native.Nat.{◌+◌}
use mathlib.Core.Path.{◌≡◌, ap}
use native.Mathlib.Omega.{arith}
use Rattle.strip_printer.specs.declared.line.Printer.{Printer}
use Rattle.strip_printer.proofs.Blocks.{stands_on, stands-still}
use Rattle.strip_printer.proofs.line.step.Goals as goal

pub returns-then-p : goal.returns-then-p
returns-then-p c = let t = c.line in let i : t.result.index ≡ c.args.p.index + 1 = ap (λ (x : Printer). x.index) t.ensures.value.0 in
    record { by_index = (λ before d h. stands_on c.args.bytes.now before c.args.out.now c.args.p d h _ t.result c.if-p.true t.ensures.out_after t.ensures.value.0); at_bound = (t.ensures.value.1, omega (arith, i)) }

pub returns-else-p : goal.returns-else-p
returns-else-p c = record { by_index = (λ before d h. stands-still c.args.bytes.now before c.args.out.now c.args.p d h c.if-p.false); at_bound = (omega arith, omega arith) }
