use mathlib.Core.Path.{◌≡◌}
use mathlib.Core.Bool.{false, ◌&&◌}
use native.Mathlib.Omega.{arith}
use lib.Dec.{eqb}
use Rattle.std.proofs.lemmas.Bool.Decides.{nat_tests}
use borrow.Author.Tests.{eq-eqb}
use Rattle.translation.specs.Helpers.{src_bc}
use Rattle.translation.proofs.Follow.{by_call, by-no, by-ret, by-yes}
use Rattle.translation.proofs.writer.Writer.src_bc.Goals as goal

pub returns-then-swap : goal.returns-then-swap
unfolding src_bc
returns-then-swap c = record { is = λ k a n q. by-yes (rw (eq-eqb _ _ c.if-i-eq1.true) c.if-swap.true) (rw (← c.rc.ensures) (by_call c.r-b.ensures (by_call c.cbuf_imm-c.ensures (by_call q by-ret)))) }

pub returns-else-i-eq1 : goal.returns-else-i-eq1
unfolding src_bc
returns-else-i-eq1 c =
    let t : eqb c.args.i.form 1 && c.args.swap ≡ false = grind (arith, nat_tests) in
    record { is = λ k a n q. by-no t (rw (← c.rc-else-i-eq1.ensures) (by_call c.src_b-b.ensures (by_call c.r-c.ensures (by_call q by-ret)))) }
