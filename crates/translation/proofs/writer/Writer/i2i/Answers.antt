use mathlib.Core.Path.{◌≡◌}
use mathlib.Core.Bool.{◌&&◌}
use native.Mathlib.Omega.{arith}
use Rattle.translation.specs.Insn.{bit}
use Rattle.std.proofs.lemmas.Bool.Decides.{nat_tests}
use Rattle.translation.specs.Arms.{i2i}
use Rattle.translation.proofs.Follow.{by_call, by-ret}
use Rattle.translation.proofs.writer.Writer.i2i.Goals as goal

pub returns : goal.returns
unfolding i2i
returns c =
    let t : c.if-bit.absolute ≡ (bit c.args.i 49 && bit c.args.i 13) = grind (arith, nat_tests) in
    rw (← t) (rw (← c.bit-bit13.ensures) (rw (← c.bit-bit12.ensures) (rw (← c.bits8-size.ensures) (by_call c.src_b-b.ensures (rw (← c.bits8.ensures) (rw (← c.bits8-2.ensures) (by_call c.int_source-v.ensures (by_call c.absolute-v.ensures (rw (← c.bit-2.ensures) (by_call c.ineg-v.ensures (rw (← c.bit-3.ensures) (by_call c.saturate_if-v.ensures (by_call c.int_source-v-2.ensures (by_call c.set_d.ensures by-ret))))))))))))))
