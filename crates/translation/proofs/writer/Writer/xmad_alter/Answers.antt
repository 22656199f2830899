use mathlib.Core.Path.{refl}
use native.Mathlib.Omega.{arith}
use borrow.Author.Tests.{ne_eqb}
use Rattle.translation.specs.Arms.{xmad_alter}
use Rattle.translation.proofs.Follow.{by-act, by-no, by-op, by-ret, by-yes}
use Rattle.translation.proofs.writer.Writer.xmad_alter.Goals as goal

pub returns-in-1 : goal.returns-in-1
unfolding xmad_alter
returns-in-1 c = rw c.in-1.is (by-yes refl (by-op c.u-m.ensures (by-op c.two.ensures by-ret)))

pub returns-in-2 : goal.returns-in-2
unfolding xmad_alter
returns-in-2 c = rw c.in-2.is (by-no refl (by-yes refl (by-op c.two-in-2.ensures by-ret)))

pub returns-in-4 : goal.returns-in-4
unfolding xmad_alter
returns-in-4 c = rw c.in-4.is (by-no refl (by-no refl (by-yes refl (by-op c.two-bs.ensures (by-op c.two-in-4.ensures by-ret)))))

pub returns-in-3 : goal.returns-in-3
unfolding xmad_alter
returns-in-3 c = rw c.in-3.is (by-no refl (by-no refl (by-no refl (by-yes refl (by-act c.note.ensures by-ret)))))

pub returns-in_default : goal.returns-in_default
unfolding xmad_alter
returns-in_default c = by-no (ne_eqb c.args.mode 1 (omega arith)) (by-no (ne_eqb c.args.mode 2 (omega arith)) (by-no (ne_eqb c.args.mode 4 (omega arith)) (by-no (ne_eqb c.args.mode 3 (omega arith)) (by-ret))))
