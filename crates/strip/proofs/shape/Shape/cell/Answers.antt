use mathlib.Core.Path.{◌≡◌}
use Prim.Native.Nat.{◌<◌}
use native.Mathlib.Omega.{arith}
use borrow.Author.Tests.{ne_eqb}
use Rattle.strip.proofs.EntryStep.{step-register, step-slot, step-note, step-flag}
use Rattle.std.proofs.Common.{rules}
use Rattle.strip.proofs.shape.Shape.cell.Goals as goal

pub returns-in-4 : goal.returns-in-4
returns-in-4 c = rw (c.in-4.is, step-register) c.register.ensures

pub returns-in-10 : goal.returns-in-10
returns-in-10 c = rw (c.in-10.is, step-slot) c.constant_slot.ensures

pub returns-in-110 : goal.returns-in-110
returns-in-110 c = rw (c.in-110.is, step-note) c.note.ensures

pub returns-in_default : goal.returns-in_default
returns-in_default c = let h : c.args.k < 256 = search rules in rw (step-flag _ _ h c.requires.1 (ne_eqb c.args.k 4 (λ (e : c.args.k ≡ 4). omega arith)) (ne_eqb c.args.k 10 (λ (e : c.args.k ≡ 10). omega arith)) (ne_eqb c.args.k 110 (λ (e : c.args.k ≡ 110). omega arith))) c.flag.ensures
