use mathlib.Core.Path.{◌≡◌, refl, ◌∙◌}
use lib.ListN.{length}
use native.Mathlib.Omega.{arith}
use Rattle.translation.proofs.Stays.{Proper}
use Rattle.meaning.specs.Told.{refused_told, told}
use Rattle.meaning.proofs.Interpreting.{array-words, written-fits, refused-interpreted, written-interpreted}
use borrow.Author.Rules.{rules}
use Rattle.meaning.proofs.interpreter.interpret.Goals as goal

pub slice_bounds-evaluate-end : goal.slice_bounds-evaluate-end
unfolding told refused_told
slice_bounds-evaluate-end c = let t = c.translate-t in omega (arith, written-fits _ _ _ _ t.result refl t.ensures _ c.in-Ok.is)

pub returns-in-Ok : goal.returns-in-Ok
unfolding told refused_told
returns-in-Ok c =
    let proper : Proper c.args.constants.now c.args.state = let r = c.well_formed.1.0.1.1.0 in let f : length c.args.state.flags ≡ 4 = search rules in record { regs = array-words c.args.state.regs r.0 r.1.1; constants = λ n. omega (arith, c.shared_slice_known-2-1.given n); flags = f } in
    let t = c.translate-t in c.evaluate.ensures ∙ written-interpreted _ _ _ _ t.result refl t.ensures _ _ proper _ c.in-Ok.is

pub returns-in-Err : goal.returns-in-Err
unfolding told refused_told
returns-in-Err c = let t = c.translate-t in refused-interpreted _ _ _ _ t.result refl t.ensures _ _ _ c.in-Err.is
