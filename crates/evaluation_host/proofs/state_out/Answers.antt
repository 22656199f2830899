use mathlib.Core.Path.{◌≡◌, sym, ◌∙◌}
use native.Mathlib.Omega.{arith}
use lib.ListN.{length}
use Rattle.evaluation_host.proofs.StateLists.{truths-written}
use borrow.Author.Rules.{rules}
use Rattle.evaluation_host.proofs.state_out.Goals as goal

pub copy_from_slice-requires : goal.copy_from_slice-requires
copy_from_slice-requires c = let e : length c.args.state.regs ≡ 255 = search rules in c.requires.0 ∙ sym e

pub write_truths-requires : goal.write_truths-requires
write_truths-requires c = let e : length c.args.state.preds ≡ 7 = search rules in omega (arith, e, c.requires.1)

pub write_truths-requires-2 : goal.write_truths-requires-2
write_truths-requires-2 c = let f : length c.args.state.flags ≡ 4 = search rules in omega (arith, f, c.requires.1)

pub returns : goal.returns
returns c = let p : length c.args.state.preds ≡ 7 = search rules in let f : length c.args.state.flags ≡ 4 = search rules in
    (c.copy_from_slice.ensures.after, truths-written c.args.state c.args.truths.now p f c.requires.1 c.write_truths.ensures c.write_truths-2.ensures)
