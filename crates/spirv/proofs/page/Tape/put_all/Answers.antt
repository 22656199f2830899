use Rattle.std.proofs.Common.{◌+◌, ◌∙◌, sym, ap, drop}
use Rattle.spirv.specs.declared.page.Tape.{Tape}
use Rattle.spirv.specs.Page.{puts}
use Rattle.spirv.proofs.Tapes.{puts-next, puts-end}
use Rattle.spirv.proofs.page.Tape.put_all.Goals as goal

pub loop-w-preserved : goal.loop-w-preserved
loop-w-preserved c = ap (λ (t : Tape). puts t (drop (c.loop-w.w-index + 1) c.args.words.now)) c.put.ensures ∙ puts-next _ _ _ c.loop-w-test.true ∙ c.loop-w.invariant

pub returns : goal.returns
returns c = sym (puts-end _ _ _ c.loop-w-test.false) ∙ c.loop-w.invariant
