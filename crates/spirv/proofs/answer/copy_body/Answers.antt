use Rattle.std.proofs.Common.{map, take, sym, ◌∙◌, arith}
use Rattle.spirv.specs.Page.{settled}
use Rattle.spirv.proofs.Tapes.{copy_begin, copy-next, copy-end, settled-length, settled_at}
use Rattle.spirv.proofs.answer.copy_body.Goals as goal

pub loop-i-init : goal.loop-i-init
loop-i-init c = copy_begin (map (settled c.args.first) (take c.args.n c.args.buf.now)) _ c.args.at

pub loop-i-preserved : goal.loop-i-preserved
loop-i-preserved c = copy-next (map (settled c.args.first) (take c.args.n c.args.buf.now)) _ c.args.at _ c.loop-i.i _ (omega (arith, c.loop-i-test.true, settled-length c.args.first c.args.buf.now c.args.n (omega (arith, c.requires.1, c.requires.2)))) (c.settled.ensures ∙ sym (settled_at c.args.first c.args.buf.now c.args.n c.loop-i.i c.loop-i-test.true (omega (arith, c.requires.1, c.requires.2)))) c.loop-i.invariant

pub returns : goal.returns
returns c = copy-end (map (settled c.args.first) (take c.args.n c.args.buf.now)) _ c.args.at _ c.loop-i.i (omega (arith, c.loop-i-test.false, settled-length c.args.first c.args.buf.now c.args.n (omega (arith, c.requires.1, c.requires.2)))) c.loop-i.invariant
