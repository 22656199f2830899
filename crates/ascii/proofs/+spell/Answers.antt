use Rattle.std.proofs.Common.{length, ap, arith}
use Rattle.ascii.proofs.Text.{spelled_one, digit_more, length_more}
use Rattle.ascii.proofs.+spell.Goals as goal

pub returns-then-n-lt10-clause-out_after : goal.returns-then-n-lt10-clause-out_after
returns-then-n-lt10-clause-out_after t c = rw (spelled_one c.args.most c.args.n c.requires.most.0 c.if-n-lt10.true, c.glyph.ensures)

pub returns-then-n-lt10-clause-value : goal.returns-then-n-lt10-clause-value
returns-then-n-lt10-clause-value t c = omega (arith, ap length (spelled_one c.args.most c.args.n c.requires.most.0 c.if-n-lt10.true))

pub returns-clause-out_after : goal.returns-clause-out_after
returns-clause-out_after t c =
    digit_more c.args.most c.args.n c.glyph-2.result c.args.at c.spell-end.result c.args.out.now c.spell-end.new.out c.requires.most.0 c.if-n-lt10.false c.glyph-2.ensures c.spell-end.ensures.out_after c.spell-end.ensures.value.0

pub returns-clause-value : goal.returns-clause-value
returns-clause-value t c = omega (arith, length_more c.args.most c.args.n c.requires.most.0 c.if-n-lt10.false)
