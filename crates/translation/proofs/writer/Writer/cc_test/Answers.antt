use Rattle.translation.specs.Helpers.{cc_test}
use Rattle.translation.proofs.Follow.{by_call, by-op, by-ret}
use Rattle.translation.proofs.writer.Writer.cc_test.Goals as goal

pub returns : goal.returns
unfolding cc_test
returns c = by-op c.cell-z.ensures (by-op c.cell-s.ensures (by-op c.cell-c.ensures (by-op c.cell-o.ensures (by-op c.two-lt.ensures (by_call c.cc_case.ensures by-ret)))))
