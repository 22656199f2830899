use Rattle.translation.specs.Helpers.{cbuf_at}
use Rattle.translation.proofs.Follow.{by-op, by-ret}
use Rattle.translation.proofs.writer.Writer.cbuf_at.Goals as goal

pub returns : goal.returns
unfolding cbuf_at
returns c = by-op c.cell-var.ensures (by-op c.u-c4.ensures (by-op c.two-vec.ensures (by-op c.u-c2.ensures (by-op c.two-w.ensures (by-op c.u-c3.ensures (by-op c.two-comp.ensures (by-op c.u-zero.ensures (by-op c.four-ptr.ensures (by-op c.one.ensures by-ret)))))))))
