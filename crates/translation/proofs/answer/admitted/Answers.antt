use mathlib.Core.Path.{sym, ◌∙◌}
use Rattle.translation.proofs.Decided.{error}
use Rattle.translation.proofs.Refusals.{short, unknown, read}
use Rattle.translation.proofs.answer.admitted.Goals as goal

pub returns-then-bytes-ne18 : goal.returns-then-bytes-ne18
returns-then-bytes-ne18 c = short c.args.bytes.now c.if-bytes-ne18.true

pub returns-in_err-kind : goal.returns-in_err-kind
returns-in_err-kind c = let h = c.in_err-kind.ensures in rw (error c.from_residual.result c.in_err-kind.field-0.0 c.from_residual.ensures.1, h.0) (unknown c.args.bytes.now c.if-bytes-ne18.false h.1)

pub returns-in_err-admit : goal.returns-in_err-admit
returns-in_err-admit c =
    rw (error c.from_residual-in_err-admit.result c.in_err-admit.field-0.0 c.from_residual-in_err-admit.ensures.1)
    (read c.args.bytes.now _ _ c.if-bytes-ne18.false c.in_ok-kind.ensures (rw (c.word_at.ensures, c.word_at-2.ensures)) ∙ sym c.in_err-admit.ensures)

pub returns : goal.returns
returns c = (read c.args.bytes.now _ _ c.if-bytes-ne18.false c.in_ok-kind.ensures (rw (c.word_at.ensures, c.word_at-2.ensures)) ∙ sym c.in_ok-admit.ensures, c.in_ok-kind.ensures, rw (c.word_at.ensures, c.word_at-2.ensures))
