use mathlib.Core.Path.{◌≡◌, ◌∙◌}
use Rattle.translation.specs.Kinds.{number_of_kind}
use Rattle.translation.specs.Strip.{strip}
use Rattle.translation.proofs.Whole.{Done, done, no_room, accepts}
use Rattle.translation.proofs.Decided.{error, refused-decision, fitted-decision}
use Rattle.translation.proofs.answer.put_strip.Goals as goal

pub returns-in_err-kind : goal.returns-in_err-kind
returns-in_err-kind c =
    rw (error c.from_residual.result c.in_err-kind.field-0.0 c.from_residual.ensures.1)
    (refused-decision c.args.bytes.now c.args.marks.now c.args.out.now _ c.in_err-kind.ensures)

pub returns-then-out-n : goal.returns-then-out-n
returns-then-out-n c =
    let a = c.args in
    let r = c.in_ok-kind in
    let k = number_of_kind r.kind in
    let d : Done k r.i c.guarded.new.self = done k r.i c.new-w.result c.guarded.new.self c.new-w.ensures.at_start c.new-w.ensures.room c.guarded.ensures in
    let e : c.bytes-strip.result.now ≡ strip k r.i = c.bytes-strip.ensures ∙ d.bytes in
    fitted-decision a.bytes.now a.marks.now a.out.now r.kind r.i _ r.ensures (no_room k r.i a.marks.now a.out.now (rw e at c.if-out-n.true))

pub returns : goal.returns
returns c =
    let a = c.args in
    let r = c.in_ok-kind in
    let k = number_of_kind r.kind in
    let d : Done k r.i c.guarded.new.self = done k r.i c.new-w.result c.guarded.new.self c.new-w.ensures.at_start c.new-w.ensures.room c.guarded.ensures in
    let e : c.bytes-strip.result.now ≡ strip k r.i = c.bytes-strip.ensures ∙ d.bytes in
    rw (c.copy_from_slice.ensures.after, c.raise.ensures, c.slot.ensures, c.need.ensures, d.mark a.marks.now, e)
    (fitted-decision a.bytes.now a.marks.now a.out.now r.kind r.i _ r.ensures (accepts k r.i a.marks.now a.out.now (rw e at c.if-out-n.false)))
