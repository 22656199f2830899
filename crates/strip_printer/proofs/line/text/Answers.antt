use native.Mathlib.Omega.{arith}
use lib.ListN.{length-set}
use Rattle.ascii.specs.Decimal.{decimal_of}
use Rattle.strip_printer.specs.Line.{text_of, line_of}
use Rattle.strip_printer.proofs.Text.{line-is, line-length, line-size}
use borrow.Author.Rules.{rules}
use Rattle.strip_printer.proofs.line.text.Goals as goal

pub outcome_text-end-requires : goal.outcome_text-end-requires
unfolding line_of
outcome_text-end-requires c = (search rules, search rules, simp length-set (omega arith))

pub bounds-out-end : goal.bounds-out-end
unfolding line_of
bounds-out-end c = let d = c.decimal-space in let a = c.outcome_text-end in
    let l = line-length c.args.out.now _ _ (decimal_of c.args.index) (text_of c.args.o c.args.room.now) c.args.at d.result d.ensures.out_after a.ensures.out_after in omega (arith, l, c.requires.2, d.ensures.value.1, a.ensures.value.1)

pub overflow_add-result : goal.overflow_add-result
unfolding line_of
overflow_add-result c = let d = c.decimal-space in let a = c.outcome_text-end in
    let l = line-length c.args.out.now _ _ (decimal_of c.args.index) (text_of c.args.o c.args.room.now) c.args.at d.result d.ensures.out_after a.ensures.out_after in omega (arith, l, c.requires.2, d.ensures.value.1, a.ensures.value.1)

pub shape_of-out : goal.shape_of-out
unfolding line_of
shape_of-out c = let d = c.decimal-space in let a = c.outcome_text-end in
    let l = line-length c.args.out.now _ _ (decimal_of c.args.index) (text_of c.args.o c.args.room.now) c.args.at d.result d.ensures.out_after a.ensures.out_after in simp length-set l

pub returns : goal.returns
unfolding line_of
returns c = let d = c.decimal-space in let a = c.outcome_text-end in record {
  out_after = line-is c.args.out.now _ _ (decimal_of c.args.index) (text_of c.args.o c.args.room.now) c.args.at d.result a.result d.ensures.out_after d.ensures.value.0 a.ensures.out_after a.ensures.value.0;
  value = (rw line-size (omega (arith, d.ensures.value.0, a.ensures.value.0)), omega (arith, d.ensures.value.1, a.ensures.value.1));
}
