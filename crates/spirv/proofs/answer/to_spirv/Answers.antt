use Rattle.std.proofs.Common.{◌≡◌, ℕ, suc, ◌+◌, ◌-◌, true, ◌&&◌, ◌||◌, eqb, leb, length, sym, ap, ◌∙◌, arith}
use Rattle.std.proofs.lemmas.Result.{err_from_is_err_and}
use Rattle.spirv.specs.declared.page.Tape.{Tape}
use Rattle.spirv.specs.Instr.{all_words}
use Rattle.spirv.specs.Writer.{Given, given, const_instrs, table_ok, id_limit}
use Rattle.spirv.specs.Page.{puts, first_id}
use Rattle.spirv.specs.Answer.{answer_of}
use Rattle.spirv.proofs.Answers.{and-no-left, and-no-right, and_yes, put-is, refused-7, Done, refused-17, refused-10, refused-11, room-of-buffer, next-begins, next-ends, copied-length, accepts}
use Rattle.spirv.proofs.answer.to_spirv.Goals as goal
use Rattle.spirv.proofs.answer.to_spirv.Goals.{In_ok-pass, Else-not-ids_ok}

-- the pass is done, and the bytes are a strip in order
done : (c : In_ok-pass) → Done c.args.strip.now c.args.bound c.args.table.now c.pass.new.given.constants c.pass.new.page
done c =
    let h = c.in_ok-pass.ensures in
    record {
      bytes = λ i. omega (arith, c.type_inv.strip i);
      bound-fits = omega (arith, c.ranges.bound);
      table_fits = λ j. omega (arith, c.type_inv.table j);
      few = h.2;
      whole = h.0;
      last = rw (c.new-given.ensures, c.new-page.ensures) at h.3;
    }

given-is : (c : In_ok-pass) → c.pass.new.given ≡ given c.args.table.now c.args.bound c.pass.new.given.constants
given-is c = let h = c.in_ok-pass.ensures in rw c.new-given.ensures at h.1

first-is : (c : In_ok-pass) (n : ℕ) → n ≡ c.pass.new.given.bound + length c.pass.new.given.constants → n ≡ c.args.bound + length c.pass.new.given.constants
first-is c n h = h ∙ ap (λ (g : Given). g.bound + length c.pass.new.given.constants) (given-is c)

put : (c : In_ok-pass) (w : Tape) → w ≡ puts c.pass.new.page.words (all_words (const_instrs c.pass.new.given c.pass.new.given.bound c.pass.new.given.constants))
    → w ≡ puts c.pass.new.page.words (all_words (const_instrs (given c.args.table.now c.args.bound c.pass.new.given.constants) c.args.bound c.pass.new.given.constants))
put c w h = put-is c.args.table.now c.args.bound c.pass.new.given _ w (given-is c) h

-- and the ids are in order
in_order : (c : Else-not-ids_ok) → let next = c.args.bound + length c.pass.new.given.constants + (c.pass.new.page.next - first_id) in table_ok c.args.table.now c.args.bound && (leb next (suc id_limit) || eqb next c.args.bound) ≡ true
in_order c = and_yes _ _ (sym c.if-not-table_ok.ensures) (sym (rw (first-is (goal.at.Else-not-ids_ok c).In_ok-pass _ c.end-first.ensures) at c.if-not-ids_ok.ensures))

pub returns-in_err-pass : goal.returns-in_err-pass
unfolding answer_of
returns-in_err-pass c = let p = err_from_is_err_and c.from_residual.result c.from_residual.ensures.1 in let h = c.in_err-pass.ensures in rw (p.1, p.2, h.1) (refused-7 _ _ _ _ h.0)

pub returns-then-page : goal.returns-then-page
unfolding answer_of
returns-then-page c = refused-17 _ _ _ _ _ _ (done (goal.at.returns-then-page c).In_ok-pass) c.if-page.true

pub returns-then-not-table_ok : goal.returns-then-not-table_ok
unfolding answer_of
returns-then-not-table_ok c = refused-10 _ _ _ _ _ _ (done (goal.at.returns-then-not-table_ok c).In_ok-pass) c.if-page.false (and-no-left (table_ok c.args.table.now c.args.bound) _ (sym c.if-not-table_ok.ensures))

pub overflow_sub-next : goal.overflow_sub-next
overflow_sub-next c = next-begins _ _ _ c.args.out.now _ _ (done (goal.at.overflow_sub-next c).In_ok-pass)

pub overflow_add-next : goal.overflow_add-next
overflow_add-next c =
    let i = (goal.at.overflow_add-next c).In_ok-pass in
    record { fits = omega (arith, next-ends _ _ _ c.args.out.now _ _ (done i), first-is i _ c.end-first.ensures, (done i).bound-fits, (done i).few, next-begins _ _ _ c.args.out.now _ _ (done i)) }

pub returns-then-not-ids_ok : goal.returns-then-not-ids_ok
unfolding answer_of
returns-then-not-ids_ok c =
    let i = (goal.at.returns-then-not-ids_ok c).In_ok-pass in
    refused-10 _ _ _ _ _ _ (done i) c.if-page.false (and-no-right (table_ok c.args.table.now c.args.bound) _ (sym (rw (first-is i _ c.end-first.ensures) at c.if-not-ids_ok.ensures)))

pub returns-then-out-end : goal.returns-then-out-end
unfolding answer_of
returns-then-out-end c = let i = (goal.at.returns-then-out-end c).In_ok-pass in refused-11 _ _ _ _ _ _ (done i) c.if-page.false (in_order (goal.at.returns-then-out-end c).Else-not-ids_ok) c.put_constants.new.words (put i _ c.put_constants.ensures) c.if-out-end.true

pub overflow_sub-constants : goal.overflow_sub-constants
overflow_sub-constants c = let i = (goal.at.overflow_sub-constants c).In_ok-pass in (room-of-buffer _ _ _ c.args.out.now _ _ (done i) c.if-page.false (in_order (goal.at.overflow_sub-constants c).Else-not-ids_ok) c.put_constants.new.words (put i _ c.put_constants.ensures)).0

pub copy_constants-requires : goal.copy_constants-requires
copy_constants-requires c =
    let i = (goal.at.copy_constants-requires c).In_ok-pass in
    let h = room-of-buffer _ _ _ c.args.out.now _ _ (done i) c.if-page.false (in_order (goal.at.copy_constants-requires c).Else-not-ids_ok) c.put_constants.new.words (put i _ c.put_constants.ensures) in
    (omega (arith, h.0, c.if-out-end.false), h.1.1, omega (arith, h.0, h.1.0))

pub copy_body-requires : goal.copy_body-requires
copy_body-requires c =
    let i = (goal.at.copy_body-requires c).In_ok-pass in
    let h = room-of-buffer _ _ _ c.args.out.now _ _ (done i) c.if-page.false (in_order (goal.at.copy_body-requires c).Else-not-ids_ok) c.put_constants.new.words (put i _ c.put_constants.ensures) in
    (omega (arith, h.0, c.if-out-end.false, copied-length _ _ _ c.args.out.now _ _ (done i) c.if-page.false (in_order (goal.at.copy_body-requires c).Else-not-ids_ok) c.put_constants.new.words (put i _ c.put_constants.ensures) _ c.copy_constants.ensures), h.1.1, omega (arith, h.0, h.1.0))

pub returns : goal.returns
unfolding answer_of
returns c =
    let i = (goal.at.returns c).In_ok-pass in
    accepts _ _ _ _ _ _ (done i) c.if-page.false (in_order (goal.at.returns c).Else-not-ids_ok) c.put_constants.new.words (put i _ c.put_constants.ensures) _ c.copy_constants.ensures _ (first-is i _ c.end-first.ensures) _ c.copy_body.ensures c.if-out-end.false
