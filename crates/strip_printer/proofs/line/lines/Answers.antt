use Prim.Native.Nat.{suc, ◌+◌, ◌*◌, ◌/◌}
use mathlib.Core.Path.{◌≡◌, ap, ◌∙◌}
use mathlib.Core.List.{◌∷◌, [], ◌++◌}
use native.Mathlib.Omega.{arith}
use lib.ListN.{length, length-append, length-drop}
use borrow.Author.Rules.{rules}
use lib.Seq.{take_all}
use Rattle.std.specs.Slice.Iter.{chunks_rest}
use Rattle.strip_printer.specs.Line.{no_text, up_to}
use Rattle.strip_printer.proofs.Blocks.{stands-begun, cut-is, up_one, up_none, up-all}
use Rattle.strip_printer.proofs.line.lines.Goals as goal

pub loop-record-init : goal.loop-record-init
loop-record-init c = record {
  next = search rules;
  finite = tt;
  size = search rules;
  rest = ap chunks_rest c.into_iter-record-iterator.ensures.into_iter_gives ∙ c.chunks-record-items.ensures.rest ∙ search (rules, take_all);
  within = omega arith;
  at = omega (arith, c.requires.at_value.0);
  index = omega arith;
  stands = rw up_none (stands-begun c.args.out.now c.args.start c.requires.at_value.0);
}

pub loop-record-preserved : goal.loop-record-preserved
loop-record-preserved c =
    let l = c.loop-record in
    let i = l.invariant in
    let n = length l.yielded in
    let s = c.in-Some.ensures.steps in
    let t = c.step-p.ensures in
    let e : length (l.yielded ++ (c.in-Some.record ∷ [])) ≡ suc n = length-append l.yielded (c.in-Some.record ∷ []) ∙ omega arith in
    let k = cut-is c.args.input.now c.in-Some.record.now _ _ n _ i.size i.rest s.1.0 s.1.1 s.1.2 in
    let more = t.by_index c.args.out.now (up_to n c.args.input.now (no_text c.args.start)) i.stands in
    record {
      next = search rules;
      finite = tt;
      size = s.0 ∙ i.size;
      rest = rw e k.rest;
      within = rw e k.within;
      at = rw e (omega (arith, t.at_bound.0, i.at));
      index = rw e (omega (arith, t.at_bound.1, i.index));
      stands = rw (e, ← up_one n c.args.input.now _ (no_text c.args.start) k.piece) more;
    }

pub returns-clause-stands : goal.returns-clause-stands
returns-clause-stands c =
    let i = c.loop-record.invariant in
    let n = length c.loop-record.yielded in
    let none = c.in-None.ensures.steps.1.0 in
    let e : n ≡ (length c.args.input.now + 17) / 18 = omega (arith, rw i.rest at none, length-drop (18 * n) c.args.input.now, i.within) in
    rw (← up-all n c.args.input.now (no_text c.args.start) e) i.stands
