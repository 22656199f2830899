use Prim.Native.Nat.{◌+◌, ◌*◌, ◌≤◌}
use mathlib.Core.Path.{◌≡◌}
use lib.ListN.{length, drop}
use Rattle.std.specs.Slice.Iter.{chunks_rest, chunks_size}
use Rattle.strip_printer.specs.Line.{Stands, no_text, up_to}
use Rattle.strip_printer.proofs.line.lines.Given as goal

-- so many records as were yielded
abbrev pub invariant-loop-record : goal.invariant-loop-record
invariant-loop-record l = record {
  next : goal.iterator-loop-record.can_next l.record-iterator;
  finite : goal.iterator-loop-record.is_finite l.record-iterator;
  size : chunks_size l.record-iterator ≡ 18;
  rest : chunks_rest l.record-iterator ≡ drop (18 * length l.yielded) l.input;
  within : 18 * length l.yielded ≤ length l.input + 17;
  at : l.p.at ≤ 534 * length l.yielded;
  index : l.p.index ≤ l.initial.p.index + length l.yielded;
  stands : Stands l.fn.out l.out l.p (up_to (length l.yielded) l.input (no_text l.initial.p));
}
