use Rattle.std.proofs.Common.{◌≡◌, ◌*◌, ◌≤◌}
use Rattle.strip_printer.proofs.main.Given as goal

-- a block has at most 455 records
abbrev pub invariant-loop : goal.invariant-loop
invariant-loop l = (l.p.at ≡ 0) × (l.p.index ≤ 455 * l.counter)
