use Rattle.std.proofs.Common.{◌*◌, ◌≤◌}
use Rattle.check_run.proofs.main.Given as goal

-- each block may bring 65,544 bytes
abbrev pub invariant-loop : goal.invariant-loop
invariant-loop l = (l.check.passed ≤ 65544 * l.counter) × (l.check.strips ≤ l.check.passed)
