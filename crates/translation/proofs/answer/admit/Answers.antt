use borrow.Author.Tests.{lt-ltb, le-ltb}
use Rattle.translation.specs.Strip.{first_refusal_of}
use Rattle.translation.proofs.KindNumbers.{known-number}
use Rattle.translation.proofs.answer.admit.Goals as goal

pub returns-then-i-gt2 : goal.returns-then-i-gt2
unfolding first_refusal_of
returns-then-i-gt2 c = rw (known-number c.args.kind, lt-ltb _ _ c.if-i-gt2.true)

pub returns-then-never_runs : goal.returns-then-never_runs
unfolding first_refusal_of
returns-then-never_runs c = rw (known-number c.args.kind, le-ltb _ _ c.if-i-gt2.false, ← c.never_runs.ensures, c.if-never_runs.true)

pub returns-then-system_value_mov : goal.returns-then-system_value_mov
unfolding first_refusal_of
returns-then-system_value_mov c = rw (known-number c.args.kind, le-ltb _ _ c.if-i-gt2.false, ← c.never_runs.ensures, c.if-never_runs.false, ← c.system_value_mov.ensures, c.if-system_value_mov.true)

pub returns-then-byte_three : goal.returns-then-byte_three
unfolding first_refusal_of
returns-then-byte_three c = rw (known-number c.args.kind, le-ltb _ _ c.if-i-gt2.false, ← c.never_runs.ensures, c.if-never_runs.false, ← c.system_value_mov.ensures, c.if-system_value_mov.false, ← c.byte_three.ensures, c.if-byte_three.true)

pub returns : goal.returns
unfolding first_refusal_of
returns c = rw (known-number c.args.kind, le-ltb _ _ c.if-i-gt2.false, ← c.never_runs.ensures, c.if-never_runs.false, ← c.system_value_mov.ensures, c.if-system_value_mov.false, ← c.byte_three.ensures, c.if-byte_three.false)
