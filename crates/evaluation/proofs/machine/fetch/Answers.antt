use Rattle.std.proofs.Common.{sym, le-ltb, lt-ltb}
use Rattle.evaluation.specs.Machine.{fetched}
use Rattle.evaluation.proofs.Cases.{no_address, yes-address}
use Rattle.evaluation.proofs.machine.fetch.Goals as goal

pub returns-in_default : goal.returns-in_default
unfolding fetched
returns-in_default c = sym (no_address _ _ _ c.in_default.not-Address)

pub returns-then-j-constants : goal.returns-then-j-constants
unfolding fetched
returns-then-j-constants c = rw (c.in-Address.is, yes-address, lt-ltb _ _ c.if-j-constants.true)

pub returns-else-j-constants : goal.returns-else-j-constants
unfolding fetched
returns-else-j-constants c = rw (c.in-Address.is, yes-address, le-ltb _ _ c.if-j-constants.false)
