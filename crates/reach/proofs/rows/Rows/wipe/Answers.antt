use borrow.Author.Rules.{rules}
use Rattle.reach.specs.Rows.{wipe_row}
use Rattle.reach.proofs.rows.Rows.wipe.Goals as goal

pub returns : goal.returns
unfolding wipe_row
returns c = search rules
