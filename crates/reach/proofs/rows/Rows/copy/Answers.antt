use borrow.Author.Rules.{rules}
use Rattle.reach.specs.Rows.{copy_row}
use Rattle.reach.proofs.rows.Rows.copy.Goals as goal

pub returns : goal.returns
unfolding copy_row
returns c = search rules
