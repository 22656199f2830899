use borrow.Author.Rules.{rules}
use Rattle.reach.specs.Rows.{in_row}
use Rattle.reach.proofs.rows.Rows.has.Goals as goal

pub returns : goal.returns
unfolding in_row
returns c = search rules
