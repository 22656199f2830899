use native.Mathlib.Omega.{arith}
use borrow.Author.Rules.{rules}
use Rattle.reach.proofs.NewRow.{put-row-is}
use Rattle.reach.proofs.rows.Rows.put.Goals as goal

pub returns : goal.returns
returns c = rw c.copy_from_slice.ensures.after (put-row-is _ _ c.args.to _ (search rules) (omega arith) (search rules))
