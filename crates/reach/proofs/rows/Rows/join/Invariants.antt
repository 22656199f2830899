use Rattle.reach.proofs.NewRow.{Joined, word_at}
use Rattle.reach.proofs.rows.Rows.join.Given as goal

abbrev pub invariant-loop-i : goal.invariant-loop-i
invariant-loop-i l = Joined (word_at l.fn.self.words l.to) (word_at l.fn.self.words l.from) l.row l.i
