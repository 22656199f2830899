use mathlib.Core.Path.{◌∙◌}
use Rattle.std.proofs.Common.{rules}
use Rattle.strip.proofs.EntryRead.{cut-nil, cut-cons}
use Rattle.strip.proofs.reader.is_cut.Goals as goal

pub returns-then-is_empty : goal.returns-then-is_empty
returns-then-is_empty c = c.if-is_empty.true ∙ cut-nil _ (search rules)

pub returns-else-is_empty : goal.returns-else-is_empty
returns-else-is_empty c = c.is_kind.ensures ∙ cut-cons _ (search rules)
