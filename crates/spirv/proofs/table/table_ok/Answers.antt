use Rattle.std.proofs.Common.{sym, ◌∙◌}
use Rattle.spirv.proofs.Tables.{rising-sound, table-sound, table-other}
use Rattle.spirv.proofs.table.table_ok.Goals as goal

pub returns-then-table-ne303 : goal.returns-then-table-ne303
returns-then-table-ne303 c = table-other _ _ c.if-table-ne303.true

pub returns-then-rises : goal.returns-then-rises
returns-then-rises c = c.lent_ok.ensures ∙ sym (rising-sound c.args.bound c.args.table.now 302 c.if-table-ne303.false (c.rises.ensures c.if-rises.true)) ∙ table-sound _ _ c.if-table-ne303.false

pub returns : goal.returns
returns c = c.each_ok.ensures ∙ table-sound _ _ c.if-table-ne303.false
