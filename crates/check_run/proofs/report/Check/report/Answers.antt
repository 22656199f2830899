use Rattle.std.proofs.Common.{sym, ◌∙◌}
use Rattle.check_run.specs.Report.{well_formed, refused_at, line_of, said}
use Rattle.check_run.proofs.report.Check.report.Goals as goal

pub returns-then-at_end : goal.returns-then-at_end
unfolding well_formed refused_at line_of said
returns-then-at_end c = rw (sym c.at_end.ensures ∙ c.if-at_end.true) c.sentence.ensures

pub returns : goal.returns
unfolding well_formed refused_at line_of said
returns c = rw (sym c.at_end.ensures ∙ c.if-at_end.false) c.sentence-2.ensures
