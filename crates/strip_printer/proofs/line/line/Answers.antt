use Rattle.translation.proofs.Decided.{decided}
use Rattle.strip_printer.specs.Line.{answer_to}
use Rattle.strip_printer.proofs.Text.{fits-room, fits-most}
use Rattle.strip_printer.proofs.line.line.Goals as goal

pub text-requires : goal.text-requires
unfolding answer_to
text-requires c = let a = c.translate-t in let e = decided a.result _ _ _ _ a.ensures in (fits-room _ _ e, fits-most _ _ e, c.requires.0)

pub returns : goal.returns
unfolding answer_to
returns c = let a = c.translate-t in let e = decided a.result _ _ _ _ a.ensures in let t = c.text in record { out_after = rw (← e) t.ensures.out_after; value = (rw (← e, ← t.ensures.value.0, ← c.goes_on.ensures), t.ensures.value.1) }
