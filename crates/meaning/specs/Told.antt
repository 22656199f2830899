-- What is told of the code's outcome, with the numbers that translation and evaluation give their refusals. No meaning stands on it: the contract of
-- `interpret` lays it beside `interpretation`, whose numbers are its own.
use Rattle.std.specs.Prelude.{[], Result, Ok, Err}
use Rattle.evaluation.specs.Machine.{Told, tells, refusal_told, Answer, returns}
use Rattle.translation.specs.Strip.{refusal_number}
use Rattle.meaning.specs.declared.interpreter.Refusal.{Refusal}
use Rattle.meaning.specs.declared.interpreter.Refusal.TheVariants.{Record as RecordRefused, Run as RunRefused}
use Rattle.meaning.specs.declared.interpreter.Interpreted.{Interpreted}

-- what is told of a refusal: its number, and with 9 the slot, the vec and the comp
unfoldable pub refused_told : Refusal → Told
refused_told (RecordRefused r) = tells (refusal_number r) []
refused_told (RunRefused r) = refusal_told r

-- and of the code's outcome, 0 where nothing is refused
unfoldable pub told : {T : Type 0} → Result T Refusal → Told
told (Ok x) = tells 0 []
told (Err r) = refused_told r

abbrev pub answer_of : Interpreted → Answer
answer_of r = returns (told r.outcome).number (told r.outcome).carried r.state
