-- What the strip printer prints (01, last part of 'Bench rows'): a line for each record. Text is a list of ASCII codes.
use Rattle.std.specs.Prelude.{ℕ, zero, suc, ◌+◌, ◌*◌, ◌/◌, ◌%◌, ◌≤◌, ◌≡◌, Bool, true, cond, List, [], ◌∷◌, ◌++◌, leb, length, take, drop, replicate, Ok, Err}
use Rattle.std.proofs.lemmas.List.Edits.{sets}
use Rattle.ascii.specs.Decimal.{hex_digit_ascii, decimal_of}
use Rattle.translation.specs.Strip.{Outcome, Decision, refusal_number, decision}
use Rattle.translation.specs.declared.answer.Refusal.{Refusal}
use Rattle.strip_printer.specs.declared.line.Printer.{Printer}

-- two lowercase hex digits for each byte
unfoldable pub hex_of : List ℕ → List ℕ
hex_of [] = []
hex_of (b ∷ bs) = hex_digit_ascii (b / 16) ∷ (hex_digit_ascii (b % 16) ∷ hex_of bs)

-- `refused N`: the number has one digit
unfoldable pub refused_text : Refusal → List ℕ
refused_text r = 114 ∷ 101 ∷ 102 ∷ 117 ∷ 115 ∷ 101 ∷ 100 ∷ 32 ∷ (48 + refusal_number r) ∷ []

-- what stands after the space: the strip at the front of the room, or the refusal
unfoldable pub text_of : Outcome → List ℕ → List ℕ
text_of (Ok n) out = hex_of (take n out)
text_of (Err r) out = refused_text r

-- the line, with its end
unfoldable pub line_of : ℕ → Outcome → List ℕ → List ℕ
line_of index o out = decimal_of index ++ (32 ∷ (text_of o out ++ (10 ∷ [])))

-- the refusals 1 and 2 are the last line
unfoldable pub goes_on : Outcome → Bool
goes_on (Ok n) = true
goes_on (Err r) = leb 3 (refusal_number r)

-- ---- record after record

-- the text so far, the index of the next record, the use marks, whether there is a next line
pub record Printed : Type 0 where
  pub text : List ℕ
  pub index : ℕ
  pub marks : List ℕ
  pub going : Bool

-- a record's answer: 256 bytes of room are enough for every strip (`never-six` of `proofs/Theorems.antt`)
unfoldable pub answer_to : List ℕ → List ℕ → Decision
answer_to l marks = decision l marks (replicate 256 0)

abbrev pub with_line : Printed → Decision → Printed
with_line p a = record {
  text = p.text ++ line_of p.index a.outcome a.out;
  index = p.index + 1;
  marks = a.marks;
  going = goes_on a.outcome;
}

unfoldable pub step : List ℕ → Printed → Printed
step l p = cond p.going (with_line p (answer_to l p.marks)) p

-- the first n records of the input; the last may be cut
unfoldable pub up_to : ℕ → List ℕ → Printed → Printed
up_to zero l p = p
up_to (suc n) l p = step (take 18 (drop (18 * n) l)) (up_to n l p)

-- all of them
unfoldable pub lines : List ℕ → Printed → Printed
lines l p = up_to ((length l + 17) / 18) l p

-- ---- what contracts say

-- after a record, the text being in a buffer
abbrev pub printer_after : Printer → Decision → Printer
printer_after p a = record {
  at = p.at + length (line_of p.index a.outcome a.out);
  index = p.index + 1;
  cbuf_used = a.marks;
  going = goes_on a.outcome;
}

-- the line of a record, in the buffer
abbrev pub added : Printer → Decision → List ℕ → List ℕ
added p a out = sets out p.at (line_of p.index a.outcome a.out)

abbrev pub no_text : Printer → Printed
no_text p = record { text = []; index = p.index; marks = p.cbuf_used; going = p.going }

-- a buffer that was `before` holds the text at its front, and is otherwise as it was
pub record Stands (before out : List ℕ) (p : Printer) (d : Printed) : Type 0 where
  pub list : out ≡ sets before 0 d.text
  pub at : p.at ≡ length d.text
  pub index : p.index ≡ d.index
  pub marks : p.cbuf_used ≡ d.marks
  pub going : p.going ≡ d.going

-- after a block: the front of the input was read, its lines are in the buffer, index and marks are carried on. It goes on only where there is
-- a next line and the block was full; a full block has whole records (`proofs/Blocks.antt` joins blocks). Whether it does hangs on the writing too.
pub record Block (input before out : List ℕ) (p r : Printer) : Type 0 where
  pub size : ℕ
  pub read : size ≤ length input
  pub list : out ≡ sets before 0 (lines (take size input) (no_text p)).text
  pub index : r.index ≡ (lines (take size input) (no_text p)).index
  pub marks : r.cbuf_used ≡ (lines (take size input) (no_text p)).marks
  pub goes : r.going ≡ true → ((lines (take size input) (no_text p)).going ≡ true) × (size ≡ length input)
