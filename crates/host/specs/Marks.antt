-- The use marks as the exported functions take them, 32 words in 128 bytes, and what the translation of a record answers there.
use Rattle.std.specs.Prelude.{ℕ, zero, suc, ◌*◌, cond, List, [], ◌∷◌, ◌++◌, eqb, length, Ok, Err}
use Rattle.strip.specs.Entry.{word_at, word_bytes}
use Rattle.translation.specs.Strip as T

-- the first n words of a list of bytes, little-endian
unfoldable pub words_in : ℕ → List ℕ → List ℕ
words_in zero bytes = []
words_in (suc n) bytes = words_in n bytes ++ (word_at bytes (n * 4) ∷ [])

-- and the bytes of words
unfoldable pub mark_bytes : List ℕ → List ℕ
mark_bytes [] = []
mark_bytes (w ∷ ws) = word_bytes w ++ mark_bytes ws

-- the number that is returned, and what the length, the marks and the room are then
pub record Answer : Type 0 where
  pub number : ℕ
  pub written : ℕ
  pub marks : List ℕ
  pub out : List ℕ

abbrev pub returns : ℕ → ℕ → List ℕ → List ℕ → Answer
returns number written marks out = record { number = number; written = written; marks = marks; out = out }

-- a strip has its length and its marks; a refusal leaves both as they were
unfoldable pub by_outcome : T.Outcome → List ℕ → List ℕ → ℕ → List ℕ → Answer
by_outcome (Ok n) used out written marks = returns 0 n (mark_bytes used) out
by_outcome (Err r) used out written marks = returns (T.refusal_number r) written marks out

-- from what the translation answers
abbrev pub handed_back : T.Decision → ℕ → List ℕ → Answer
handed_back a written marks = by_outcome a.outcome a.marks a.out written marks

-- marks of another length are refused before the record is looked at
unfoldable pub translate_answer : List ℕ → ℕ → List ℕ → List ℕ → Answer
translate_answer bytes written marks out =
    cond (eqb (length marks) 128) (handed_back (T.decision bytes (words_in 32 marks) out) written marks) (returns 1 written marks out)
