-- From a record to its strip and its answer (01, 'Record', 'Strip' and 'Who can cause a refusal'): this is the definition of the translation.
use Rattle.std.specs.Prelude.{Bool, true, false, cond, ◌&&◌, List, [], ◌∷◌, ◌++◌, ℕ, ◌+◌, ◌*◌, eqb, ltb, leb, length, get_or, drop, Result, Ok, Err}
use Rattle.std.proofs.Math.Option.{Option, none, some}
use Rattle.strip.specs.declared.reader.Entry.{Entry}
use Rattle.strip.specs.Entry.{wide}
use Rattle.strip.specs.Shape.{strip_bytes}
use Rattle.translation.specs.Insn.{Insn, bits, bit}
use Rattle.translation.specs.Code.{Code, Built, build}
use Rattle.translation.specs.Helpers.{p}
use Rattle.translation.specs.Arms.{arm_of}
use Rattle.translation.specs.Marks.{uses}
use Rattle.translation.specs.declared.answer.Refusal.{Refusal}
use Rattle.translation.specs.declared.answer.Refusal.TheVariants.{BadLength, UnknownKind, UnknownForm, SystemValueMov, ByteThree, NoRoom}

-- 01's number of a refusal
unfoldable pub refusal_number : Refusal → ℕ
refusal_number BadLength = 1
refusal_number UnknownKind = 2
refusal_number UnknownForm = 3
refusal_number SystemValueMov = 4
refusal_number ByteThree = 5
refusal_number NoRoom = 6

-- what a record comes to: its strip's length, or why it is refused
abbrev pub Outcome : Type 0
Outcome = Result ℕ Refusal

-- the number of an answer, 0 of a strip
unfoldable pub number_of : Outcome → ℕ
number_of (Ok n) = 0
number_of (Err r) = refusal_number r

-- a strip's length, 0 of a refusal
unfoldable pub length_of : Outcome → ℕ
length_of (Ok n) = n
length_of (Err r) = 0

-- the guard: a predicate, negated or not
abbrev pub guard : Insn → ℕ
guard i = bits i 16 3

abbrev pub guard_not : Insn → Bool
guard_not i = bit i 19

-- it never holds: predicate 7, which reads true, negated
unfoldable pub never_runs : Insn → Bool
never_runs i = eqb (guard i) 7 && guard_not i

-- a block: what makes the guard's truth, an open on it, the body, a close
abbrev pub block : Built → Code → List Entry
block g c = g.entries ++ (Entry.One 100 g.result ∷ ((build c [] g.next).entries ++ (Entry.Bare 101 ∷ [])))

-- `guarded` around a body: nothing where the guard never holds, the body alone where it always does, else a block
unfoldable pub guarded : Insn → Code → List Entry
guarded i c = cond (never_runs i) [] (cond (eqb (guard i) 7) (build c [] 0).entries (block (build (p (guard i) (guard_not i)) [] 0) c))

-- the entries of kind k's strip, and its bytes in the wide layout
unfoldable pub entries_of : ℕ → Insn → List Entry
entries_of k i = guarded i (arm_of k i) ++ (Entry.Bare 255 ∷ [])

unfoldable pub strip : ℕ → Insn → List ℕ
strip k i = strip_bytes wide (entries_of k i)

-- the marks after it: a guard that never holds raises none
unfoldable pub marked : ℕ → Insn → List ℕ → List ℕ
marked k i m = cond (never_runs i) m (uses (arm_of k i) m)

-- ---- the record: 18 bytes, little-endian

abbrev pub word_at32 : List ℕ → ℕ → ℕ
word_at32 l n = get_or l n 0 + get_or l (n + 1) 0 * 256 + get_or l (n + 2) 0 * 65536 + get_or l (n + 3) 0 * 16777216

abbrev pub word_at64 : List ℕ → ℕ → ℕ
word_at64 l n = word_at32 l n + word_at32 l (n + 4) * 4294967296

abbrev pub insn_of : List ℕ → Insn
insn_of l = record { form = get_or l 1 0; value = word_at64 l 2; word = word_at64 l 10 }

-- ---- what is admitted

-- the kinds of 01
unfoldable pub known : ℕ → Bool
known k = leb 1 k && leb k 30

-- mov of a system value: the opcode's value is 0xf0c8 << 48
unfoldable pub system_value_mov : ℕ → Insn → Bool
system_value_mov k i = eqb k 1 && eqb i.value 17350117564444835840

-- i2i of a half, from byte 3 on
unfoldable pub byte_three : ℕ → Insn → Bool
byte_three k i = eqb k 24 && (eqb (bits i 10 2) 1 && eqb (bits i 41 2) 3)

-- the first refusal of 2 to 5 that holds; a word that never runs needs no support, so 4 and 5 hold only under a guard that may run (#104)
unfoldable pub first_refusal_of : ℕ → Insn → Option Refusal
first_refusal_of k i =
    cond (known k)
    (cond (ltb 2 i.form) (some UnknownForm)
    (cond (never_runs i) none
    (cond (system_value_mov k i) (some SystemValueMov)
    (cond (byte_three k i) (some ByteThree) none))))
    (some UnknownKind)

-- and of 1 to 5, of a record's bytes
unfoldable pub first_refusal : List ℕ → Option Refusal
first_refusal l = cond (eqb (length l) 18) (first_refusal_of (get_or l 0 0) (insn_of l)) (some BadLength)

abbrev pub is_none : Option Refusal → Bool
is_none none = true
is_none (some r) = false

-- 01 admits the record: none of these refusals holds
unfoldable pub admits : List ℕ → Bool
admits l = is_none (first_refusal l)

-- ---- what is decided: the strip's length or a refusal, the marks, the room

pub record Decision : Type 0 where
  pub outcome : Outcome
  pub marks : List ℕ
  pub out : List ℕ

abbrev pub refused : Refusal → List ℕ → List ℕ → Decision
refused r m out = record { outcome = Err r; marks = m; out = out }

unfoldable pub fitted : ℕ → Insn → List ℕ → List ℕ → Decision
fitted k i m out =
    cond (leb (length (strip k i)) (length out))
    (record { outcome = Ok (length (strip k i)); marks = marked k i m; out = strip k i ++ drop (length (strip k i)) out })
    (refused NoRoom m out)

-- an admitted record is translated if its strip fits
abbrev pub answered : Option Refusal → ℕ → Insn → List ℕ → List ℕ → Decision
answered none k i m out = fitted k i m out
answered (some r) k i m out = refused r m out

unfoldable pub decision : List ℕ → List ℕ → List ℕ → Decision
decision l m out = answered (first_refusal l) (get_or l 0 0) (insn_of l) m out

-- ---- the answer: 01's number, 0 where the record is accepted; the strip's length, 0 of a refusal; the marks, the room

pub record Answer : Type 0 where
  pub number : ℕ
  pub length : ℕ
  pub marks : List ℕ
  pub out : List ℕ

abbrev pub answer_of : Decision → Answer
answer_of d = record { number = number_of d.outcome; length = length_of d.outcome; marks = d.marks; out = d.out }

unfoldable pub translation : List ℕ → List ℕ → List ℕ → Answer
translation l m out = answer_of (decision l m out)
