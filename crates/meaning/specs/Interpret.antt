-- What interpreting a record answers (01, 'Who can cause a refusal'), and what a list of records means, one after another.
use Rattle.std.specs.Prelude.{Bool, cond, not, ◌&&◌, List, [], ◌∷◌, ℕ, ◌/◌, ◌%◌, eqb, leb, length}
use Rattle.evaluation.specs.declared.state.State.{State}
use Rattle.evaluation.specs.Machine.{Answer, returns}
use Rattle.meaning.specs.Record.{Record, record_of, bits, constant_slot, constant_word}
use Rattle.meaning.specs.Meaning.{opcode, runs, never_runs, meaning, reads, lent}

-- 01's number of the first refusal that holds of a record, of 2 to 5; 0 of one that 01 admits. What never runs needs no support (#104), so 4 and 5
-- do not hold of it
unfoldable pub refusal_of : Record → ℕ
refusal_of i =
    cond (leb 1 i.kind && leb i.kind 30)
    (cond (leb i.form 2)
    (cond (never_runs i) 0
    (cond (eqb i.kind 1 && opcode i 61640) 4  -- mov, 0xf0c8
    (cond (eqb i.kind 24 && (eqb (bits i 10 2) 1 && eqb (bits i 41 2) 3)) 5 0)))  -- i2i of a half from byte 3 on
    3)
    2

-- and of its bytes
unfoldable pub refusal : List ℕ → ℕ
refusal l = cond (eqb (length l) 18) (refusal_of (record_of l)) 1

-- the record would read a word that is not lent: its guard holds, it reads a constant, and the list is too short
unfoldable pub unlent : List ℕ → Record → State → Bool
unlent ks i s = runs i s && (reads i && not (lent ks i))

-- the constant word that a record names: its slot, vec and comp
unfoldable pub named_word : Record → List ℕ
named_word i = constant_slot i ∷ constant_word i / 4 ∷ constant_word i % 4 ∷ []

-- the state is that of the meaning, or the start where the record is refused
unfoldable pub interpretation : List ℕ → State → List ℕ → Answer
interpretation l s ks =
    cond (eqb (refusal l) 0)
    (cond (unlent ks (record_of l) s) (returns 9 (named_word (record_of l)) s) (returns 0 [] (meaning ks (record_of l) s)))
    (returns (refusal l) [] s)

-- the meanings of records, one after another
unfoldable pub meanings : List ℕ → List (List ℕ) → State → State
meanings ks [] s = s
meanings ks (l ∷ ls) s = meanings ks ls (meaning ks (record_of l) s)
