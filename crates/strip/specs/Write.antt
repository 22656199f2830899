-- What writing an entry into a list does: `encode` says its bytes.
use Rattle.std.specs.Prelude.{◌≡◌, Bool, cond, List, ℕ, ◌+◌, leb, length, Option, Some, None}
use Rattle.std.proofs.lemmas.List.Edits.{sets}
use Rattle.strip.specs.declared.reader.Entry.{Entry}
use Rattle.strip.specs.Entry.{encode}

-- there is room for the entry from place i on
unfoldable pub has_room : ℕ → List ℕ → ℕ → Entry → Bool
has_room len s i e = leb (i + length (encode len e)) (length s)

-- the whole list afterwards: the entry's bytes stand from place i on; where it does not fit, the list is as it was
unfoldable pub written_list : ℕ → List ℕ → ℕ → Entry → List ℕ
written_list len s i e = cond (has_room len s i e) (sets s i (encode len e)) s

-- and the answer: the number of the bytes, or none where there is no room
unfoldable pub written_answer : ℕ → List ℕ → ℕ → Entry → Option ℕ
written_answer len s i e = cond (has_room len s i e) (Some (length (encode len e))) None

-- ---- what contracts say

-- bytes stand from place i on
pub record Puts (s : List ℕ) (i : ℕ) (bytes : List ℕ) (s' : List ℕ) : Type 0 where
  pub is : s' ≡ sets s i bytes

-- an entry is written there, its references in len bytes each
pub record Writes (len : ℕ) (s : List ℕ) (i : ℕ) (e : Entry) (s' : List ℕ) (r : Option ℕ) : Type 0 where
  pub list : s' ≡ written_list len s i e
  pub says : r ≡ written_answer len s i e
