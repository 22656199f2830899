-- What the code does to its buffer: the bytes of each entry go where the last ended, and positions and numbers are counted modulo 256. That this
-- is what `build` builds, as no strip is so long, is proved once for all code, so a reader need not believe this page.
use Rattle.std.specs.Prelude.{◌≡◌, Bool, true, false, List, [], ◌∷◌, ◌++◌, ℕ, ◌+◌, ◌%◌, length, Option, Some, None, is_some, option_to_list}
use Rattle.std.proofs.lemmas.List.Edits.{sets}
use Rattle.strip.specs.declared.reader.Entry.{Entry}
use Rattle.strip.specs.Entry.{wide, encode}
use Rattle.translation.specs.Insn.{Insn}
use Rattle.translation.specs.Helpers.{src_bc, add_with_flags, carry_sum}
use Rattle.translation.specs.Code.{Code, ret, op, act, call, mark, ite, renamed, at as level, ats}

-- the buffer, where the next byte goes, the next number, and the use mark that was raised: a slot and how many bytes of it (0: none)
pub record Buffer : Type 0 where
  pub list : List ℕ
  pub at : ℕ
  pub next : ℕ
  pub slot : ℕ
  pub need : ℕ

-- with the number of a value
pub record Value : Type 0 where
  pub buffer : Buffer
  pub number : ℕ

-- after an entry that makes no value, and after one that makes the next
unfoldable pub wrote : Entry → Buffer → Buffer
wrote e b = record { list = sets b.list b.at (encode wide e); at = (b.at + length (encode wide e)) % 256; next = b.next; slot = b.slot; need = b.need }

unfoldable pub made : Entry → Buffer → Value
made e b =
    record {
      buffer = record { list = sets b.list b.at (encode wide e); at = (b.at + length (encode wide e)) % 256; next = (b.next + 1) % 256; slot = b.slot; need = b.need };
      number = b.next;
    }

unfoldable pub raised : ℕ → ℕ → Buffer → Buffer
raised s n b = record { list = b.list; at = b.at; next = b.next; slot = s; need = n }

-- after code, of the numbers of its arguments
unfoldable pub emits : Code → List ℕ → Buffer → Value
emits (ret l) rs b = record { buffer = b; number = level rs l }
emits (op e k) rs b = emits k (rs ++ ((made (renamed (level rs) e) b).number ∷ [])) (made (renamed (level rs) e) b).buffer
emits (act e k) rs b = emits k rs (wrote (renamed (level rs) e) b)
emits (call c ls k) rs b = emits k (rs ++ ((emits c (ats rs ls) b).number ∷ [])) (emits c (ats rs ls) b).buffer
emits (mark s n k) rs b = emits k rs (raised s n b)
emits (ite true c d) rs b = emits c rs b
emits (ite false c d) rs b = emits d rs b

-- ---- what contracts say

-- before the first entry
abbrev pub start : List ℕ → Buffer
start l = record { list = l; at = 0; next = 0; slot = 0; need = 0 }

-- the buffer a method leaves, and the number it hands back
abbrev pub value : Buffer → ℕ → Value
value b n = record { buffer = b; number = n }

-- an entry that makes a value, one that makes none, a mark
pub record Makes (b : Buffer) (m : Value) (e : Entry) : Type 0 where
  pub is : m ≡ made e b

pub record Writes (b b' : Buffer) (e : Entry) : Type 0 where
  pub is : b' ≡ wrote e b

pub record Raises (b b' : Buffer) (s n : ℕ) : Type 0 where
  pub is : b' ≡ raised s n b

-- from the buffer b a helper comes to m, as the code c of the numbers rs does
pub record Does (b : Buffer) (m : Value) (c : Code) (rs : List ℕ) : Type 0 where
  pub is : m ≡ emits c rs b

-- from b to b' the words x and y are fetched: code k after it, of a, x and y, is what `src_bc` has follow
pub record Fetches (b b' : Buffer) (i : Insn) (swap : Bool) (x y : ℕ) : Type 0 where
  pub is : (k : Code) (a : ℕ) (n : Value) → Does b' n k (a ∷ x ∷ y ∷ []) → Does b n (src_bc i swap k) (a ∷ [])

-- a sum and its carry out
pub record Summed : Type 0 where
  pub buffer : Buffer
  pub number : ℕ
  pub carry : ℕ

abbrev pub summed : Buffer → ℕ × ℕ → Summed
summed b s = record { buffer = b; number = s.0; carry = s.1 }

-- after the carry in was added to sum v, whose carry out is c
unfoldable pub carry_added : Option ℕ → (v c : ℕ) → Buffer → Summed
carry_added None v c b = record { buffer = b; number = v; carry = c }
carry_added (Some n) v c b =
    let v2 = made (Entry.Two 40 v n) b in let c2 = made (Entry.Two 62 v2.number v) v2.buffer in let o = made (Entry.Two 82 c c2.number) c2.buffer in
    record { buffer = o.buffer; number = v2.number; carry = o.number }

-- from b to b' the carry in of a sum is fetched: `add_with_flags` with it, of a and d, is what `carry_sum` has follow
pub record Carries (b b' : Buffer) (x one : Bool) (c : Option ℕ) : Type 0 where
  pub is : (cc : Bool) (a d : ℕ) (n : Value) → Does b' n (add_with_flags (is_some c) cc) (a ∷ d ∷ option_to_list c) → Does b n (carry_sum x one cc) (a ∷ d ∷ [])
