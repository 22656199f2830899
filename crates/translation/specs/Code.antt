-- Code: what a helper of the translator does, in order. A level is a number for an argument or a result of the helper itself: arguments come
-- first, then each value that it makes and each helper's result. Calls keep levels apart, so code is closed.
use Rattle.std.specs.Prelude.{Bool, true, false, List, [], ◌∷◌, ◌++◌, ℕ, suc, get_or}
use Rattle.strip.specs.declared.reader.Entry.{Entry}

pub data Code : Type 0 where
  -- hand back a level
  ret : ℕ → Code
  -- an entry that makes a value; its references are levels
  op : Entry → Code → Code
  -- an entry that makes none
  act : Entry → Code → Code
  -- a helper, with its arguments
  call : Code → List ℕ → Code → Code
  -- a use mark: slot and bytes
  mark : ℕ → ℕ → Code → Code
  ite : Bool → Code → Code → Code

-- an entry with other references
abbrev pub renamed : (ℕ → ℕ) → Entry → Entry
renamed f (Entry.Bare k) = Entry.Bare k
renamed f (Entry.Word w) = Entry.Word w
renamed f (Entry.Cell k n) = Entry.Cell k n
renamed f (Entry.Store k n r) = Entry.Store k n (f r)
renamed f (Entry.One k a) = Entry.One k (f a)
renamed f (Entry.Two k a b) = Entry.Two k (f a) (f b)
renamed f (Entry.Three k a b c) = Entry.Three k (f a) (f b) (f c)
renamed f (Entry.Four k a b c d) = Entry.Four k (f a) (f b) (f c) (f d)

-- what level l stands for: rs has it of each level
abbrev pub at : List ℕ → ℕ → ℕ
at rs l = get_or rs l 0

abbrev pub ats : List ℕ → List ℕ → List ℕ
ats rs [] = []
ats rs (l ∷ ls) = at rs l ∷ ats rs ls

-- What code builds, from the numbers of its arguments and the next free number: entries, the number of its result, the next free one after.
pub record Built : Type 0 where
  pub entries : List Entry
  pub result : ℕ
  pub next : ℕ

abbrev pub prefixed : List Entry → Built → Built
prefixed es b = record { entries = es ++ b.entries; result = b.result; next = b.next }

unfoldable pub build : Code → List ℕ → ℕ → Built
build (ret l) rs n = record { entries = []; result = at rs l; next = n }
build (op e k) rs n = prefixed (renamed (at rs) e ∷ []) (build k (rs ++ (n ∷ [])) (suc n))
build (act e k) rs n = prefixed (renamed (at rs) e ∷ []) (build k rs n)
build (call c ls k) rs n = prefixed (build c (ats rs ls) n).entries (build k (rs ++ ((build c (ats rs ls) n).result ∷ [])) (build c (ats rs ls) n).next)
build (mark s u k) rs n = build k rs n
build (ite true c d) rs n = build c rs n
build (ite false c d) rs n = build d rs n
