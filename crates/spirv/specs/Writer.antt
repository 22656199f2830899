-- The words of one strip (02, #105): a list of constants, then the body.
use Rattle.std.specs.Prelude.{ℕ, suc, ◌+◌, Bool, true, false, cond, not, ◌&&◌, ◌||◌, List, [], ◌∷◌, ◌++◌, map, length, ◌==◌, nat_le, nat_lt, slice_index, slice_index_or}
use Rattle.std.proofs.Math.Option.{Option, none, some}
use Rattle.std.specs.Bool.{xor}
use Rattle.strip.specs.declared.reader.Entry.{Entry}
use Rattle.strip.specs.declared.reader.Entry.TheVariants as Of
use Rattle.strip.specs.Format.{format_of, word}
use Rattle.strip.specs.Entry.{wide}
use Rattle.strip.specs.Shape.{all, decode, shape_ok}
use Rattle.spirv.specs.Instr.{Instr, instr, all_words}
use Rattle.spirv.specs.declared.opcodes.Op.{Op}
use Rattle.spirv.specs.declared.opcodes.Op.TheVariants.{Core, Glsl}
use Rattle.spirv.specs.declared.plan.Name.{Name}
use Rattle.spirv.specs.Opcodes.{op_of}

-- ---- constants

-- a constant: the kind of its entry (1 a word, 2 true, 3 false), and its bits
pub record Const : Type 0 where
  pub kind : ℕ
  pub bits : ℕ

abbrev pub const : ℕ → ℕ → Const
const k w = record { kind = k; bits = w }

abbrev pub same : Const → Const → Bool
same a b = a.kind == b.kind && a.bits == b.bits

-- the constant that an entry is, one or none
unfoldable pub const_of : Entry → List Const
const_of (Of.Bare k) = cond (k == 2 || k == 3) (const k 0 ∷ []) []
const_of (Of.Word w) = const 1 w ∷ []
const_of (Of.Cell k n) = []
const_of (Of.Store k n r) = []
const_of (Of.One k a) = []
const_of (Of.Two k a b) = []
const_of (Of.Three k a b c) = []
const_of (Of.Four k a b c d) = []

unfoldable pub listed : List Const → Const → Bool
listed [] k = false
listed (c ∷ cs) k = same c k || listed cs k

-- its place in the list
unfoldable pub place_of : List Const → Const → ℕ
place_of [] k = 0
place_of (c ∷ cs) k = cond (same c k) 0 (suc (place_of cs k))

-- those that are not yet listed, at the end
unfoldable pub with_new : List Const → List Const → List Const
with_new l [] = l
with_new l (k ∷ ks) = with_new (cond (listed l k) l (l ++ (k ∷ []))) ks

-- each value once, in the order in which it first stands
unfoldable pub constants_from : List Const → List Entry → List Const
constants_from l [] = l
constants_from l (e ∷ es) = constants_from (with_new l (const_of e)) es

abbrev pub constants_of : List Entry → List Const
constants_of es = constants_from [] es

-- ---- what the body is written with: the lent table, the first new id and the constants
pub record Given : Type 0 where
  pub table : List ℕ
  pub bound : ℕ
  pub constants : List Const

-- The lent table: the unsigned, signed and truth types, the slots' pointer type, the import of GLSL.std.450, then registers, predicates,
-- flags and slots.
abbrev pub given : List ℕ → ℕ → List Const → Given
given table bound ks = record { table = table; bound = bound; constants = ks }

abbrev pub lent : Given → ℕ → ℕ
lent g j = slice_index g.table j

-- where the cells that a load (4, 5, 6) or a store (7, 8, 9) names begin
abbrev pub cells_at : ℕ → ℕ
cells_at k = cond (k == 4 || k == 7) 5 (cond (k == 5 || k == 8) 260 267)

abbrev pub slots_at : ℕ
slots_at = 271

abbrev pub type_id : Given → ℕ → Bool → ℕ
type_id g kind signed = cond (kind == 2) (lent g 2) (cond (kind == 4) (lent g 3) (cond signed (lent g 1) (lent g 0)))

unfoldable pub const_id : Given → Const → ℕ
const_id g k = g.bound + place_of g.constants k

-- ---- the body

-- What a value is called: its id, and whether it is a signed word (src/plan.rt declares it).
abbrev pub name : ℕ → Bool → Name
name i s = record { id = i; signed = s }

unfoldable pub name_at : List Name → ℕ → Name
name_at ns r = slice_index_or ns r (name 0 false)

abbrev pub id_at : List Name → ℕ → ℕ
id_at ns r = (name_at ns r).id

-- how an entry is written
pub data Plan : Type 0 where
  -- a note, the end
  Silent : Plan
  -- a constant, a slot, a redundant cast: the value has its name
  Known : Name → Plan
  -- one instruction that makes a value: opcode, type, operands after the result, sign
  Made : ℕ → ℕ → List ℕ → Bool → Plan
  -- pointer, value
  Stores : ℕ → ℕ → Plan
  -- the truth
  Opens : ℕ → Plan
  Closes : Plan

-- the sign of the first word operand; unsigned where there is none
unfoldable pub first_sign : (ℕ → Name) → List ℕ → List ℕ → Bool
first_sign look [] rs = false
first_sign look (k ∷ ks) [] = false
first_sign look (k ∷ ks) (r ∷ rs) = cond (k == word) (look r).signed (first_sign look ks rs)

-- the sign of what kind k makes: a word has that of its first word operand
unfoldable pub sign_of : (ℕ → Name) → ℕ → List ℕ → Bool
sign_of look k rs = (format_of k).result == word && first_sign look (format_of k).operands rs

-- with the id of the import, where the operation is one of GLSL.std.450
unfoldable pub planned : ℕ → Op → ℕ → List ℕ → Bool → Plan
planned set (Core n) t xs s = Made n t xs s
planned set (Glsl n) t xs s = Made 12 t (set ∷ n ∷ xs) s

-- an operation of kind k
unfoldable pub operation : Given → (ℕ → Name) → ℕ → List ℕ → Plan
operation g look k rs =
    let s = sign_of look k rs in
    planned (lent g 4) (op_of k) (type_id g (format_of k).result s) (map (λ r. (look r).id) rs) s

-- cast_i, cast_u: to the type that the word has already, it is that word
unfoldable pub casting : Given → (ℕ → Name) → ℕ → ℕ → Plan
casting g look k a =
    cond (xor (k == 23) (look a).signed) (planned (lent g 4) (op_of k) (type_id g 1 (k == 23)) ((look a).id ∷ []) (k == 23)) (Known (look a))

unfoldable pub plan_of : Given → (ℕ → Name) → Entry → Plan
plan_of g look (Of.Bare k) = cond (k == 2 || k == 3) (Known (name (const_id g (const k 0)) false)) (cond (k == 101) Closes Silent)
plan_of g look (Of.Word w) = Known (name (const_id g (const 1 w)) false)
plan_of g look (Of.Cell k n) = cond (k == 10) (Known (name (lent g (slots_at + n)) false)) (cond (k == 110) Silent (Made 61 (type_id g (format_of k).result false) (lent g (cells_at k + n) ∷ []) false))
plan_of g look (Of.Store k n r) = Stores (lent g (cells_at k + n)) (look r).id
plan_of g look (Of.One k a) =
    cond (k == 12) (Made 61 (type_id g 1 false) ((look a).id ∷ []) false)
    (cond (k == 100) (Opens (look a).id)
    (cond (k == 23 || k == 24) (casting g look k a) (operation g look k (a ∷ []))))
plan_of g look (Of.Two k a b) = operation g look k (a ∷ b ∷ [])
plan_of g look (Of.Three k a b c) = operation g look k (a ∷ b ∷ c ∷ [])
plan_of g look (Of.Four k a b c d) = cond (k == 11) (Made 65 (type_id g 4 false) ((look a).id ∷ (look b).id ∷ (look c).id ∷ (look d).id ∷ []) false) (operation g look k (a ∷ b ∷ c ∷ d ∷ []))

-- midway: the next id, the names of the values so far, the merge label of the block
pub record Midway : Type 0 where
  pub next : ℕ
  pub names : List Name
  pub merge : ℕ

abbrev pub midway : ℕ → List Name → ℕ → Midway
midway i ns l = record { next = i; names = ns; merge = l }

unfoldable pub instrs_by : Midway → Plan → List Instr
instrs_by m Silent = []
instrs_by m (Known n) = []
instrs_by m (Made op t xs s) = instr op (t ∷ m.next ∷ xs) ∷ []
instrs_by m (Stores p v) = instr 62 (p ∷ v ∷ []) ∷ []
instrs_by m (Opens c) = instr 247 (suc m.next ∷ 0 ∷ []) ∷ instr 250 (c ∷ m.next ∷ suc m.next ∷ []) ∷ instr 248 (m.next ∷ []) ∷ []
instrs_by m Closes = instr 249 (m.merge ∷ []) ∷ instr 248 (m.merge ∷ []) ∷ []

unfoldable pub after : Midway → Plan → Midway
after m Silent = m
after m (Known n) = midway m.next (m.names ++ (n ∷ [])) m.merge
after m (Made op t xs s) = midway (suc m.next) (m.names ++ (name m.next s ∷ [])) m.merge
after m (Stores p v) = m
after m (Opens c) = midway (suc (suc m.next)) m.names (suc m.next)
after m Closes = m

abbrev pub stepped : Given → Midway → Entry → Midway
stepped g m e = after m (plan_of g (name_at m.names) e)

unfoldable pub body_from : Given → Midway → List Entry → List Instr
body_from g m [] = []
body_from g m (e ∷ es) = instrs_by m (plan_of g (name_at m.names) e) ++ body_from g (stepped g m e) es

-- after all entries
unfoldable pub last_from : Given → Midway → List Entry → Midway
last_from g m [] = m
last_from g m (e ∷ es) = last_from g (stepped g m e) es

-- ---- the constants' instructions
abbrev pub const_instr : Given → ℕ → Const → Instr
const_instr g i k = cond (k.kind == 1) (instr 43 (lent g 0 ∷ i ∷ k.bits ∷ [])) (cond (k.kind == 2) (instr 41 (lent g 2 ∷ i ∷ [])) (instr 42 (lent g 2 ∷ i ∷ [])))

unfoldable pub const_instrs : Given → ℕ → List Const → List Instr
const_instrs g i [] = []
const_instrs g i (k ∷ ks) = const_instr g i k ∷ const_instrs g (suc i) ks

unfoldable pub given_of : List ℕ → ℕ → List Entry → Given
given_of table bound es = record { table = table; bound = bound; constants = constants_of es }

abbrev pub start_of : Given → Midway
start_of g = midway (g.bound + length g.constants) [] 0

unfoldable pub instrs_of_strip : List ℕ → ℕ → List Entry → List Instr
instrs_of_strip table bound es =
    let g = given_of table bound es in
    const_instrs g bound g.constants ++ body_from g (start_of g) es

-- the words of a strip
unfoldable pub strip_words : List ℕ → ℕ → List Entry → List ℕ
strip_words table bound es = all_words (instrs_of_strip table bound es)

-- the first id that is free after them
unfoldable pub next_id : List ℕ → ℕ → List Entry → ℕ
next_id table bound es = let g = given_of table bound es in (last_from g (start_of g) es).next

-- ---- the tests

-- 17: the first two words of a select or an insert differ in sign, a register store takes a signed word, an address's zero is not the constant 0
unfoldable pub clashes : Given → (ℕ → Name) → Entry → Bool
clashes g look (Of.Bare k) = false
clashes g look (Of.Word w) = false
clashes g look (Of.Cell k n) = false
clashes g look (Of.Store k n r) = k == 7 && (look r).signed
clashes g look (Of.One k a) = false
clashes g look (Of.Two k a b) = false
clashes g look (Of.Three k a b c) = k == 90 && xor (look b).signed (look c).signed
clashes g look (Of.Four k a b c d) =
    cond (k == 11) (not (listed g.constants (const 1 0) && (look b).id == const_id g (const 1 0))) (k == 93 && xor (look a).signed (look b).signed)

unfoldable pub clash_from : Given → Midway → List Entry → Bool
clash_from g m [] = false
clash_from g m (e ∷ es) = clashes g (name_at m.names) e || clash_from g (stepped g m e) es

-- 10: the ids
abbrev pub id_limit : ℕ
id_limit = 4194302

unfoldable pub among : List ℕ → ℕ → Bool
among [] x = false
among (y ∷ ys) x = y == x || among ys x

unfoldable pub distinct : List ℕ → Bool
distinct [] = true
distinct (x ∷ xs) = not (among xs x) && distinct xs

-- a lent id is not 0, below the bound and at most the limit
unfoldable pub lent_ok : ℕ → ℕ → Bool
lent_ok bound i = not (i == 0) && (nat_lt i bound && nat_le i id_limit)

-- the lent ids are 303, and none stands twice
unfoldable pub table_ok : List ℕ → ℕ → Bool
table_ok table bound = length table == 303 && (all (lent_ok bound) table && distinct table)

-- and the last new one, if there is one, is at most the limit
unfoldable pub ids_ok : List ℕ → ℕ → List Entry → Bool
ids_ok table bound es = nat_le (next_id table bound es) (suc id_limit) || next_id table bound es == bound

-- ---- the answer
pub data Written : Type 0 where
  -- the words, how many of them are the constants', the first free id
  Words : List ℕ → ℕ → ℕ → Written
  Refused : ℕ → Written

abbrev pub fitting : List ℕ → ℕ → ℕ → ℕ → Written
fitting ws n next room = cond (nat_lt room (length ws)) (Refused 11) (Words ws n next)

unfoldable pub strip_answer : List ℕ → ℕ → ℕ → List Entry → Written
strip_answer table bound room es =
    let g = given_of table bound es in
    cond (clash_from g (start_of g) es) (Refused 17)
    (cond (table_ok table bound && ids_ok table bound es)
    (fitting (strip_words table bound es) (length (all_words (const_instrs g bound g.constants))) (next_id table bound es) room)
    (Refused 10))

abbrev pub only_strip : (List Entry → Written) → Option (List (List Entry)) → Written
only_strip f none = Refused 7
only_strip f (some []) = Refused 7
only_strip f (some (es ∷ [])) = f es
only_strip f (some (es ∷ ds ∷ ss)) = Refused 7

-- from the bytes of one strip
unfoldable pub written : List ℕ → ℕ → List ℕ → ℕ → Written
written run bound table room = cond (shape_ok wide run) (only_strip (strip_answer table bound room) (decode wide run)) (Refused 7)
