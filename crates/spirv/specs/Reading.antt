-- Reading SPIR-V words by the meanings of the specification (SPIR-V unified specification, chapter 3; GLSL.std.450). Nothing here knows of
-- strips. The words are those of a list of constants and of a function's body between its prologue and its end; the environment gives the
-- ids that the module around them declares. Operations on words and truths are the Khronos definitions of evaluation/specs/Word.antt.
use Rattle.std.specs.Prelude.{ℕ, ◌+◌, ◌*◌, Bool, true, false, cond, not, ◌&&◌, ◌||◌, List, [], ◌∷◌, length, ◌==◌, bit_and, bit_or, bit_xor, nat_le, nat_lt, slice_index, slice_index_or}
use Rattle.std.proofs.Math.Option.{Option, none, some}
use Rattle.std.specs.Bool.{xor}
use Rattle.evaluation.specs.declared.value.Value.{Value}
use Rattle.evaluation.specs.declared.value.Value.TheVariants.{Undefined, Word, Truth, Address}
use Rattle.evaluation.specs.declared.state.State.{State}
use Rattle.evaluation.specs.State.{stored_reg, stored_pred, stored_flag}
use Rattle.evaluation.specs.Value.{with_word, with_truth, with_slot, with_address}
use Rattle.evaluation.specs.Word.{not_word, bit_reverse, bit_count, s_abs, find_smsb, find_umsb, i_add, i_sub, i_mul, shift_left, shift_right, shift_right_arithmetic, u_min, s_min, u_max, s_max, s_less, field, sign_extended, inserted}
use Rattle.spirv.specs.Instr.{Instr, instrs_of}

-- what an id names
pub data Thing : Type 0 where
  Nothing : Thing
  -- the unsigned type, the signed one, that of truths, that of pointers to constant words
  Types : ℕ → Thing
  -- the import of GLSL.std.450
  Imported : Thing
  -- variables
  Register : ℕ → Thing
  Predicate : ℕ → Thing
  Flag : ℕ → Thing
  -- a word, a truth, an undefined one, a pointer to a slot's constants or to one of them
  Holds : Value → Thing

abbrev pub Env : Type 0
Env = ℕ → Thing

unfoldable pub bind : Env → ℕ → Value → Env
bind env i v j = cond (j == i) (Holds v) (env j)

-- the values that ids name; none where one names no value
unfoldable pub joined : Thing → Option (List Value) → Option (List Value)
joined Nothing o = none
joined (Types n) o = none
joined Imported o = none
joined (Register n) o = none
joined (Predicate n) o = none
joined (Flag n) o = none
joined (Holds v) none = none
joined (Holds v) (some vs) = some (v ∷ vs)

unfoldable pub values_of : Env → List ℕ → Option (List Value)
values_of env [] = some []
values_of env (i ∷ is) = joined (env i) (values_of env is)

-- ---- instructions that make a value from values: a result with an undefined operand is undefined, and so is one with an operand of another
-- type, which no valid module has

abbrev word1 : Value → (ℕ → Value) → Option Value
word1 a f = some (with_word Undefined a f)

abbrev word2 : Value → Value → (ℕ → ℕ → Value) → Option Value
word2 a b f = some (with_word Undefined a (λ x. with_word Undefined b (λ y. f x y)))

abbrev truth2 : Value → Value → (Bool → Bool → Bool) → Option Value
truth2 a b f = some (with_truth Undefined a (λ s. with_truth Undefined b (λ t. Truth (f s t))))

unfoldable pub one_op : ℕ → Value → Option Value
one_op op a =
    cond (op == 200) (word1 a (λ x. Word (not_word x)))  -- OpNot
    (cond (op == 204) (word1 a (λ x. Word (bit_reverse x)))  -- OpBitReverse
    (cond (op == 205) (word1 a (λ x. Word (bit_count x)))  -- OpBitCount
    (cond (op == 124) (word1 a (λ x. Word x))  -- OpBitcast
    (cond (op == 168) (some (with_truth Undefined a (λ t. Truth (not t))))  -- OpLogicalNot
    none))))

unfoldable pub two_op : ℕ → Value → Value → Option Value
two_op op a b =
    cond (op == 128) (word2 a b (λ x y. Word (i_add x y)))  -- OpIAdd
    (cond (op == 130) (word2 a b (λ x y. Word (i_sub x y)))  -- OpISub
    (cond (op == 132) (word2 a b (λ x y. Word (i_mul x y)))  -- OpIMul
    (cond (op == 196) (word2 a b (λ x y. shift_left x y))  -- OpShiftLeftLogical
    (cond (op == 194) (word2 a b (λ x y. shift_right x y))  -- OpShiftRightLogical
    (cond (op == 195) (word2 a b (λ x y. shift_right_arithmetic x y))  -- OpShiftRightArithmetic
    (cond (op == 199) (word2 a b (λ x y. Word (bit_and x y)))  -- OpBitwiseAnd
    (cond (op == 197) (word2 a b (λ x y. Word (bit_or x y)))  -- OpBitwiseOr
    (cond (op == 198) (word2 a b (λ x y. Word (bit_xor x y)))  -- OpBitwiseXor
    (cond (op == 170) (word2 a b (λ x y. Truth (x == y)))  -- OpIEqual
    (cond (op == 171) (word2 a b (λ x y. Truth (not (x == y))))  -- OpINotEqual
    (cond (op == 176) (word2 a b (λ x y. Truth (nat_lt x y)))  -- OpULessThan
    (cond (op == 178) (word2 a b (λ x y. Truth (nat_le x y)))  -- OpULessThanEqual
    (cond (op == 172) (word2 a b (λ x y. Truth (nat_lt y x)))  -- OpUGreaterThan
    (cond (op == 174) (word2 a b (λ x y. Truth (nat_le y x)))  -- OpUGreaterThanEqual
    (cond (op == 177) (word2 a b (λ x y. Truth (s_less x y)))  -- OpSLessThan
    (cond (op == 179) (word2 a b (λ x y. Truth (not (s_less y x))))  -- OpSLessThanEqual
    (cond (op == 173) (word2 a b (λ x y. Truth (s_less y x)))  -- OpSGreaterThan
    (cond (op == 175) (word2 a b (λ x y. Truth (not (s_less x y))))  -- OpSGreaterThanEqual
    (cond (op == 167) (truth2 a b (λ s t. s && t))  -- OpLogicalAnd
    (cond (op == 166) (truth2 a b (λ s t. s || t))  -- OpLogicalOr
    (cond (op == 165) (truth2 a b (λ s t. xor s t))  -- OpLogicalNotEqual
    none)))))))))))))))))))))

unfoldable pub three_op : ℕ → Value → Value → Value → Option Value
three_op op a b c =
    cond (op == 169) (some (with_truth Undefined a (λ t. cond t b c)))  -- OpSelect: its condition and the chosen word
    (cond (op == 203) (some (with_word Undefined a (λ x. with_word Undefined b (λ o. with_word Undefined c (λ n. cond (nat_le (o + n) 32) (Word (field x o n)) Undefined)))))  -- OpBitFieldUExtract
    (cond (op == 202) (some (with_word Undefined a (λ x. with_word Undefined b (λ o. with_word Undefined c (λ n. cond (nat_le (o + n) 32) (Word (sign_extended n (field x o n))) Undefined)))))  -- OpBitFieldSExtract
    none))

unfoldable pub four_op : ℕ → Value → Value → Value → Value → Option Value
four_op op a b c d =
    cond (op == 201) (some (with_word Undefined a (λ x. with_word Undefined b (λ v. with_word Undefined c (λ o. with_word Undefined d (λ n. cond (nat_le (o + n) 32) (Word (inserted x v o n)) Undefined))))))  -- OpBitFieldInsert
    none

unfoldable pub core_op : ℕ → List Value → Option Value
core_op op [] = none
core_op op (a ∷ []) = one_op op a
core_op op (a ∷ b ∷ []) = two_op op a b
core_op op (a ∷ b ∷ c ∷ []) = three_op op a b c
core_op op (a ∷ b ∷ c ∷ d ∷ []) = four_op op a b c d
core_op op (a ∷ b ∷ c ∷ d ∷ e ∷ es) = none

-- GLSL.std.450, by the instruction's number
unfoldable pub one_glsl : ℕ → Value → Option Value
one_glsl n a =
    cond (n == 5) (word1 a (λ x. Word (s_abs x)))  -- SAbs
    (cond (n == 74) (word1 a (λ x. Word (find_smsb x)))  -- FindSMsb
    (cond (n == 75) (word1 a (λ x. Word (find_umsb x)))  -- FindUMsb
    none))

unfoldable pub two_glsl : ℕ → Value → Value → Option Value
two_glsl n a b =
    cond (n == 38) (word2 a b (λ x y. Word (u_min x y)))  -- UMin
    (cond (n == 39) (word2 a b (λ x y. Word (s_min x y)))  -- SMin
    (cond (n == 41) (word2 a b (λ x y. Word (u_max x y)))  -- UMax
    (cond (n == 42) (word2 a b (λ x y. Word (s_max x y)))  -- SMax
    none)))

unfoldable pub glsl_op : ℕ → List Value → Option Value
glsl_op n [] = none
glsl_op n (a ∷ []) = one_glsl n a
glsl_op n (a ∷ b ∷ []) = two_glsl n a b
glsl_op n (a ∷ b ∷ c ∷ es) = none

-- ---- one instruction

-- what an instruction does
pub data Act : Type 0 where
  Bind : ℕ → Value → Act
  Write : State → Act
  Jump : ℕ → Act
  On : Act
  -- an undefined value at a store, a branch or an address
  Undef : Act
  -- an address of a slot, vector and component that no lent constant has
  Beyond : ℕ → ℕ → ℕ → Act
  -- no instruction that a valid body of this kind has
  Invalid : Act

unfoldable pub made : ℕ → Option Value → Act
made i none = Invalid
made i (some v) = Bind i v

unfoldable pub meant : (List Value → Option Value) → ℕ → Option (List Value) → Act
meant f i none = Invalid
meant f i (some vs) = made i (f vs)

-- an operation: type, result, operands
unfoldable pub operating : Env → ℕ → List ℕ → Act
operating env op [] = Invalid
operating env op (t ∷ []) = Invalid
operating env op (t ∷ i ∷ xs) = meant (core_op op) i (values_of env xs)

-- OpExtInst: type, result, set, number, operands
unfoldable pub in_set : Thing → Act → Act
in_set Imported a = a
in_set Nothing a = Invalid
in_set (Types n) a = Invalid
in_set (Register n) a = Invalid
in_set (Predicate n) a = Invalid
in_set (Flag n) a = Invalid
in_set (Holds v) a = Invalid

unfoldable pub extending : Env → List ℕ → Act
extending env [] = Invalid
extending env (t ∷ []) = Invalid
extending env (t ∷ i ∷ []) = Invalid
extending env (t ∷ i ∷ l ∷ []) = Invalid
extending env (t ∷ i ∷ l ∷ n ∷ xs) = in_set (env l) (meant (glsl_op n) i (values_of env xs))

-- OpConstant: type, result, the word
unfoldable pub typed : Thing → ℕ → ℕ → Act
typed (Types n) i w = cond (nat_lt n 2) (Bind i (Word w)) Invalid
typed Nothing i w = Invalid
typed Imported i w = Invalid
typed (Register n) i w = Invalid
typed (Predicate n) i w = Invalid
typed (Flag n) i w = Invalid
typed (Holds v) i w = Invalid

unfoldable pub constant : Env → List ℕ → Act
constant env [] = Invalid
constant env (t ∷ []) = Invalid
constant env (t ∷ i ∷ []) = Invalid
constant env (t ∷ i ∷ w ∷ []) = typed (env t) i w
constant env (t ∷ i ∷ w ∷ x ∷ xs) = Invalid

-- OpConstantTrue, OpConstantFalse: type, result
unfoldable pub constant_truth : Bool → List ℕ → Act
constant_truth b [] = Invalid
constant_truth b (t ∷ []) = Invalid
constant_truth b (t ∷ i ∷ []) = Bind i (Truth b)
constant_truth b (t ∷ i ∷ x ∷ xs) = Invalid

-- OpLoad: type, result, pointer
unfoldable pub load_from : List ℕ → State → ℕ → Thing → Act
load_from cs s i (Register n) = Bind i (Word (slice_index s.regs n))
load_from cs s i (Predicate n) = Bind i (Truth (slice_index_or s.preds n false))
load_from cs s i (Flag n) = Bind i (Truth (slice_index_or s.flags n false))
load_from cs s i (Holds v) = Bind i (with_address Undefined v (λ j. cond (nat_lt j (length cs)) (Word (slice_index cs j)) Undefined))
load_from cs s i Nothing = Invalid
load_from cs s i (Types n) = Invalid
load_from cs s i Imported = Invalid

unfoldable pub loading : List ℕ → State → Env → List ℕ → Act
loading cs s env [] = Invalid
loading cs s env (t ∷ []) = Invalid
loading cs s env (t ∷ i ∷ []) = Invalid
loading cs s env (t ∷ i ∷ p ∷ []) = load_from cs s i (env p)
loading cs s env (t ∷ i ∷ p ∷ x ∷ xs) = Invalid

-- OpStore: pointer, value
unfoldable pub store_to : State → Thing → Value → Act
store_to s (Register n) v = with_word Undef v (λ w. Write (stored_reg s n w))
store_to s (Predicate n) v = with_truth Undef v (λ t. Write (stored_pred s n t))
store_to s (Flag n) v = with_truth Undef v (λ t. Write (stored_flag s n t))
store_to s Nothing v = Invalid
store_to s (Types n) v = Invalid
store_to s Imported v = Invalid
store_to s (Holds u) v = Invalid

-- an act on the one value that was wanted
unfoldable pub with_one : Option (List Value) → (Value → Act) → Act
with_one none f = Invalid
with_one (some []) f = Invalid
with_one (some (v ∷ [])) f = f v
with_one (some (v ∷ u ∷ vs)) f = Invalid

unfoldable pub writing : State → Env → List ℕ → Act
writing s env [] = Invalid
writing s env (p ∷ []) = Invalid
writing s env (p ∷ v ∷ []) = with_one (values_of env (v ∷ [])) (store_to s (env p))
writing s env (p ∷ v ∷ x ∷ xs) = Invalid

-- OpAccessChain into a slot's block, an array of 4,096 vectors of four words: type, result, base, member, vector, component
unfoldable pub placed : ℕ → ℕ → ℕ → ℕ → ℕ → ℕ → Act
placed i s z vec comp size =
    cond (z == 0 && (nat_le vec 4095 && (nat_le comp 3 && nat_lt (s * 16384 + vec * 4 + comp) size))) (Bind i (Address (s * 16384 + vec * 4 + comp))) (Beyond s vec comp)

unfoldable pub chained : ℕ → ℕ → Option (List Value) → Act
chained size i none = Invalid
chained size i (some []) = Invalid
chained size i (some (b ∷ [])) = Invalid
chained size i (some (b ∷ z ∷ [])) = Invalid
chained size i (some (b ∷ z ∷ v ∷ [])) = Invalid
chained size i (some (b ∷ z ∷ v ∷ c ∷ [])) = with_slot Undef b (λ s. with_word Undef z (λ x. with_word Undef v (λ y. with_word Undef c (λ w. placed i s x y w size))))
chained size i (some (b ∷ z ∷ v ∷ c ∷ d ∷ ds)) = Invalid

unfoldable pub chaining : List ℕ → Env → List ℕ → Act
chaining cs env [] = Invalid
chaining cs env (t ∷ []) = Invalid
chaining cs env (t ∷ i ∷ xs) = chained (length cs) i (values_of env xs)

-- OpSelectionMerge: the merge block, control
unfoldable pub merging : List ℕ → Act
merging [] = Invalid
merging (l ∷ []) = Invalid
merging (l ∷ k ∷ []) = On
merging (l ∷ k ∷ x ∷ xs) = Invalid

-- OpBranchConditional: condition, the block where it is true, the other
unfoldable pub branching : Env → List ℕ → Act
branching env [] = Invalid
branching env (c ∷ []) = Invalid
branching env (c ∷ t ∷ []) = Invalid
branching env (c ∷ t ∷ f ∷ []) = with_one (values_of env (c ∷ [])) (λ v. with_truth Undef v (λ b. Jump (cond b t f)))
branching env (c ∷ t ∷ f ∷ x ∷ xs) = Invalid

-- OpBranch: the block
unfoldable pub jumping : List ℕ → Act
jumping [] = Invalid
jumping (l ∷ []) = Jump l
jumping (l ∷ x ∷ xs) = Invalid

-- what an instruction does, by its opcode; a label stands only where a block begins, after a branch
unfoldable pub act_of : List ℕ → State → Env → ℕ → List ℕ → Act
act_of cs s env op xs =
    cond (op == 43) (constant env xs)
    (cond (op == 41) (constant_truth true xs)
    (cond (op == 42) (constant_truth false xs)
    (cond (op == 61) (loading cs s env xs)
    (cond (op == 62) (writing s env xs)
    (cond (op == 65) (chaining cs env xs)
    (cond (op == 12) (extending env xs)
    (cond (op == 247) (merging xs)
    (cond (op == 250) (branching env xs)
    (cond (op == 249) (jumping xs)
    (operating env op xs))))))))))

-- ---- a body

-- in a block, or on the way to the block that a branch names, which stands after it
pub data Mode : Type 0 where
  Running : Mode
  Seeking : ℕ → Mode

-- how reading ends
pub data Answer : Type 0 where
  Ended : State → Answer
  -- an undefined value met, with the instructions from that one on
  Stopped : State → List Instr → Answer
  -- a constant missed: its slot, vector and component
  Lacking : State → List Instr → ℕ → ℕ → ℕ → Answer
  Broken : Answer

-- OpLabel of this id
unfoldable pub labels : ℕ → ℕ → List ℕ → Bool
labels l op [] = false
labels l op (x ∷ []) = op == 248 && x == l
labels l op (x ∷ y ∷ xs) = false

-- an id is given once
unfoldable pub when_free : Thing → Answer → Answer
when_free Nothing a = a
when_free (Types n) a = Broken
when_free Imported a = Broken
when_free (Register n) a = Broken
when_free (Predicate n) a = Broken
when_free (Flag n) a = Broken
when_free (Holds v) a = Broken

-- after an act; here: the instructions from its own on
unfoldable pub onward : State → Env → List Instr → (State → Env → Mode → Answer) → Act → Answer
onward s env here go (Bind i v) = when_free (env i) (go s (bind env i v) Running)
onward s env here go (Write t) = go t env Running
onward s env here go (Jump l) = go s env (Seeking l)
onward s env here go On = go s env Running
onward s env here go Undef = Stopped s here
onward s env here go (Beyond slot vec comp) = Lacking s here slot vec comp
onward s env here go Invalid = Broken

unfoldable pub read_from : List ℕ → List Instr → State → Env → Mode → Answer
read_from cs [] s env Running = Ended s
read_from cs [] s env (Seeking l) = Broken
read_from cs (i ∷ is) s env Running = onward s env (i ∷ is) (read_from cs is) (act_of cs s env i.op i.operands)
read_from cs (i ∷ is) s env (Seeking l) = cond (labels l i.op i.operands) (read_from cs is s env Running) (read_from cs is s env (Seeking l))

abbrev pub read_option : List ℕ → Option (List Instr) → State → Env → Answer
read_option cs none s env = Broken
read_option cs (some is) s env = read_from cs is s env Running

-- the meaning of words in an environment, from a state, over lent constants
unfoldable pub meaning : List ℕ → Env → State → List ℕ → Answer
meaning ws env s cs = read_option cs (instrs_of ws) s env
