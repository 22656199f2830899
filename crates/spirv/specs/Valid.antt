-- What the SPIR-V specification calls valid, of the words of a list of constants and of a function's body between its prologue and its end: types
-- and ids (chapter 3, the rules of each instruction; 2.16.1 'Universal Validation Rules'), blocks (2.11 'Structured Control Flow') and layout (2.4
-- 'Logical Layout of a Module'). A static check of the instructions as they stand, whatever runs. Nothing here knows of strips.
use Rattle.std.specs.Prelude.{ℕ, Bool, true, false, cond, not, ◌&&◌, ◌||◌, List, [], ◌∷◌, ◌++◌, map, take, drop, ◌==◌, nat_lt, slice_index}
use Rattle.std.proofs.Math.Option.{Option, none, some}
use Rattle.strip.specs.Shape.{all}
use Rattle.spirv.specs.Instr.{Instr, instrs_of}
use Rattle.spirv.specs.Reading.{labels}

-- what an id stands for. Types: 0 unsigned words, 1 signed words, 2 truths, 3 pointers to constant words
pub data Sort : Type 0 where
  Unnamed : Sort
  TypeIs : ℕ → Sort
  -- the import of GLSL.std.450
  SetIs : Sort
  -- a variable of words (0) or truths (2)
  Variable : ℕ → Sort
  -- a slot's variable
  Block : Sort
  -- a value of this type
  Typed : ℕ → Sort
  -- the unsigned constant 0
  Zero : Sort
  -- a block of the function
  Label : Sort

abbrev pub Sorts : Type 0
Sorts = ℕ → Sort

-- the type that it is; 7: it is none
unfoldable pub type_number : Sort → ℕ
type_number (TypeIs n) = n
type_number Unnamed = 7
type_number SetIs = 7
type_number (Variable n) = 7
type_number Block = 7
type_number (Typed n) = 7
type_number Zero = 7
type_number Label = 7

-- the type of the value that it is; 8: it is none
unfoldable pub value_type : Sort → ℕ
value_type (Typed n) = n
value_type Zero = 0
value_type Unnamed = 8
value_type (TypeIs n) = 8
value_type SetIs = 8
value_type (Variable n) = 8
value_type Block = 8
value_type Label = 8

-- the type that a pointer points to; 9: it is no pointer
unfoldable pub pointee : Sort → ℕ
pointee (Variable n) = n
pointee (Typed n) = cond (n == 3) 0 9
pointee Zero = 9
pointee Unnamed = 9
pointee (TypeIs n) = 9
pointee SetIs = 9
pointee Block = 9
pointee Label = 9

-- which of them it is
abbrev pub which : Sort → ℕ
which Unnamed = 0
which (TypeIs n) = 1
which SetIs = 2
which (Variable n) = 3
which Block = 4
which (Typed n) = 5
which Zero = 6
which Label = 7

abbrev pub is_unnamed : Sort → Bool
is_unnamed s = which s == 0

abbrev pub is_set : Sort → Bool
is_set s = which s == 2

abbrev pub is_variable : Sort → Bool
is_variable s = which s == 3

abbrev pub is_block : Sort → Bool
is_block s = which s == 4

abbrev pub is_zero : Sort → Bool
is_zero s = which s == 6

-- ---- the rules of operations

-- what an operand or a result may be
abbrev pub integer : ℕ
integer = 0

abbrev pub boolean : ℕ
boolean = 2

-- an integer of the result's type
abbrev pub same : ℕ
same = 5

-- an integer of another type than the result's
abbrev pub other : ℕ
other = 6

pub record Rule : Type 0 where
  pub code : ℕ
  pub result : ℕ
  pub operands : List ℕ

abbrev rule : ℕ → ℕ → List ℕ → Rule
rule c r os = record { code = c; result = r; operands = os }

abbrev integers : List ℕ
integers = integer ∷ integer ∷ []

abbrev booleans : List ℕ
booleans = boolean ∷ boolean ∷ []

abbrev pub core_rules : List Rule
core_rules =
    rule 200 integer (integer ∷ [])  -- OpNot
    ∷ rule 204 integer (same ∷ [])  -- OpBitReverse
    ∷ rule 205 integer (integer ∷ [])  -- OpBitCount
    ∷ rule 124 integer (other ∷ [])  -- OpBitcast
    ∷ rule 128 integer integers  -- OpIAdd
    ∷ rule 130 integer integers  -- OpISub
    ∷ rule 132 integer integers  -- OpIMul
    ∷ rule 196 integer integers  -- OpShiftLeftLogical
    ∷ rule 194 integer integers  -- OpShiftRightLogical
    ∷ rule 195 integer integers  -- OpShiftRightArithmetic
    ∷ rule 199 integer integers  -- OpBitwiseAnd
    ∷ rule 197 integer integers  -- OpBitwiseOr
    ∷ rule 198 integer integers  -- OpBitwiseXor
    ∷ rule 170 boolean integers  -- OpIEqual
    ∷ rule 171 boolean integers  -- OpINotEqual
    ∷ rule 176 boolean integers  -- OpULessThan
    ∷ rule 178 boolean integers  -- OpULessThanEqual
    ∷ rule 172 boolean integers  -- OpUGreaterThan
    ∷ rule 174 boolean integers  -- OpUGreaterThanEqual
    ∷ rule 177 boolean integers  -- OpSLessThan
    ∷ rule 179 boolean integers  -- OpSLessThanEqual
    ∷ rule 173 boolean integers  -- OpSGreaterThan
    ∷ rule 175 boolean integers  -- OpSGreaterThanEqual
    ∷ rule 168 boolean (boolean ∷ [])  -- OpLogicalNot
    ∷ rule 167 boolean booleans  -- OpLogicalAnd
    ∷ rule 166 boolean booleans  -- OpLogicalOr
    ∷ rule 165 boolean booleans  -- OpLogicalNotEqual
    ∷ rule 169 integer (boolean ∷ same ∷ same ∷ [])  -- OpSelect
    ∷ rule 203 integer (same ∷ integer ∷ integer ∷ [])  -- OpBitFieldUExtract
    ∷ rule 202 integer (same ∷ integer ∷ integer ∷ [])  -- OpBitFieldSExtract
    ∷ rule 201 integer (same ∷ same ∷ integer ∷ integer ∷ [])  -- OpBitFieldInsert
    ∷ []

abbrev pub glsl_rules : List Rule
glsl_rules =
    rule 5 integer (integer ∷ [])  -- SAbs
    ∷ rule 74 integer (integer ∷ [])  -- FindSMsb
    ∷ rule 75 integer (integer ∷ [])  -- FindUMsb
    ∷ rule 38 integer integers  -- UMin
    ∷ rule 39 integer integers  -- SMin
    ∷ rule 41 integer integers  -- UMax
    ∷ rule 42 integer integers  -- SMax
    ∷ []

-- no rule is passed by nothing
unfoldable pub rule_of : List Rule → ℕ → Rule
rule_of [] c = rule 0 9 []
rule_of (r ∷ rs) c = cond (c == r.code) r (rule_of rs c)

abbrev pub fit : ℕ → ℕ → ℕ → Bool
fit o t v = cond (o == 0) (nat_lt v 2) (cond (o == 2) (v == 2) (cond (o == 5) (v == t) (nat_lt v 2 && not (v == t))))

unfoldable pub fit_all : List ℕ → ℕ → List ℕ → Bool
fit_all [] t [] = true
fit_all [] t (v ∷ vs) = false
fit_all (o ∷ os) t [] = false
fit_all (o ∷ os) t (v ∷ vs) = fit o t v && fit_all os t vs

unfoldable pub rule_ok : Rule → ℕ → List ℕ → Bool
rule_ok r t vs = cond (r.result == 0) (nat_lt t 2) (r.result == 2 && t == 2) && fit_all r.operands t vs

-- ---- instructions

-- the result, an id that stands for nothing yet, and from now on for this
unfoldable pub result : Bool → Sorts → ℕ → Sort → Option Sorts
result ok T i s = cond (ok && is_unnamed (T i)) (some (λ j. cond (j == i) s (T j))) none

abbrev pub types : Sorts → List ℕ → List ℕ
types T xs = map (λ i. value_type (T i)) xs

-- OpConstant: type, result, word
unfoldable pub check_const : Sorts → List ℕ → Option Sorts
check_const T [] = none
check_const T (t ∷ []) = none
check_const T (t ∷ i ∷ []) = none
check_const T (t ∷ i ∷ w ∷ []) = result (nat_lt (type_number (T t)) 2) T i (cond (type_number (T t) == 0 && w == 0) Zero (Typed (type_number (T t))))
check_const T (t ∷ i ∷ w ∷ x ∷ xs) = none

-- OpConstantTrue, OpConstantFalse: type, result
unfoldable pub check_truth : Sorts → List ℕ → Option Sorts
check_truth T [] = none
check_truth T (t ∷ []) = none
check_truth T (t ∷ i ∷ []) = result (type_number (T t) == 2) T i (Typed 2)
check_truth T (t ∷ i ∷ x ∷ xs) = none

-- OpLoad: type, result, pointer
unfoldable pub check_load : Sorts → List ℕ → Option Sorts
check_load T [] = none
check_load T (t ∷ []) = none
check_load T (t ∷ i ∷ []) = none
check_load T (t ∷ i ∷ p ∷ []) = result (pointee (T p) == type_number (T t)) T i (Typed (type_number (T t)))
check_load T (t ∷ i ∷ p ∷ x ∷ xs) = none

-- OpStore: pointer, value
unfoldable pub check_store : Sorts → List ℕ → Option Sorts
check_store T [] = none
check_store T (p ∷ []) = none
check_store T (p ∷ v ∷ []) = cond (is_variable (T p) && pointee (T p) == value_type (T v)) (some T) none
check_store T (p ∷ v ∷ x ∷ xs) = none

-- OpAccessChain: type, result, base, member (the constant 0), vector, component
unfoldable pub check_chain : Sorts → List ℕ → Option Sorts
check_chain T [] = none
check_chain T (t ∷ []) = none
check_chain T (t ∷ i ∷ []) = none
check_chain T (t ∷ i ∷ b ∷ []) = none
check_chain T (t ∷ i ∷ b ∷ z ∷ []) = none
check_chain T (t ∷ i ∷ b ∷ z ∷ v ∷ []) = none
check_chain T (t ∷ i ∷ b ∷ z ∷ v ∷ c ∷ []) =
    result (type_number (T t) == 3 && (is_block (T b) && (is_zero (T z) && (nat_lt (value_type (T v)) 2 && nat_lt (value_type (T c)) 2)))) T i (Typed 3)
check_chain T (t ∷ i ∷ b ∷ z ∷ v ∷ c ∷ x ∷ xs) = none

-- an operation: type, result, operands
unfoldable pub check_op : List Rule → Sorts → ℕ → ℕ → ℕ → List ℕ → Option Sorts
check_op rs T op t i xs = result (rule_ok (rule_of rs op) (type_number (T t)) (types T xs)) T i (Typed (type_number (T t)))

unfoldable pub check_core : Sorts → ℕ → List ℕ → Option Sorts
check_core T op [] = none
check_core T op (t ∷ []) = none
check_core T op (t ∷ i ∷ xs) = check_op core_rules T op t i xs

-- OpExtInst: type, result, set, number, operands
unfoldable pub check_glsl : Sorts → List ℕ → Option Sorts
check_glsl T [] = none
check_glsl T (t ∷ []) = none
check_glsl T (t ∷ i ∷ []) = none
check_glsl T (t ∷ i ∷ l ∷ []) = none
check_glsl T (t ∷ i ∷ l ∷ n ∷ xs) = cond (is_set (T l)) (check_op glsl_rules T n t i xs) none

-- OpSelectionMerge: merge block, selection control. Its label and those of branches are left to the check of blocks.
unfoldable pub check_merge : Sorts → List ℕ → Option Sorts
check_merge T [] = none
check_merge T (l ∷ []) = none
check_merge T (l ∷ k ∷ []) = some T
check_merge T (l ∷ k ∷ x ∷ xs) = none

-- OpBranchConditional: condition, true label, false label
unfoldable pub check_branch : Sorts → List ℕ → Option Sorts
check_branch T [] = none
check_branch T (c ∷ []) = none
check_branch T (c ∷ t ∷ []) = none
check_branch T (c ∷ t ∷ f ∷ []) = cond (value_type (T c) == 2) (some T) none
check_branch T (c ∷ t ∷ f ∷ x ∷ xs) = none

-- OpBranch: target label
unfoldable pub check_jump : Sorts → List ℕ → Option Sorts
check_jump T [] = none
check_jump T (l ∷ []) = some T
check_jump T (l ∷ x ∷ xs) = none

-- OpLabel: result
unfoldable pub check_label : Sorts → List ℕ → Option Sorts
check_label T [] = none
check_label T (l ∷ []) = result true T l Label
check_label T (l ∷ x ∷ xs) = none

unfoldable pub checked : Sorts → ℕ → List ℕ → Option Sorts
checked T op xs =
    cond (op == 43) (check_const T xs)
    (cond (op == 41) (check_truth T xs)
    (cond (op == 42) (check_truth T xs)
    (cond (op == 61) (check_load T xs)
    (cond (op == 62) (check_store T xs)
    (cond (op == 65) (check_chain T xs)
    (cond (op == 12) (check_glsl T xs)
    (cond (op == 247) (check_merge T xs)
    (cond (op == 250) (check_branch T xs)
    (cond (op == 249) (check_jump T xs)
    (cond (op == 248) (check_label T xs)
    (check_core T op xs)))))))))))

abbrev pub then_valid : (Sorts → Bool) → Option Sorts → Bool
then_valid f none = false
then_valid f (some T) = f T

-- every instruction has the length and the types that its rule asks for, uses ids made before it, and makes one that stood for nothing
unfoldable pub valid_from : List Instr → Sorts → Bool
valid_from [] T = true
valid_from (i ∷ is) T = then_valid (valid_from is) (checked T i.op i.operands)

-- ---- the ids that instructions make

-- OpLabel: the first operand; OpStore, OpSelectionMerge, OpBranch, OpBranchConditional: none; the others name a type first, then the result
abbrev pub result_of : ℕ → List ℕ → List ℕ
result_of op xs = cond (op == 248) (take 1 xs) (cond (op == 62 || (op == 247 || (op == 249 || op == 250))) [] (take 1 (drop 1 xs)))

unfoldable pub results_of : List Instr → List ℕ
results_of [] = []
results_of (i ∷ is) = result_of i.op i.operands ++ results_of is

-- ---- blocks (2.2.5 'Control Flow', 2.11 'Structured Control Flow'): selections without an else block, one after another or one in another. A
-- header ends with OpSelectionMerge and OpBranchConditional, to the block that follows or to the merge block; the last block of a selection ends
-- with OpBranch to the merge block, which follows.

-- where an instruction stands
pub data Place : Type 0 where
  InBlock : Place
  -- directly after OpSelectionMerge of this merge block
  Selecting : ℕ → Place
  -- after a branch, which ends its block, where this one begins
  Beginning : ℕ → Place

abbrev pub first : List ℕ → ℕ
first xs = slice_index xs 0

abbrev pub innermost : List ℕ → ℕ → Bool
innermost [] l = false
innermost (m ∷ ms) l = m == l

-- OpBranchConditional whose false label is m
abbrev pub selects : ℕ → ℕ → List ℕ → Bool
selects m op xs = op == 250 && slice_index xs 2 == m

-- ms: the merge blocks of the selections around, the inner one first. The end of the last block follows these words.
unfoldable pub structured_from : Place → List ℕ → List Instr → Bool
structured_from InBlock [] [] = true
structured_from InBlock (m ∷ ms) [] = false
structured_from (Selecting m) ms [] = false
structured_from (Beginning l) ms [] = false
structured_from InBlock ms (i ∷ is) =
    cond (i.op == 247) (structured_from (Selecting (first i.operands)) ms is)
    (cond (i.op == 249) (innermost ms (first i.operands) && structured_from (Beginning (first i.operands)) (drop 1 ms) is)
    (not (i.op == 248 || i.op == 250) && structured_from InBlock ms is))
structured_from (Selecting m) ms (i ∷ is) = selects m i.op i.operands && structured_from (Beginning (slice_index i.operands 1)) (m ∷ ms) is
structured_from (Beginning l) ms (i ∷ is) = labels l i.op i.operands && structured_from InBlock ms is

abbrev pub structured : List Instr → Bool
structured is = structured_from InBlock [] is

-- ---- scope (2.16.1: what makes an id dominates each use of it): ids made in a selection are not used from its merge block on

-- the instructions before OpLabel of this id, and after it
unfoldable pub until : ℕ → List Instr → List Instr
until l [] = []
until l (i ∷ is) = cond (labels l i.op i.operands) [] (i ∷ until l is)

unfoldable pub since : ℕ → List Instr → List Instr
since l [] = []
since l (i ∷ is) = cond (labels l i.op i.operands) is (since l is)

-- no operand is this id
abbrev pub unused : List Instr → ℕ → Bool
unused is x = all (λ i. all (λ y. not (y == x)) i.operands) is

unfoldable pub scoped : List Instr → Bool
scoped [] = true
scoped (i ∷ is) = (not (i.op == 247) || all (unused (since (first i.operands) is)) (results_of (until (first i.operands) is))) && scoped is

-- ---- layout (2.4): constants are declared before the function

-- OpConstantTrue, OpConstantFalse, OpConstant
abbrev pub declares : ℕ → Bool
declares op = op == 41 || (op == 42 || op == 43)

-- each is a constant, or no constant follows it
unfoldable pub laid_out : List Instr → Bool
laid_out [] = true
laid_out (i ∷ is) = (declares i.op || all (λ j. not (declares j.op)) is) && laid_out is

-- ---- words
abbrev pub valid_instrs : Sorts → Option (List Instr) → Bool
valid_instrs T none = false
valid_instrs T (some is) = valid_from is T && (structured is && (scoped is && laid_out is))

-- the words are instructions, whole and valid, where ids stand for what T says
unfoldable pub valid : Sorts → List ℕ → Bool
valid T ws = valid_instrs T (instrs_of ws)

-- the ids that the words make
abbrev pub results_in : Option (List Instr) → List ℕ
results_in none = []
results_in (some is) = results_of is

unfoldable pub made_by : List ℕ → List ℕ
made_by ws = results_in (instrs_of ws)
