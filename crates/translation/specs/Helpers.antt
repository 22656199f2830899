-- The Rust's helpers, one definition each, in its order of evaluation (translate.rs). Where the Rust returns an unchanged word, the code hands back
-- its argument; where it returns nothing, the word that it was given.
use Rattle.std.specs.Prelude.{Bool, true, false, cond, not, ◌&&◌, ◌||◌, ℕ, ◌+◌, ◌-◌, ◌*◌, ◌/◌, ◌%◌, ◌^◌, eqb, ltb}
use Rattle.translation.specs.Insn.{Insn, rb, rc, simm20, cslot, cword}
use Rattle.translation.specs.Code.{Code, ite}
use Rattle.translation.specs.Notation.{Mk, uses, ◌>>=◌, ◌>>◌, pure, fn0, fn1, fn2, fn3, fn4, fn5, fn0!, fn1!, fn2!, fn3!, fn4!, fn5!, same, u, btrue, constant_false, load_reg, load_pred, cc_flag, store_reg, store_pred, store_flag, cbuf_var, access_chain, load_at, unsupported, bitwise_not, cast_i, cast_u, logical_not, i_add, i_sub, shift_left_logical, shift_right_logical, shift_right_arithmetic, bitwise_and, bitwise_or, bitwise_xor, u_min, s_min, s_max, i_equal, i_not_equal, u_less_than, u_less_than_equal, u_greater_than, u_greater_than_equal, s_less_than, s_less_than_equal, s_greater_than, s_greater_than_equal, logical_and, logical_or, logical_not_equal, select, bit_field_uextract, bit_field_sextract}

-- ---- registers, predicates, constants

unfoldable pub r : ℕ → Code
r k = ite (eqb k 255) (fn0 do v ← u 0; pure v) (fn0 do v ← load_reg k; pure v)

unfoldable pub set : ℕ → Code
set k = ite (eqb k 255) same (fn1 λ v. do store_reg k v; pure v)

unfoldable pub logical_not_if : Bool → Code
logical_not_if on = ite on (fn1 λ v. do v ← logical_not v; pure v) same

unfoldable pub predicate : ℕ → Code
predicate k = ite (eqb k 7) (fn0 do v ← btrue; pure v) (fn0 do v ← load_pred k; pure v)

unfoldable pub p : ℕ → Bool → Code
p k n = fn0 do
  v ← fn0! (predicate k)
  v ← fn1! (logical_not_if n) v
  pure v

unfoldable pub setp : ℕ → Code
setp k = ite (eqb k 7) same (fn1 λ v. do store_pred k v; pure v)

unfoldable pub b2u : ℕ → ℕ → Code
b2u t f = fn1 λ c. do
  a ← u t
  b ← u f
  v ← select c a b
  pure v

unfoldable pub cbuf_at : ℕ → Code
cbuf_at s = fn1 λ off. do
  var ← cbuf_var s
  four ← u 4
  vec ← shift_right_logical off four
  two ← u 2
  w ← shift_right_logical off two
  three ← u 3
  comp ← bitwise_and w three
  zero! ← u 0
  ptr ← access_chain var zero! vec comp
  v ← load_at ptr
  pure v

-- the word w of slot s: the Rust's offset is four times w
unfoldable pub cbuf_imm : ℕ → ℕ → Code
cbuf_imm s w = fn0 do
  uses s (w * 4 + 4)
  off ← u (w * 4)
  v ← fn1! (cbuf_at s) off
  pure v

unfoldable pub src_b : Insn → Code
src_b i = ite (eqb i.form 0) (r (rb i)) (ite (eqb i.form 1) (cbuf_imm (cslot i) (cword i)) (fn0 do v ← u (simm20 i); pure v))

-- `src_bc` gives two words, b and then c: of a, what follows with all three
unfoldable pub src_bc : Insn → Bool → Code → Code
src_bc i swap k =
    ite (eqb i.form 1 && swap)
    (fn1 λ a. do
      b ← fn0! (r (rc i))
      c ← fn0! (cbuf_imm (cslot i) (cword i))
      v ← fn3! k a b c
      pure v)
    (fn1 λ a. do
      b ← fn0! (src_b i)
      c ← fn0! (r (rc i))
      v ← fn3! k a b c
      pure v)

-- ---- flags and sums

unfoldable pub inot : Bool → Code
inot on = ite on (fn1 λ v. do v ← bitwise_not v; pure v) same

unfoldable pub ineg : Bool → Code
ineg on = ite on (fn1 λ v. do zero! ← u 0; v ← i_sub zero! v; pure v) same

unfoldable pub carry_flag : Code
carry_flag = fn0 do
  c ← cc_flag 2
  v ← fn1! (b2u 1 0) c
  pure v

unfoldable pub signed_overflow : Code
signed_overflow = fn3 λ a b v. do
  zero! ← u 0
  xa ← bitwise_xor a v
  xb ← bitwise_xor b v
  both ← bitwise_and xa xb
  o ← s_less_than both zero!
  pure o

-- `set_cc` of the word v: of the false that it loads, which words the flags C and O are stored from
abbrev pub set_cc_from : ℕ → (c o : ℕ → ℕ) → Mk
set_cc_from v c o = do
  zero! ← u 0
  z ← i_equal v zero!
  s ← s_less_than v zero!
  f ← constant_false
  store_flag 0 z
  store_flag 1 s
  store_flag 2 (c f)
  store_flag 3 (o f)
  pure v

-- whether a carry and an overflow are given; where one is not, the flag is false
unfoldable pub set_cc : (carry overflow : Bool) → Code
set_cc true true = fn3 λ v c o. set_cc_from v (λ f. c) (λ f. o)
set_cc true false = fn2 λ v c. set_cc_from v (λ f. c) (λ f. f)
set_cc false true = fn2 λ v o. set_cc_from v (λ f. f) (λ f. o)
set_cc false false = fn1 λ v. set_cc_from v (λ f. f) (λ f. f)

-- where it is asked for, with neither
unfoldable pub set_cc_if : Bool → Code
set_cc_if on = ite on (set_cc false false) same

-- the flags of a sum, where they are asked for
unfoldable pub set_sum_cc : Bool → Code
set_sum_cc cc =
    ite cc
    (fn4 λ a b v c. do
      o ← fn3! signed_overflow a b v
      v ← fn3! (set_cc true true) v c o
      pure v)
    (fn4 λ a b v c. pure v)

-- `add_with_flags`: whether a carry in is given
unfoldable pub add_with_flags : (given cc : Bool) → Code
add_with_flags true cc = fn3 λ a b cin. do
  v ← i_add a b
  c ← u_less_than v a
  v2 ← i_add v cin
  c2 ← u_less_than v2 v
  carry ← logical_or c c2
  v ← fn4! (set_sum_cc cc) a b v2 carry
  pure v
add_with_flags false cc =
    ite cc
    (fn2 λ a b. do
      v ← i_add a b
      c ← u_less_than v a
      v ← fn4! (set_sum_cc cc) a b v c
      pure v)
    (fn2 λ a b. do v ← i_add a b; pure v)

-- the carry in of a sum is the flag (x), one, or none: of a and b, the sum with it
unfoldable pub carry_flag_sum : Bool → Code
carry_flag_sum cc = fn2 λ a b. do
  c ← fn0! carry_flag
  v ← fn3! (add_with_flags true cc) a b c
  pure v

unfoldable pub carry_one_sum : Bool → Code
carry_one_sum cc = fn2 λ a b. do
  c ← u 1
  v ← fn3! (add_with_flags true cc) a b c
  pure v

unfoldable pub carry_sum : (x one cc : Bool) → Code
carry_sum x one cc = ite x (carry_flag_sum cc) (ite one (carry_one_sum cc) (add_with_flags false cc))

unfoldable pub saturate_add : Bool → Code
saturate_add on =
    ite on
    (fn3 λ a b v. do
      overflow ← fn3! signed_overflow a b v
      zero! ← u 0
      n ← s_less_than v zero!
      clamped ← fn1! (b2u 2147483647 2147483648) n
      v ← select overflow clamped v
      pure v)
    (fn3 λ a b v. pure v)

-- ---- truths

unfoldable pub bool_op : ℕ → Code
bool_op o =
    ite (eqb o 0) (fn2 λ a b. do v ← logical_and a b; pure v)
    (ite (eqb o 1) (fn2 λ a b. do v ← logical_or a b; pure v) (fn2 λ a b. do v ← logical_not_equal a b; pure v))

unfoldable pub less_than : Bool → Code
less_than signed = ite signed (fn2 λ a b. do v ← s_less_than a b; pure v) (fn2 λ a b. do v ← u_less_than a b; pure v)

unfoldable pub less_than_equal : Bool → Code
less_than_equal signed = ite signed (fn2 λ a b. do v ← s_less_than_equal a b; pure v) (fn2 λ a b. do v ← u_less_than_equal a b; pure v)

unfoldable pub greater_than : Bool → Code
greater_than signed = ite signed (fn2 λ a b. do v ← s_greater_than a b; pure v) (fn2 λ a b. do v ← u_greater_than a b; pure v)

unfoldable pub greater_than_equal : Bool → Code
greater_than_equal signed = ite signed (fn2 λ a b. do v ← s_greater_than_equal a b; pure v) (fn2 λ a b. do v ← u_greater_than_equal a b; pure v)

unfoldable pub int_cmp : ℕ → Bool → Code
int_cmp o signed =
    ite (eqb o 0) (fn2 λ a b. do v ← constant_false; pure v)
    (ite (eqb o 1) (less_than signed)
    (ite (eqb o 2) (fn2 λ a b. do v ← i_equal a b; pure v)
    (ite (eqb o 3) (less_than_equal signed)
    (ite (eqb o 4) (greater_than signed)
    (ite (eqb o 5) (fn2 λ a b. do v ← i_not_equal a b; pure v)
    (ite (eqb o 6) (greater_than_equal signed) (fn2 λ a b. do v ← btrue; pure v)))))))

-- the cases of `cc_test` that ask for single flags, of z, s, c and o
unfoldable pub cc_flags : ℕ → Code
cc_flags t =
    ite (eqb t 7) (fn4 λ z s c o. do v ← logical_not o; pure v)
    (ite (eqb t 8 || eqb t 23) (fn4 λ z s c o. pure o)
    (ite (eqb t 17) (fn4 λ z s c o. do v ← logical_not c; pure v)
    (ite (eqb t 18) (fn4 λ z s c o. do v ← logical_not s; pure v)
    (ite (eqb t 19) (fn4 λ z s c o. do nc ← logical_not c; v ← logical_or nc z; pure v)
    (ite (eqb t 20) (fn4 λ z s c o. do nz ← logical_not z; v ← logical_and c nz; pure v)
    (ite (eqb t 21) (fn4 λ z s c o. pure s)
    (ite (eqb t 22) (fn4 λ z s c o. pure c) (fn4 λ z s c o. do unsupported 1; v ← btrue; pure v))))))))

-- all of them, of z, s, c, o and lt: first those that compare
unfoldable pub cc_case : ℕ → Code
cc_case t =
    ite (eqb t 0 || eqb t 16) (fn5 λ z s c o lt. do v ← constant_false; pure v)
    (ite (eqb t 1 || eqb t 9) (fn5 λ z s c o lt. pure lt)
    (ite (eqb t 2 || eqb t 10) (fn5 λ z s c o lt. pure z)
    (ite (eqb t 3 || eqb t 11) (fn5 λ z s c o lt. do v ← logical_or lt z; pure v)
    (ite (eqb t 4 || eqb t 12) (fn5 λ z s c o lt. do le ← logical_or lt z; v ← logical_not le; pure v)
    (ite (eqb t 5 || eqb t 13) (fn5 λ z s c o lt. do v ← logical_not z; pure v)
    (ite (eqb t 6 || eqb t 14) (fn5 λ z s c o lt. do v ← logical_not lt; pure v) (fn5 λ z s c o lt. do v ← fn4! (cc_flags t) z s c o; pure v)))))))

unfoldable pub cc_test : ℕ → Code
cc_test t = fn0 do
  z ← cc_flag 0
  s ← cc_flag 1
  c ← cc_flag 2
  o ← cc_flag 3
  lt ← logical_not_equal s o
  v ← fn5! (cc_case t) z s c o lt
  pure v

-- ---- shifts, tables, fields

unfoldable pub shifted : Bool → Bool → Code
shifted left signed =
    ite left (fn2 λ a n. do v ← shift_left_logical a n; pure v)
    (ite signed (fn2 λ a n. do v ← shift_right_arithmetic a n; pure v) (fn2 λ a n. do v ← shift_right_logical a n; pure v))

-- what is left of a shift by 32 or more
unfoldable pub shift_fill : Bool → Code
shift_fill sign =
    ite sign
    (fn1 λ a. do
      ai ← cast_i a
      c31i ← u 31
      s ← shift_right_arithmetic ai c31i
      v ← cast_u s
      pure v)
    (fn1 λ a. do v ← u 0; pure v)

unfoldable pub shift_end : Bool → Bool → Code
shift_end sign wrap =
    ite wrap (fn3 λ a b v. pure v)
    (fn3 λ a b v. do
      c32 ← u 32
      big ← u_greater_than_equal b c32
      fill ← fn1! (shift_fill sign) a
      v ← select big fill v
      pure v)

unfoldable pub shift : Bool → Bool → Bool → Code
shift left signed wrap = fn2 λ a b. do
  c31 ← u 31
  amount ← bitwise_and b c31
  v ← fn2! (shifted left signed) a amount
  v ← fn3! (shift_end (signed && not left) wrap) a b v
  pure v

-- one row of the table of `lop3`
unfoldable pub lop3_row : Bool → Code
lop3_row on =
    ite on
    (fn4 λ acc x y z. do
      xy ← bitwise_and x y
      xyz ← bitwise_and xy z
      acc ← bitwise_or acc xyz
      pure acc)
    (fn4 λ acc x y z. pure acc)

unfoldable pub table_bit : ℕ → ℕ → Bool
table_bit lut k = eqb (lut / 2 ^ k % 2) 1

-- rows k and k + 1, which differ in the bit of c alone
unfoldable pub lop3_rows : ℕ → ℕ → Code
lop3_rows lut k = fn5 λ acc x y c nc. do
  acc ← fn4! (lop3_row (table_bit lut k)) acc x y nc
  acc ← fn4! (lop3_row (table_bit lut (k + 1))) acc x y c
  pure acc

unfoldable pub lop3 : ℕ → Code
lop3 lut = fn3 λ a b c. do
  acc ← u 0
  na ← bitwise_not a
  nb ← bitwise_not b
  nc ← bitwise_not c
  acc ← fn5! (lop3_rows lut 0) acc na nb c nc
  acc ← fn5! (lop3_rows lut 2) acc na b c nc
  acc ← fn5! (lop3_rows lut 4) acc a nb c nc
  acc ← fn5! (lop3_rows lut 6) acc a b c nc
  pure acc

unfoldable pub extract : Bool → Code
extract signed =
    ite signed
    (fn3 λ v off len. do
      vi ← cast_i v
      x ← bit_field_sextract vi off len
      x ← cast_u x
      pure x)
    (fn3 λ v off len. do x ← bit_field_uextract v off len; pure x)

-- len bits from place pos on: `half16`, `video_operand` and `int_source` end like this
unfoldable pub field : ℕ → ℕ → Bool → Code
field pos len signed = fn1 λ v. do
  off ← u pos
  l ← u len
  x ← fn3! (extract signed) v off l
  pure x

unfoldable pub half16 : Bool → Bool → Code
half16 high signed = field (cond high 16 0) 16 signed

unfoldable pub half_select : ℕ → Code
half_select sel = ite (eqb sel 1) (half16 false false) (ite (eqb sel 2) (half16 true false) same)

unfoldable pub video_operand : ℕ → Bool → Code
video_operand sel signed = ite (ltb sel 4) (field (sel * 8) 8 signed) (ite (ltb sel 6) (field ((sel - 4) * 16) 16 signed) same)

unfoldable pub int_source : ℕ → Bool → ℕ → Code
int_source size signed byte = ite (eqb size 0) (field (byte * 8) 8 signed) (ite (eqb size 1) (field (byte * 8) 16 signed) same)

-- the width of a size code
abbrev pub width_of : ℕ → ℕ
width_of size = cond (eqb size 0) 8 (cond (eqb size 1) 16 32)

-- the bounds of `saturate_int`
unfoldable pub highest : Bool → ℕ → ℕ
highest signed size = cond signed (2 ^ (width_of size - 1) - 1) (2 ^ width_of size - 1)

unfoldable pub lowest : Bool → ℕ → ℕ
lowest signed size = cond signed (4294967296 - 2 ^ (width_of size - 1)) 0

unfoldable pub clamp_high : Bool → Code
clamp_high on =
    ite on
    (fn2 λ x hi. do
      hi ← cast_i hi
      x ← s_min x hi
      pure x)
    (fn2 λ x hi. pure x)

unfoldable pub saturate_by : Bool → Bool → ℕ → Code
saturate_by from to size =
    ite from
    (fn2 λ v hi. do
      lo ← u (lowest to size)
      vi ← cast_i v
      lo ← cast_i lo
      x ← s_max vi lo
      x ← fn2! (clamp_high (to || ltb size 2)) x hi
      x ← cast_u x
      pure x)
    (fn2 λ v hi. do x ← u_min v hi; pure x)

unfoldable pub saturate_int : Bool → Bool → ℕ → Code
saturate_int from to size = fn1 λ v. do
  hi ← u (highest to size)
  x ← fn2! (saturate_by from to size) v hi
  pure x
