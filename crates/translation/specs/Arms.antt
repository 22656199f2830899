-- The thirty arms of `op`, in the Rust's order of evaluation (translate.rs). Bits are named by their place in the word.
use Rattle.std.specs.Prelude.{Bool, true, false, cond, not, ◌&&◌, ◌||◌, ℕ, ◌+◌, ◌-◌, ◌*◌, ◌%◌, ◌^◌, eqb, ltb}
use Rattle.std.specs.Bool.{beq}
use Rattle.translation.specs.Insn.{Insn, bits, bit, rd, ra, rb, rc, imm32, simm20, cslot, cword}
use Rattle.translation.specs.Code.{Code, ite}
use Rattle.translation.specs.Notation.{◌>>=◌, ◌>>◌, pure, fn0, fn1, fn2, fn3, fn4, fn5, fn0!, fn1!, fn2!, fn3!, fn4!, fn5!, same, u, btrue, constant_false, cc_flag, store_pred, store_flag, unsupported, bit_reverse, bit_count, cast_i, cast_u, s_abs, find_smsb, find_umsb, logical_not, i_add, i_sub, i_mul, shift_left_logical, shift_right_logical, bitwise_and, bitwise_or, bitwise_xor, u_min, s_min, u_max, s_max, i_equal, i_not_equal, s_less_than, select, bit_field_insert}
use Rattle.translation.specs.Helpers.{r, set, p, predicate, setp, b2u, cbuf_imm, src_b, src_bc, inot, ineg, set_cc_if, carry_sum, saturate_add, bool_op, int_cmp, cc_test, shift, lop3, table_bit, extract, half16, half_select, video_operand, int_source, saturate_int}

-- ---- moves and choices

unfoldable pub mov : Insn → Code
mov i = fn0 do
  v ← fn0! (src_b i)
  v ← fn1! (set (rd i)) v
  pure v

unfoldable pub mov32i : Insn → Code
mov32i i = fn0 do
  v ← u (imm32 i)
  v ← fn1! (set (rd i)) v
  pure v

unfoldable pub sel : Insn → Code
sel i = fn0 do
  c ← fn0! (p (bits i 39 3) (bit i 42))
  a ← fn0! (r (ra i))
  b ← fn0! (src_b i)
  v ← select c a b
  v ← fn1! (set (rd i)) v
  pure v

-- ---- predicates

-- of a test and a predicate: both combined, then the test's negation and the predicate; stored in this order
unfoldable pub setp_both : Insn → Code
setp_both i = fn2 λ c pv. do
  x ← fn2! (bool_op (bits i 45 2)) c pv
  nc ← logical_not c
  y ← fn2! (bool_op (bits i 45 2)) nc pv
  x ← fn1! (setp (bits i 3 3)) x
  y ← fn1! (setp (bits i 0 3)) y
  pure y

-- a truth as a word: 1.0 or all ones, or 0
unfoldable pub truth_word : Insn → ℕ
truth_word i = cond (bit i 44) 1065353216 4294967295

unfoldable pub set_truth : Insn → Code
set_truth i = fn1 λ c. do
  v ← fn1! (b2u (truth_word i) 0) c
  v ← fn1! (set_cc_if (bit i 47)) v
  v ← fn1! (set (rd i)) v
  pure v

unfoldable pub csetp : Insn → Code
csetp i = fn0 do
  c ← fn0! (cc_test (bits i 8 5))
  pv ← fn0! (p (bits i 39 3) (bit i 42))
  y ← fn2! (setp_both i) c pv
  pure y

unfoldable pub set_word : Insn → Code
set_word i = fn2 λ c pv. do
  x ← fn2! (bool_op (bits i 45 2)) c pv
  v ← fn1! (set_truth i) x
  pure v

-- to two predicates (isetp, psetp) or to a register (iset, pset)
unfoldable pub set_either : Bool → Insn → Code
set_either pair i = ite pair (setp_both i) (set_word i)

-- isetp, iset
unfoldable pub icompare : Bool → Insn → Code
icompare pair i = fn0 do
  a ← fn0! (r (ra i))
  b ← fn0! (src_b i)
  pv ← fn0! (p (bits i 39 3) (bit i 42))
  c ← fn2! (int_cmp (bits i 49 3) (bit i 48)) a b
  v ← fn2! (set_either pair i) c pv
  pure v

-- psetp, pset
unfoldable pub pcombine : Bool → Insn → Code
pcombine pair i = fn0 do
  a ← fn0! (p (bits i 12 3) (bit i 15))
  b ← fn0! (p (bits i 29 3) (bit i 32))
  c ← fn0! (p (bits i 39 3) (bit i 42))
  ab ← fn2! (bool_op (bits i 24 2)) a b
  v ← fn2! (set_either pair i) ab c
  pure v

-- ---- sums

-- an operand: complemented with extend or where one sign bit is set, negated where both are
unfoldable pub prepared : Bool → Bool → Code
prepared complement on = ite complement (inot on) (ineg on)

unfoldable pub iadd_words : ℕ → (na nb x cc sat : Bool) → Code
iadd_words d na nb x cc sat = fn2 λ a b. do
  a ← fn1! (prepared (x || not (beq na nb)) na) a
  b ← fn1! (prepared (x || not (beq na nb)) nb) b
  v ← fn2! (carry_sum x (not (beq na nb)) cc) a b
  v ← fn3! (saturate_add sat) a b v
  v ← fn1! (set d) v
  pure v

unfoldable pub iadd : Insn → Code
iadd i = fn0 do
  a ← fn0! (r (ra i))
  b ← fn0! (src_b i)
  v ← fn2! (iadd_words (rd i) (bit i 49) (bit i 48) (bit i 43) (bit i 47) (bit i 50)) a b
  pure v

unfoldable pub iadd32i : Insn → Code
iadd32i i = fn0 do
  a ← fn0! (r (ra i))
  b ← u (imm32 i)
  v ← fn2! (iadd_words (rd i) (bit i 56) false (bit i 53) (bit i 52) (bit i 54)) a b
  pure v

-- which shift of the first sum: only the register form has one
unfoldable pub iadd3_count : Insn → ℕ
iadd3_count i = cond (eqb i.form 0) (bits i 37 2) 0

unfoldable pub iadd3_shift : ℕ → Code
iadd3_shift s =
    ite (eqb s 1) (fn2 λ v n. do v ← shift_right_logical v n; pure v)
    (ite (eqb s 2) (fn2 λ v n. do v ← shift_left_logical v n; pure v) (fn2 λ v n. pure v))

unfoldable pub iadd3_words : Insn → Code
iadd3_words i = fn3 λ a b c. do
  a ← fn1! (ineg (bit i 51)) a
  b ← fn1! (ineg (bit i 50)) b
  c ← fn1! (ineg (bit i 49)) c
  ab ← i_add a b
  sixteen ← u 16
  ab ← fn2! (iadd3_shift (iadd3_count i)) ab sixteen
  v ← fn2! (carry_sum (bit i 48) false (bit i 47)) ab c
  v ← fn1! (set (rd i)) v
  pure v

-- the register form takes halves of its operands
unfoldable pub iadd3_fetch : Insn → Code
iadd3_fetch i =
    ite (eqb i.form 0)
    (fn1 λ a. do
      b ← fn0! (r (rb i))
      c ← fn0! (r (rc i))
      a ← fn1! (half_select (bits i 35 2)) a
      b ← fn1! (half_select (bits i 33 2)) b
      c ← fn1! (half_select (bits i 31 2)) c
      v ← fn3! (iadd3_words i) a b c
      pure v)
    (fn1 λ a. do
      b ← fn0! (src_b i)
      c ← fn0! (r (rc i))
      v ← fn3! (iadd3_words i) a b c
      pure v)

unfoldable pub iadd3 : Insn → Code
iadd3 i = fn0 do
  a ← fn0! (r (ra i))
  v ← fn1! (iadd3_fetch i) a
  pure v

unfoldable pub iscadd : Insn → Code
iscadd i = fn0 do
  a ← fn0! (r (ra i))
  a ← fn1! (ineg (bit i 49)) a
  b ← fn0! (src_b i)
  b ← fn1! (ineg (bit i 48)) b
  sh ← u (bits i 39 5)
  a ← shift_left_logical a sh
  v ← i_add a b
  v ← fn1! (set (rd i)) v
  pure v

-- ---- xmad: its operands hang on the form and, in the constant form, on the opcode's value 0x5100 << 48

-- the opcode's value puts the constant in c
unfoldable pub xmad_swaps : Insn → Bool
xmad_swaps i = eqb i.value 5836665117072162816

unfoldable pub xmad_in_c : Insn → Bool
xmad_in_c i = eqb i.form 1 && xmad_swaps i

-- high half of b, shift of the product, merge, mode
unfoldable pub xmad_high : Insn → Bool
xmad_high i = cond (eqb i.form 1) (bit i 52) (eqb i.form 0 && bit i 35)

unfoldable pub xmad_signed : Insn → Bool
xmad_signed i = bit i 49 && not (eqb i.form 2)

unfoldable pub xmad_psl : Insn → Bool
xmad_psl i = cond (eqb i.form 1) (not (xmad_in_c i) && bit i 55) (bit i 36)

unfoldable pub xmad_mrg : Insn → Bool
xmad_mrg i = cond (eqb i.form 1) (not (xmad_in_c i) && bit i 56) (bit i 37)

unfoldable pub xmad_mode : Insn → ℕ
xmad_mode i = cond (eqb i.form 1) (bits i 50 2) (bits i 50 3)

unfoldable pub xmad_shift : Bool → Code
xmad_shift on = ite on (fn1 λ v. do s ← u 16; v ← shift_left_logical v s; pure v) same

-- c as the mode alters it, of c, b and sixteen
unfoldable pub xmad_alter : ℕ → Code
xmad_alter mode =
    ite (eqb mode 1) (fn3 λ c b n. do m ← u 65535; v ← bitwise_and c m; pure v)
    (ite (eqb mode 2) (fn3 λ c b n. do v ← shift_right_logical c n; pure v)
    (ite (eqb mode 4) (fn3 λ c b n. do bs ← shift_left_logical b n; v ← i_add c bs; pure v)
    (ite (eqb mode 3) (fn3 λ c b n. do unsupported 5; pure c) (fn3 λ c b n. pure c))))

-- of v, b and sixteen
unfoldable pub xmad_merge : Bool → Code
xmad_merge on =
    ite on
    (fn3 λ v b n. do
      m ← u 65535
      lo ← bitwise_and v m
      bs ← shift_left_logical b n
      v ← bitwise_or lo bs
      pure v)
    (fn3 λ v b n. pure v)

unfoldable pub xmad_product : Insn → Code
xmad_product i = fn2 λ a b. do
  a16 ← fn1! (half16 (bit i 53) (bit i 48)) a
  b16 ← fn1! (half16 (xmad_high i) (xmad_signed i)) b
  v ← i_mul a16 b16
  v ← fn1! (xmad_shift (xmad_psl i)) v
  pure v

unfoldable pub xmad_words : Insn → Code
xmad_words i = fn3 λ a b c. do
  prod ← fn2! (xmad_product i) a b
  sixteen ← u 16
  c ← fn3! (xmad_alter (xmad_mode i)) c b sixteen
  v ← i_add prod c
  v ← fn3! (xmad_merge (xmad_mrg i)) v b sixteen
  v ← fn1! (set (rd i)) v
  pure v

unfoldable pub xmad_bc : Insn → Code
xmad_bc i = src_bc i (xmad_swaps i) (xmad_words i)

unfoldable pub xmad_fetch : Insn → Code
xmad_fetch i =
    ite (eqb i.form 2)
    (fn1 λ a. do
      b ← u (bits i 20 16)
      c ← fn0! (r (rc i))
      v ← fn3! (xmad_words i) a b c
      pure v)
    (xmad_bc i)

unfoldable pub xmad : Insn → Code
xmad i = fn0 do
  a ← fn0! (r (ra i))
  v ← fn1! (xmad_fetch i) a
  pure v

-- ---- minimum, comparison

unfoldable pub minimum : Bool → Code
minimum signed = ite signed (fn2 λ a b. do v ← s_min a b; pure v) (fn2 λ a b. do v ← u_min a b; pure v)

unfoldable pub maximum : Bool → Code
maximum signed = ite signed (fn2 λ a b. do v ← s_max a b; pure v) (fn2 λ a b. do v ← u_max a b; pure v)

unfoldable pub imnmx : Insn → Code
imnmx i = fn0 do
  a ← fn0! (r (ra i))
  b ← fn0! (src_b i)
  c ← fn0! (p (bits i 39 3) (bit i 42))
  lo ← fn2! (minimum (bit i 48)) a b
  hi ← fn2! (maximum (bit i 48)) a b
  v ← select c lo hi
  v ← fn1! (set (rd i)) v
  pure v

unfoldable pub icmp_words : Insn → Code
icmp_words i = fn3 λ a b c. do
  zero! ← u 0
  t ← fn2! (int_cmp (bits i 49 3) (bit i 48)) c zero!
  v ← select t a b
  v ← fn1! (set (rd i)) v
  pure v

-- the opcode's value 0x5340 << 48 puts the constant in c
unfoldable pub icmp_swaps : Insn → Bool
icmp_swaps i = eqb i.value 5998794703657500672

unfoldable pub icmp_bc : Insn → Code
icmp_bc i = src_bc i (icmp_swaps i) (icmp_words i)

unfoldable pub icmp : Insn → Code
icmp i = fn0 do
  a ← fn0! (r (ra i))
  v ← fn1! (icmp_bc i) a
  pure v

-- ---- logic

unfoldable pub lop_word : ℕ → Code
lop_word o =
    ite (eqb o 0) (fn2 λ a b. do v ← bitwise_and a b; pure v)
    (ite (eqb o 1) (fn2 λ a b. do v ← bitwise_or a b; pure v)
    (ite (eqb o 2) (fn2 λ a b. do v ← bitwise_xor a b; pure v) (fn2 λ a b. pure b)))

-- the predicate of lop, of the result and zero
unfoldable pub lop_test : ℕ → Code
lop_test t =
    ite (eqb t 2) (fn2 λ v z. do v ← i_equal v z; pure v)
    (ite (eqb t 3) (fn2 λ v z. do v ← i_not_equal v z; pure v)
    (ite (eqb t 1) (fn2 λ v z. do v ← btrue; pure v) (fn2 λ v z. do v ← constant_false; pure v)))

unfoldable pub lop_predicate : Insn → Code
lop_predicate i =
    ite (eqb (bits i 48 3) 7) same
    (fn1 λ v. do
      zero! ← u 0
      t ← fn2! (lop_test (bits i 44 2)) v zero!
      t ← fn1! (setp (bits i 48 3)) t
      pure v)

unfoldable pub lop : Insn → Code
lop i = fn0 do
  b ← fn0! (src_b i)
  a ← fn0! (r (ra i))
  a ← fn1! (inot (bit i 39)) a
  b ← fn1! (inot (bit i 40)) b
  v ← fn2! (lop_word (bits i 41 2)) a b
  v ← fn1! (set_cc_if (bit i 47)) v
  v ← fn1! (lop_predicate i) v
  v ← fn1! (set (rd i)) v
  pure v

unfoldable pub lop32i : Insn → Code
lop32i i = fn0 do
  b ← u (imm32 i)
  a ← fn0! (r (ra i))
  a ← fn1! (inot (bit i 55)) a
  b ← fn1! (inot (bit i 56)) b
  v ← fn2! (lop_word (bits i 53 2)) a b
  v ← fn1! (set_cc_if (bit i 52)) v
  v ← fn1! (set (rd i)) v
  pure v

unfoldable pub lop3_table : Insn → ℕ
lop3_table i = cond (eqb i.form 0) (bits i 28 8) (bits i 48 8)

unfoldable pub lop3_arm : Insn → Code
lop3_arm i = fn0 do
  a ← fn0! (r (ra i))
  b ← fn0! (src_b i)
  c ← fn0! (r (rc i))
  v ← fn3! (lop3 (lop3_table i)) a b c
  v ← fn1! (set (rd i)) v
  pure v

-- ---- shifts and fields

unfoldable pub shl : Insn → Code
shl i = fn0 do
  a ← fn0! (r (ra i))
  b ← fn0! (src_b i)
  v ← fn2! (shift true false (bit i 39)) a b
  v ← fn1! (set (rd i)) v
  pure v

unfoldable pub reverse_if : Bool → Code
reverse_if on = ite on (fn1 λ v. do v ← bit_reverse v; pure v) same

unfoldable pub shr : Insn → Code
shr i = fn0 do
  a ← fn0! (r (ra i))
  b ← fn0! (src_b i)
  a ← fn1! (reverse_if (bit i 40)) a
  v ← fn2! (shift false (bit i 48) (bit i 39)) a b
  v ← fn1! (set (rd i)) v
  pure v

-- the field of a, or c with a put into it
unfoldable pub use_field : Bool → Bool → Code
use_field insert signed =
    ite insert (fn4 λ c a pos len. do v ← bit_field_insert c a pos len; pure v) (fn4 λ c a pos len. do v ← fn3! (extract signed) a pos len; pure v)

-- position and length out of b, then the field of a (bfe) or a put into that of c (bfi)
unfoldable pub field_at_b : Bool → Bool → Code
field_at_b insert signed = fn3 λ c a b. do
  ff ← u 255
  pos ← bitwise_and b ff
  eight ← u 8
  len ← shift_right_logical b eight
  len ← bitwise_and len ff
  c32 ← u 32
  pos ← u_min pos c32
  room ← i_sub c32 pos
  len ← u_min len room
  v ← fn4! (use_field insert signed) c a pos len
  pure v

unfoldable pub bfe : Insn → Code
bfe i = fn0 do
  a ← fn0! (r (ra i))
  b ← fn0! (src_b i)
  a ← fn1! (reverse_if (bit i 40)) a
  v ← fn3! (field_at_b false (bit i 48)) a a b
  v ← fn1! (set (rd i)) v
  pure v

unfoldable pub bfi_words : Insn → Code
bfi_words i = fn3 λ a b c. do
  v ← fn3! (field_at_b true false) c a b
  v ← fn1! (set (rd i)) v
  pure v

-- the opcode's value 0x53f0 << 48 puts the constant in c
unfoldable pub bfi_swaps : Insn → Bool
bfi_swaps i = eqb i.value 6048334299558576128

unfoldable pub bfi_bc : Insn → Code
bfi_bc i = src_bc i (bfi_swaps i) (bfi_words i)

unfoldable pub bfi : Insn → Code
bfi i = fn0 do
  a ← fn0! (r (ra i))
  v ← fn1! (bfi_bc i) a
  pure v

-- ---- vmnmx

-- sixteen bits, signed or not
unfoldable pub vmnmx_imm : Insn → ℕ
vmnmx_imm i = cond (bit i 49 && bit i 35) (bits i 20 16 + 4294901760) (bits i 20 16)

unfoldable pub vmnmx_b : Insn → Code
vmnmx_b i =
    ite (bit i 50)
    (fn0 do
      b ← fn0! (r (rb i))
      b ← fn1! (video_operand (bits i 28 3) (bit i 49)) b
      pure b)
    (fn0 do b ← u (vmnmx_imm i); pure b)

-- both operands of mixed signs: of the signed one, the other one and zero, with v of them in the Rust's order
unfoldable pub vmnmx_mixed : Bool → Code
vmnmx_mixed max =
    ite max
    (fn4 λ v s o zero!. do
      n ← s_less_than s zero!
      v ← select n o v
      pure v)
    (fn4 λ v s o zero!. do
      n ← s_less_than s zero!
      v ← select n s v
      pure v)

unfoldable pub vmnmx_first : Bool → Code
vmnmx_first max = ite max (fn2 λ a b. do v ← u_max a b; pure v) (fn2 λ a b. do v ← s_min a b; pure v)

unfoldable pub min_or_max : Bool → Bool → Code
min_or_max max signed = ite max (maximum signed) (minimum signed)

-- of a, b and zero
unfoldable pub vmnmx_word : (sa sb max : Bool) → Code
vmnmx_word sa sb max =
    ite (beq sa sb) (fn3 λ a b zero!. do v ← fn2! (min_or_max max sa) a b; pure v)
    (ite sa
    (fn3 λ a b zero!. do
      v ← fn2! (vmnmx_first max) a b
      v ← fn4! (vmnmx_mixed max) v a b zero!
      pure v)
    (fn3 λ a b zero!. do
      v ← fn2! (vmnmx_first max) a b
      v ← fn4! (vmnmx_mixed max) v b a zero!
      pure v))

-- the result is signed
unfoldable pub vmnmx_signed : (sa sb max : Bool) → Bool
vmnmx_signed sa sb max = cond (beq sa sb) sa (not max)

-- saturation, of the result and zero
unfoldable pub vmnmx_saturate : (on dformat signed : Bool) → Code
vmnmx_saturate on dformat signed =
    ite (on && (dformat && not signed))
    (fn2 λ v zero!. do
      m ← u 2147483647
      v ← u_min v m
      pure v)
    (ite (on && (not dformat && signed)) (fn2 λ v zero!. do v ← s_max v zero!; pure v) (fn2 λ v zero!. pure v))

unfoldable pub vmnmx_insert : ℕ → ℕ → Code
vmnmx_insert pos len = fn2 λ v c. do
  off ← u pos
  l ← u len
  v ← bit_field_insert c v off l
  pure v

-- of the result and c
unfoldable pub vmnmx_merge : ℕ → Bool → Code
vmnmx_merge mode dformat =
    ite (eqb mode 0) (vmnmx_insert 16 16)
    (ite (eqb mode 1) (vmnmx_insert 0 16)
    (ite (eqb mode 2) (vmnmx_insert 0 8)
    (ite (eqb mode 3) (vmnmx_insert 16 8)
    (ite (eqb mode 4) (fn2 λ v c. do v ← i_add v c; pure v)
    (ite (eqb mode 5) (minimum dformat) (ite (eqb mode 6) (maximum dformat) (fn2 λ v c. pure v)))))))

unfoldable pub vmnmx_words : Insn → Code
vmnmx_words i = fn3 λ a b c. do
  zero! ← u 0
  v ← fn3! (vmnmx_word (bit i 48) (bit i 49) (bit i 56)) a b zero!
  v ← fn2! (vmnmx_saturate (bit i 55) (bit i 54) (vmnmx_signed (bit i 48) (bit i 49) (bit i 56))) v zero!
  v ← fn2! (vmnmx_merge (bits i 51 3) (bit i 54)) v c
  v ← fn1! (set (rd i)) v
  pure v

unfoldable pub vmnmx : Insn → Code
vmnmx i = fn0 do
  a ← fn0! (r (ra i))
  a ← fn1! (video_operand (bits i 36 3) (bit i 48)) a
  b ← fn0! (vmnmx_b i)
  c ← fn0! (r (rc i))
  v ← fn3! (vmnmx_words i) a b c
  pure v

-- ---- conversion, counts

unfoldable pub absolute : Bool → Code
absolute on =
    ite on
    (fn1 λ v. do
      vi ← cast_i v
      a ← s_abs vi
      v ← cast_u a
      pure v)
    same

unfoldable pub saturate_if : Bool → Bool → Bool → ℕ → Code
saturate_if on from to size = ite on (saturate_int from to size) same

unfoldable pub i2i : Insn → Code
i2i i = fn0 do
  b ← fn0! (src_b i)
  v ← fn1! (int_source (bits i 10 2) (bit i 13) (bits i 41 2)) b
  v ← fn1! (absolute (bit i 49 && bit i 13)) v
  v ← fn1! (ineg (bit i 45)) v
  v ← fn1! (saturate_if (bit i 50) (bit i 13) (bit i 12) (bits i 8 2)) v
  v ← fn1! (int_source (bits i 8 2) (bit i 12) 0) v
  v ← fn1! (set (rd i)) v
  pure v

unfoldable pub find_msb : Bool → Code
find_msb signed = ite signed (fn1 λ v. do v ← find_smsb v; pure v) (fn1 λ v. do v ← find_umsb v; pure v)

unfoldable pub flo_shift : Bool → Code
flo_shift on =
    ite on
    (fn1 λ v. do
      c31 ← u 31
      s ← i_sub c31 v
      none! ← u 4294967295
      e ← i_equal v none!
      v ← select e none! s
      pure v)
    same

unfoldable pub flo : Insn → Code
flo i = fn0 do
  b ← fn0! (src_b i)
  b ← fn1! (inot (bit i 40)) b
  v ← fn1! (find_msb (bit i 48)) b
  v ← fn1! (flo_shift (bit i 41)) v
  v ← fn1! (set (rd i)) v
  pure v

unfoldable pub popc : Insn → Code
popc i = fn0 do
  b ← fn0! (src_b i)
  b ← fn1! (inot (bit i 40)) b
  v ← bit_count b
  v ← fn1! (set (rd i)) v
  pure v

-- ---- predicates and flags in a register

-- the mask of r2p and p2r; without an immediate, seven bits and a note
unfoldable pub predicate_mask : Insn → ℕ
predicate_mask i = cond (eqb i.form 2) (simm20 i) 127

unfoldable pub note_unless : Bool → ℕ → Code
note_unless on n = ite on same (fn1 λ v. do unsupported n; pure v)

-- cell k is asked for: one of seven predicates, or of four flags
unfoldable pub asked : Insn → ℕ → Bool
asked i k = table_bit (predicate_mask i) k && (ltb k 4 || not (bit i 40))

-- the bit of cell k in the register
unfoldable pub cell_bit : Insn → ℕ → ℕ
cell_bit i k = 2 ^ (bits i 41 2 * 8 + k)

unfoldable pub store_cell : Bool → ℕ → Code
store_cell flag k = ite flag (fn1 λ v. do store_flag k v; pure v) (fn1 λ v. do store_pred k v; pure v)

unfoldable pub r2p_turn : Insn → ℕ → Code
r2p_turn i k =
    ite (asked i k)
    (fn1 λ a. do
      m ← u (cell_bit i k)
      v ← bitwise_and a m
      zero! ← u 0
      t ← i_not_equal v zero!
      t ← fn1! (store_cell (bit i 40) k) t
      pure a)
    same

unfoldable pub r2p_turns : Insn → Code
r2p_turns i = fn1 λ a. do
  a ← fn1! (r2p_turn i 0) a
  a ← fn1! (r2p_turn i 1) a
  a ← fn1! (r2p_turn i 2) a
  a ← fn1! (r2p_turn i 3) a
  a ← fn1! (r2p_turn i 4) a
  a ← fn1! (r2p_turn i 5) a
  a ← fn1! (r2p_turn i 6) a
  pure a

unfoldable pub r2p : Insn → Code
r2p i = fn0 do
  a ← fn0! (r (ra i))
  a ← fn1! (note_unless (eqb i.form 2) 2) a
  a ← fn1! (r2p_turns i) a
  pure a

unfoldable pub load_cell : Bool → ℕ → Code
load_cell flag k = ite flag (fn0 do v ← cc_flag k; pure v) (predicate k)

unfoldable pub p2r_turn : Insn → ℕ → Code
p2r_turn i k =
    ite (asked i k)
    (fn1 λ v. do
      t ← fn0! (load_cell (bit i 40) k)
      b ← fn1! (b2u (cell_bit i k) 0) t
      v ← bitwise_or v b
      pure v)
    same

unfoldable pub p2r_turns : Insn → Code
p2r_turns i = fn1 λ v. do
  v ← fn1! (p2r_turn i 0) v
  v ← fn1! (p2r_turn i 1) v
  v ← fn1! (p2r_turn i 2) v
  v ← fn1! (p2r_turn i 3) v
  v ← fn1! (p2r_turn i 4) v
  v ← fn1! (p2r_turn i 5) v
  v ← fn1! (p2r_turn i 6) v
  pure v

unfoldable pub p2r_keep : Insn → ℕ
p2r_keep i = 4294967295 - predicate_mask i % 256 * 2 ^ (bits i 41 2 * 8)

unfoldable pub p2r : Insn → Code
p2r i = fn0 do
  a ← fn0! (r (ra i))
  a ← fn1! (note_unless (eqb i.form 2) 3) a
  keep ← u (p2r_keep i)
  v ← bitwise_and a keep
  v ← fn1! (p2r_turns i) v
  v ← fn1! (set (rd i)) v
  pure v

-- ---- two words at once

-- left by the opcode's value: 0x5bf8 << 48 or 0x36f8 << 48
unfoldable pub shf_left : Insn → Bool
shf_left i = eqb i.value 6627046851675684864 || eqb i.value 3960915872272351232

unfoldable pub shf_amount : Bool → Code
shf_amount wrap =
    ite wrap (fn3 λ n c31 c32. do v ← bitwise_and n c31; pure v)
    (fn3 λ n c31 c32. do v ← u_min n c32; pure v)

-- of the word that leads, the other one, the amount and 32
unfoldable pub shf_select : Code
shf_select = fn5 λ x y v amount c32. do
  zero! ← u 0
  is0 ← i_equal amount zero!
  is32 ← i_equal amount c32
  v ← select is0 x v
  v ← select is32 y v
  pure v

-- of low, high, the amount and 32
unfoldable pub shf_word : Bool → Code
shf_word left =
    ite left
    (fn4 λ low high amount c32. do
      inv ← i_sub c32 amount
      a ← shift_left_logical high amount
      b ← shift_right_logical low inv
      v ← bitwise_or a b
      v ← fn5! shf_select high low v amount c32
      pure v)
    (fn4 λ low high amount c32. do
      inv ← i_sub c32 amount
      a ← shift_right_logical low amount
      b ← shift_left_logical high inv
      v ← bitwise_or a b
      v ← fn5! shf_select low high v amount c32
      pure v)

-- neither of the 64-bit modes
unfoldable pub shf_plain : Insn → Bool
shf_plain i = eqb (bits i 37 2) 0 && eqb (bits i 48 2) 0

unfoldable pub shf_words : Insn → Code
shf_words i = fn3 λ low n high. do
  c31 ← u 31
  c32 ← u 32
  amount ← fn3! (shf_amount (bit i 50)) n c31 c32
  v ← fn4! (shf_word (shf_left i)) low high amount c32
  v ← fn1! (note_unless (shf_plain i) 4) v
  v ← fn1! (set (rd i)) v
  pure v

unfoldable pub shf : Insn → Code
shf i = fn0 do
  low ← fn0! (r (ra i))
  n ← fn0! (src_b i)
  high ← fn0! (r (rc i))
  v ← fn3! (shf_words i) low n high
  pure v

-- the high form by the opcode's value: 0x5bd8 << 48 with a register, 0x1800 << 48 with a constant
unfoldable pub lea_reg : Insn → Bool
lea_reg i = eqb i.value 6618039652420943872

unfoldable pub lea_cbuf : Insn → Bool
lea_cbuf i = eqb i.value 1729382256910270464

unfoldable pub lea_high : Insn → Bool
lea_high i = lea_reg i || lea_cbuf i

unfoldable pub lea_b : Insn → Code
lea_b i = ite (lea_reg i) (r (rb i)) (ite (lea_cbuf i) (cbuf_imm (cslot i) (cword i)) (src_b i))

unfoldable pub lea_shift : Insn → ℕ
lea_shift i = cond (lea_reg i) (bits i 28 5) (cond (lea_cbuf i) (bits i 51 5) (bits i 39 5))

-- of c, x and y: c alone where nothing is shifted
unfoldable pub lea_join : Bool → Code
lea_join unshifted = ite unshifted (fn3 λ c x y. pure c) (fn3 λ c x y. do v ← bitwise_or x y; pure v)

unfoldable pub lea_word : Insn → Code
lea_word i =
    ite (lea_high i)
    (fn1 λ a. do
      c ← fn0! (r (rc i))
      s ← u (lea_shift i)
      inv ← u (32 - lea_shift i)
      x ← shift_left_logical c s
      y ← shift_right_logical a inv
      v ← fn3! (lea_join (eqb (lea_shift i) 0)) c x y
      pure v)
    (fn1 λ a. do
      s ← u (lea_shift i)
      v ← shift_left_logical a s
      pure v)

unfoldable pub lea_negates : Insn → Bool
lea_negates i = bit i 45 && not (lea_high i)

unfoldable pub lea : Insn → Code
lea i = fn0 do
  a ← fn0! (r (ra i))
  b ← fn0! (lea_b i)
  a ← fn1! (ineg (lea_negates i)) a
  x ← fn1! (lea_word i) a
  v ← i_add x b
  v ← fn1! (set (rd i)) v
  pure v

-- ---- all of them, by kind

-- the arm of a kind: the Rust's `op`
unfoldable pub arm_of : ℕ → Insn → Code
arm_of k i =
    ite (eqb k 1) (mov i)
    (ite (eqb k 2) (mov32i i)
    (ite (eqb k 3) (sel i)
    (ite (eqb k 4) (csetp i)
    (ite (eqb k 5) (icompare true i)
    (ite (eqb k 6) (icompare false i)
    (ite (eqb k 7) (pcombine true i)
    (ite (eqb k 8) (pcombine false i)
    (ite (eqb k 9) (iadd i)
    (ite (eqb k 10) (iadd32i i)
    (ite (eqb k 11) (iadd3 i)
    (ite (eqb k 12) (iscadd i)
    (ite (eqb k 13) (xmad i)
    (ite (eqb k 14) (imnmx i)
    (ite (eqb k 15) (icmp i)
    (ite (eqb k 16) (lop i)
    (ite (eqb k 17) (lop32i i)
    (ite (eqb k 18) (lop3_arm i)
    (ite (eqb k 19) (shl i)
    (ite (eqb k 20) (shr i)
    (ite (eqb k 21) (bfe i)
    (ite (eqb k 22) (bfi i)
    (ite (eqb k 23) (vmnmx i)
    (ite (eqb k 24) (i2i i)
    (ite (eqb k 25) (flo i)
    (ite (eqb k 26) (popc i)
    (ite (eqb k 27) (r2p i)
    (ite (eqb k 28) (p2r i)
    (ite (eqb k 29) (shf i) (lea i)))))))))))))))))))))))))))))
