-- What the thirty instructions mean (01, 'Meanings and their corners'), on the record, the state and the lent words. Bits are named by
-- their place in the word. Each meaning gives the state after the instruction where its guard holds.
use Rattle.std.specs.Prelude.{Bool, true, false, cond, not, ◌&&◌, ◌||◌, List, ℕ, zero, suc, ◌+◌, ◌-◌, ◌*◌, ◌/◌, ◌%◌, ◌^◌, min, eqb, ltb, leb, length, ℤ, pos, nat_abs, ◌+ℤ◌, ◌*ℤ◌}
use Rattle.std.specs.Bool.{xor, beq}
use Rattle.std.specs.Int.Signed.{lt_z, le_z}
use Rattle.evaluation.specs.declared.state.State.{State}
use Rattle.meaning.specs.Number.{signed, integer_of, word_of, clamp, least, greatest, divided, smaller, greater, bit_at, from_bits, ones, highest_one, complement, reversed, field, extracted, inserted, digit}
use Rattle.meaning.specs.Record.{Record, bits, bit, rd, ra, rb, rc, imm32, simm20}
use Rattle.meaning.specs.Operand.{reg, set_reg, pred, set_pred, flag, set_flag, set_flags, set_zs, pred_if, constant_place, constant, operand_b, word_b, word_c, half}

-- the instruction runs: its guard, a predicate, negated or not
abbrev pub runs : Record → State → Bool
runs i s = pred_if s (bits i 16 3) (bit i 19)

-- it never does: predicate 7, which reads true in every state, negated
unfoldable pub never_runs : Record → Bool
never_runs i = eqb (bits i 16 3) 7 && bit i 19

-- the opcode's value is n × 2 ^ 48: the Rust writes it in hex, and so do the comments
abbrev pub opcode : Record → ℕ → Bool
opcode i n = eqb i.value (n * 2 ^ 48)

-- modulo 2 ^ 32
abbrev pub wrap : ℕ → ℕ
wrap n = n % 2 ^ 32

unfoldable pub complement_if : Bool → ℕ → ℕ
complement_if on x = cond on (complement x) x

unfoldable pub negate_if : Bool → ℕ → ℕ
negate_if on x = cond on (wrap (2 ^ 32 - x)) x

unfoldable pub reverse_if : Bool → ℕ → ℕ
reverse_if on x = cond on (reversed x) x

-- ---- moves and choices

abbrev pub mov : List ℕ → Record → State → State
mov ks i s = set_reg s (rd i) (operand_b ks i s)

abbrev pub mov32i : Record → State → State
mov32i i s = set_reg s (rd i) (imm32 i)

-- the predicate that sel, imnmx and the comparisons take
abbrev pub selector : Record → State → Bool
selector i s = pred_if s (bits i 39 3) (bit i 42)

abbrev pub sel : List ℕ → Record → State → State
sel ks i s = set_reg s (rd i) (cond (selector i s) (reg s (ra i)) (operand_b ks i s))

abbrev pub imnmx : List ℕ → Record → State → State
imnmx ks i s =
    set_reg s (rd i)
    (cond (selector i s) (smaller (bit i 48) (reg s (ra i)) (operand_b ks i s)) (greater (bit i 48) (reg s (ra i)) (operand_b ks i s)))

-- ---- tests

-- the eight integer tests are one rule: bit 0 of the code holds for less, bit 1 for equal, bit 2 for greater
unfoldable pub int_test : ℕ → Bool → ℕ → ℕ → Bool
int_test t sign x y =
    (bit_at t 0 && lt_z (integer_of sign 32 x) (integer_of sign 32 y))
    || ((bit_at t 1 && eqb x y) || (bit_at t 2 && lt_z (integer_of sign 32 y) (integer_of sign 32 x)))

-- c against 0; 0x5340 has the constant in c
abbrev pub icmp : List ℕ → Record → State → State
icmp ks i s =
    set_reg s (rd i) (cond (int_test (bits i 49 3) (bit i 48) (word_c ks i (opcode i 21312) s) 0) (reg s (ra i)) (word_b ks i (opcode i 21312) s))

-- the condition tests on Z, S, C and O; 15 and those above 23 are true
unfoldable pub condition : ℕ → (z sign c o : Bool) → Bool
condition t z sign c o =
    cond (eqb t 0 || eqb t 16) false
    (cond (eqb t 1 || eqb t 9) (xor sign o)
    (cond (eqb t 2 || eqb t 10) z
    (cond (eqb t 3 || eqb t 11) (xor sign o || z)
    (cond (eqb t 4 || eqb t 12) (not (xor sign o || z))
    (cond (eqb t 5 || eqb t 13) (not z)
    (cond (eqb t 6 || eqb t 14) (not (xor sign o))
    (cond (eqb t 7) (not o)
    (cond (eqb t 8 || eqb t 23) o
    (cond (eqb t 17) (not c)
    (cond (eqb t 18) (not sign)
    (cond (eqb t 19) (not c || z)
    (cond (eqb t 20) (c && not z)
    (cond (eqb t 21) sign
    (cond (eqb t 22) c true))))))))))))))

-- two truths combined: and, or, else exclusive or
unfoldable pub combined : ℕ → Bool → Bool → Bool
combined o p q = cond (eqb o 0) (p && q) (cond (eqb o 1) (p || q) (xor p q))

-- a test and a predicate to two predicates: the second answer combines the negated test, and is stored last
unfoldable pub set_pair : Record → Bool → Bool → State → State
set_pair i t p s = set_pred (set_pred s (bits i 3 3) (combined (bits i 45 2) t p)) (bits i 0 3) (combined (bits i 45 2) (not t) p)

-- or to a register: 1.0 or all ones for true, 0 for false
unfoldable pub truth_word : Record → Bool → ℕ
truth_word i t = cond t (cond (bit i 44) 1065353216 (2 ^ 32 - 1)) 0

unfoldable pub set_truth : Record → Bool → Bool → State → State
set_truth i t p s =
    set_reg (set_zs (bit i 47) s (truth_word i (combined (bits i 45 2) t p))) (rd i) (truth_word i (combined (bits i 45 2) t p))

abbrev pub int_tested : List ℕ → Record → State → Bool
int_tested ks i s = int_test (bits i 49 3) (bit i 48) (reg s (ra i)) (operand_b ks i s)

abbrev pub pred_tested : Record → State → Bool
pred_tested i s = combined (bits i 24 2) (pred_if s (bits i 12 3) (bit i 15)) (pred_if s (bits i 29 3) (bit i 32))

abbrev pub csetp : Record → State → State
csetp i s = set_pair i (condition (bits i 8 5) (flag s 0) (flag s 1) (flag s 2) (flag s 3)) (selector i s) s

abbrev pub isetp : List ℕ → Record → State → State
isetp ks i s = set_pair i (int_tested ks i s) (selector i s) s

abbrev pub iset : List ℕ → Record → State → State
iset ks i s = set_truth i (int_tested ks i s) (selector i s) s

abbrev pub psetp : Record → State → State
psetp i s = set_pair i (pred_tested i s) (selector i s) s

abbrev pub pset : Record → State → State
pset i s = set_truth i (pred_tested i s) (selector i s) s

-- ---- sums: of two words and a carry

abbrev pub total : ℕ → ℕ → ℕ → ℕ
total a b k = a + b + k

unfoldable pub exact_sum : ℕ → ℕ → ℕ → ℤ
exact_sum a b k = signed a +ℤ signed b +ℤ pos k

-- the exact signed sum is no signed word
unfoldable pub overflows : ℕ → ℕ → ℕ → Bool
overflows a b k = lt_z (exact_sum a b k) (least true 32) || lt_z (greatest true 32) (exact_sum a b k)

unfoldable pub saturated : ℕ → ℕ → ℕ → ℕ
saturated a b k = word_of (clamp (least true 32) (greatest true 32) (exact_sum a b k))

-- Z and S of the sum before clamping, C is bit 32 of the unsigned sum, O says that the exact signed sum is no signed word
unfoldable pub set_sum_flags : Bool → ℕ → ℕ → ℕ → State → State
set_sum_flags on a b k s =
    cond on (set_flags s (eqb (wrap (total a b k)) 0) (leb (2 ^ 31) (wrap (total a b k))) (leb (2 ^ 32) (total a b k)) (overflows a b k)) s

abbrev pub carry_bit : State → ℕ
carry_bit s = cond (flag s 2) 1 0

-- with extend, or with exactly one sign bit, an operand marked negative is complemented; with both and no extend, each is negated
unfoldable pub prepared : Bool → Bool → Bool → Bool → ℕ → ℕ
prepared extend na nb on x = cond (extend || xor na nb) (complement_if on x) (negate_if on x)

-- the carry is C with extend, 1 with exactly one sign bit, else 0
unfoldable pub carry_in : Bool → Bool → Bool → State → ℕ
carry_in extend na nb s = cond extend (carry_bit s) (cond (xor na nb) 1 0)

unfoldable pub added : ℕ → (cc sat : Bool) → ℕ → ℕ → ℕ → State → State
added d cc sat a b k s = set_reg (set_sum_flags cc a b k s) d (cond sat (saturated a b k) (wrap (total a b k)))

unfoldable pub sum : ℕ → (na nb extend cc sat : Bool) → ℕ → ℕ → State → State
sum d na nb extend cc sat a b s = added d cc sat (prepared extend na nb na a) (prepared extend na nb nb b) (carry_in extend na nb s) s

abbrev pub iadd : List ℕ → Record → State → State
iadd ks i s = sum (rd i) (bit i 49) (bit i 48) (bit i 43) (bit i 47) (bit i 50) (reg s (ra i)) (operand_b ks i s) s

abbrev pub iadd32i : Record → State → State
iadd32i i s = sum (rd i) (bit i 56) false (bit i 53) (bit i 52) (bit i 54) (reg s (ra i)) (imm32 i) s

-- an operand of iadd3: in the register form a half of the register, or all of it
unfoldable pub part : Record → ℕ → ℕ → ℕ
part i code x = cond (eqb i.form 0) (cond (eqb code 1) (half false false x) (cond (eqb code 2) (half true false x) x)) x

-- the first sum, wrapped: in the register form it may be shifted by 16
unfoldable pub part_sum : Record → ℕ → ℕ
part_sum i x =
    cond (eqb i.form 0) (cond (eqb (bits i 37 2) 1) (x / 2 ^ 16) (cond (eqb (bits i 37 2) 2) (wrap (x * 2 ^ 16)) x)) x

abbrev pub iadd3 : List ℕ → Record → State → State
iadd3 ks i s =
    added (rd i) (bit i 47) false
    (part_sum i (wrap (negate_if (bit i 51) (part i (bits i 35 2) (reg s (ra i))) + negate_if (bit i 50) (part i (bits i 33 2) (operand_b ks i s)))))
    (negate_if (bit i 49) (part i (bits i 31 2) (reg s (rc i))))
    (cond (bit i 48) (carry_bit s) 0)
    s

abbrev pub iscadd : List ℕ → Record → State → State
iscadd ks i s = set_reg s (rd i) (wrap (negate_if (bit i 49) (reg s (ra i)) * 2 ^ bits i 39 5 + negate_if (bit i 48) (operand_b ks i s)))

-- ---- xmad: the product of two halves, shifted, and c as the mode alters it; a merge keeps the low half under b × 65,536

-- 0x5100 has the constant in c
abbrev pub xmad_swaps : Record → Bool
xmad_swaps i = opcode i 20736

abbrev pub xmad_b : List ℕ → Record → State → ℕ
xmad_b ks i s = cond (eqb i.form 2) (bits i 20 16) (word_b ks i (xmad_swaps i) s)

abbrev pub xmad_c : List ℕ → Record → State → ℕ
xmad_c ks i s = word_c ks i (xmad_swaps i) s

unfoldable pub xmad_high_b : Record → Bool
xmad_high_b i = cond (eqb i.form 1) (bit i 52) (eqb i.form 0 && bit i 35)

unfoldable pub xmad_shifts : Record → Bool
xmad_shifts i = cond (eqb i.form 1) (not (xmad_swaps i) && bit i 55) (bit i 36)

unfoldable pub xmad_merges : Record → Bool
xmad_merges i = cond (eqb i.form 1) (not (xmad_swaps i) && bit i 56) (bit i 37)

unfoldable pub xmad_mode : Record → ℕ
xmad_mode i = cond (eqb i.form 1) (bits i 50 2) (bits i 50 3)

-- a half as an integer
abbrev pub half_number : Bool → Bool → ℕ → ℤ
half_number high sign x = integer_of sign 16 (field x (cond high 16 0) 16)

-- its low half, its high half, or b × 65,536 added to it
unfoldable pub altered : ℕ → ℕ → ℕ → ℕ
altered mode c b =
    cond (eqb mode 1) (c % 2 ^ 16) (cond (eqb mode 2) (c / 2 ^ 16) (cond (eqb mode 4) (wrap (c + b * 2 ^ 16)) c))

-- sixteen bits of the instruction are never signed
abbrev pub xmad_product : Record → ℕ → ℕ → ℤ
xmad_product i a b =
    half_number (bit i 53) (bit i 48) a *ℤ half_number (xmad_high_b i) (bit i 49 && not (eqb i.form 2)) b *ℤ pos (cond (xmad_shifts i) (2 ^ 16) 1)

unfoldable pub xmad_sum : Record → ℕ → ℕ → ℕ → ℕ
xmad_sum i a b c = word_of (xmad_product i a b +ℤ pos (altered (xmad_mode i) c b))

unfoldable pub merged : Bool → ℕ → ℕ → ℕ
merged on v b = cond on (v % 2 ^ 16 + b % 2 ^ 16 * 2 ^ 16) v

abbrev pub xmad : List ℕ → Record → State → State
xmad ks i s = set_reg s (rd i) (merged (xmad_merges i) (xmad_sum i (reg s (ra i)) (xmad_b ks i s) (xmad_c ks i s)) (xmad_b ks i s))

-- ---- logic, bit by bit

-- and, or, exclusive or, else b alone
unfoldable pub bitwise : ℕ → ℕ → ℕ → ℕ
bitwise o a b =
    cond (eqb o 0) (from_bits 32 (λ j. bit_at a j && bit_at b j))
    (cond (eqb o 1) (from_bits 32 (λ j. bit_at a j || bit_at b j))
    (cond (eqb o 2) (from_bits 32 (λ j. xor (bit_at a j) (bit_at b j))) b))

-- the predicate of lop, unless 7: false, true, result 0 or result not 0
unfoldable pub set_test : Record → ℕ → State → State
set_test i v s = set_pred s (bits i 48 3) (cond (eqb (bits i 44 2) 2) (eqb v 0) (cond (eqb (bits i 44 2) 3) (not (eqb v 0)) (eqb (bits i 44 2) 1)))

abbrev pub lop_word : List ℕ → Record → State → ℕ
lop_word ks i s = bitwise (bits i 41 2) (complement_if (bit i 39) (reg s (ra i))) (complement_if (bit i 40) (operand_b ks i s))

abbrev pub lop : List ℕ → Record → State → State
lop ks i s = set_reg (set_test i (lop_word ks i s) (set_zs (bit i 47) s (lop_word ks i s))) (rd i) (lop_word ks i s)

abbrev pub lop32i_word : Record → State → ℕ
lop32i_word i s = bitwise (bits i 53 2) (complement_if (bit i 55) (reg s (ra i))) (complement_if (bit i 56) (imm32 i))

abbrev pub lop32i : Record → State → State
lop32i i s = set_reg (set_zs (bit i 52) s (lop32i_word i s)) (rd i) (lop32i_word i s)

-- lop3: a result bit is the table's bit 4a + 2b + c
unfoldable pub tabled : ℕ → ℕ → ℕ → ℕ → ℕ
tabled table a b c = from_bits 32 (λ j. bit_at table (4 * digit a j + 2 * digit b j + digit c j))

abbrev pub lop3 : List ℕ → Record → State → State
lop3 ks i s = set_reg s (rd i) (tabled (cond (eqb i.form 0) (bits i 28 8) (bits i 48 8)) (reg s (ra i)) (operand_b ks i s) (reg s (rc i)))

-- ---- shifts: with bit 39 the count is taken modulo 32

abbrev pub count : Record → ℕ → ℕ
count i n = cond (bit i 39) (n % 32) n

abbrev pub shl : List ℕ → Record → State → State
shl ks i s = set_reg s (rd i) (cond (ltb (count i (operand_b ks i s)) 32) (wrap (reg s (ra i) * 2 ^ count i (operand_b ks i s))) 0)

abbrev pub shr : List ℕ → Record → State → State
shr ks i s =
    set_reg s (rd i) (word_of (divided (integer_of (bit i 48) 32 (reverse_if (bit i 40) (reg s (ra i)))) (min (count i (operand_b ks i s)) 32)))

-- shf: of the double word high × 2 ^ 32 + low; bit 50 takes the count modulo 32; 0x5bf8 and 0x36f8 shift left, and give the high word
abbrev pub double : ℕ → ℕ → ℕ
double high low = high * 2 ^ 32 + low

abbrev pub shf_count : Record → ℕ → ℕ
shf_count i n = cond (bit i 50) (n % 32) (min n 32)

unfoldable pub shifted : Bool → ℕ → ℕ → ℕ → ℕ
shifted left high low n = cond left (wrap (double high low * 2 ^ n / 2 ^ 32)) (wrap (double high low / 2 ^ n))

abbrev pub shf : List ℕ → Record → State → State
shf ks i s = set_reg s (rd i) (shifted (opcode i 23544 || opcode i 14072) (reg s (rc i)) (reg s (ra i)) (shf_count i (operand_b ks i s)))

-- lea: a shifted, and b; the high form, 0x5bd8 or 0x1800, takes the high word of c × 2 ^ 32 + a, and never negates a
abbrev pub lea_reg : Record → Bool
lea_reg i = opcode i 23512

abbrev pub lea_constant : Record → Bool
lea_constant i = opcode i 6144

abbrev pub lea_b : List ℕ → Record → State → ℕ
lea_b ks i s = cond (lea_reg i) (reg s (rb i)) (cond (lea_constant i) (constant ks i) (operand_b ks i s))

abbrev pub lea_count : Record → ℕ
lea_count i = cond (lea_reg i) (bits i 28 5) (cond (lea_constant i) (bits i 51 5) (bits i 39 5))

abbrev pub lea : List ℕ → Record → State → State
lea ks i s =
    set_reg s (rd i)
    (cond (lea_reg i || lea_constant i) (wrap (shifted true (reg s (rc i)) (reg s (ra i)) (lea_count i) + lea_b ks i s))
    (wrap (negate_if (bit i 45) (reg s (ra i)) * 2 ^ lea_count i + lea_b ks i s)))

-- ---- fields: b has the position in its low byte, the length in the next; both are cut at bit 31

abbrev pub position : ℕ → ℕ
position b = min (b % 256) 32

abbrev pub width : ℕ → ℕ
width b = min (b / 256 % 256) (32 - position b)

abbrev pub bfe : List ℕ → Record → State → State
bfe ks i s =
    set_reg s (rd i) (extracted (bit i 48) (reverse_if (bit i 40) (reg s (ra i))) (position (operand_b ks i s)) (width (operand_b ks i s)))

-- 0x53f0 has the constant in c
abbrev pub bfi_b : List ℕ → Record → State → ℕ
bfi_b ks i s = word_b ks i (opcode i 21488) s

abbrev pub bfi : List ℕ → Record → State → State
bfi ks i s = set_reg s (rd i) (inserted (word_c ks i (opcode i 21488) s) (reg s (ra i)) (position (bfi_b ks i s)) (width (bfi_b ks i s)))

-- ---- vmnmx: of bytes, halves or words

-- codes 0 to 3 are bytes, 4 and 5 halves, 6 and 7 the word
unfoldable pub video : ℕ → Bool → ℕ → ℕ
video code sign x = cond (ltb code 4) (extracted sign x (code * 8) 8) (cond (ltb code 6) (extracted sign x ((code - 4) * 16) 16) (extracted sign x 0 32))

abbrev pub video_a : Record → State → ℕ
video_a i s = video (bits i 36 3) (bit i 48) (reg s (ra i))

-- b is a register, or sixteen bits, signed or not
abbrev pub video_b : Record → State → ℕ
video_b i s = cond (bit i 50) (video (bits i 28 3) (bit i 49) (reg s (rb i))) (extracted (bit i 49) (bits i 20 16) 0 16)

-- of mixed signs the maximum is exact; the minimum is the signed operand where that is negative, else the signed minimum of the words
unfoldable pub mixed_min : Bool → ℕ → ℕ → ℕ
mixed_min sa a b = cond (leb (2 ^ 31) (cond sa a b)) (cond sa a b) (smaller true a b)

unfoldable pub exact_max : (sa sb : Bool) → ℕ → ℕ → ℕ
exact_max sa sb a b = cond (le_z (integer_of sa 32 a) (integer_of sb 32 b)) b a

unfoldable pub extremum : (sa sb max : Bool) → ℕ → ℕ → ℕ
extremum sa sb max a b = cond max (exact_max sa sb a b) (cond (beq sa sb) (smaller sa a b) (mixed_min sa a b))

-- it counts as signed: like both operands, else where it is the minimum
abbrev pub extremum_signed : (sa sb max : Bool) → Bool
extremum_signed sa sb max = cond (beq sa sb) sa (not max)

-- where it is asked for, a word that counts as signed or not, clamped to n bits, signed or not
unfoldable pub clamp_if : Bool → Bool → Bool → ℕ → ℕ → ℕ
clamp_if on from to n v = cond on (word_of (clamp (least to n) (greatest to n) (integer_of from 32 v))) v

-- joined with c: put into a half or byte of it, added, or the smaller or greater of both
unfoldable pub joined : ℕ → Bool → ℕ → ℕ → ℕ
joined mode sign v c =
    cond (eqb mode 0) (inserted c v 16 16)
    (cond (eqb mode 1) (inserted c v 0 16)
    (cond (eqb mode 2) (inserted c v 0 8)
    (cond (eqb mode 3) (inserted c v 16 8)
    (cond (eqb mode 4) (wrap (v + c))
    (cond (eqb mode 5) (smaller sign v c) (cond (eqb mode 6) (greater sign v c) v))))))

abbrev pub vmnmx : Record → State → State
vmnmx i s =
    set_reg s (rd i)
    (joined (bits i 51 3) (bit i 54)
    (clamp_if (bit i 55) (extremum_signed (bit i 48) (bit i 49) (bit i 56)) (bit i 54) 32 (extremum (bit i 48) (bit i 49) (bit i 56) (video_a i s) (video_b i s)))
    (reg s (rc i)))

-- ---- i2i: a byte, half or word, its absolute value, negated, clamped, and cut to the size of the result

abbrev pub bits_of_size : ℕ → ℕ
bits_of_size code = cond (eqb code 0) 8 (cond (eqb code 1) 16 32)

-- a byte or half from a byte on, its sign extended or not; else the word
unfoldable pub source : ℕ → Bool → ℕ → ℕ → ℕ
source code sign byte x = extracted sign x (cond (ltb code 2) (byte * 8) 0) (bits_of_size code)

-- that of -2 ^ 31 wraps to itself
unfoldable pub absolute_if : Bool → ℕ → ℕ
absolute_if on x = cond on (word_of (pos (nat_abs (signed x)))) x

abbrev pub i2i : List ℕ → Record → State → State
i2i ks i s =
    set_reg s (rd i)
    (source (bits i 8 2) (bit i 12) 0
    (clamp_if (bit i 50) (bit i 13) (bit i 12) (bits_of_size (bits i 8 2))
    (negate_if (bit i 45) (absolute_if (bit i 49 && bit i 13) (source (bits i 10 2) (bit i 13) (bits i 41 2) (operand_b ks i s))))))

-- ---- counts

-- the highest place unlike the sign; of an unsigned word the highest one
unfoldable pub highest_place : Bool → ℕ → ℕ
highest_place sign x = highest_one 32 (cond (sign && leb (2 ^ 31) x) (complement x) x)

-- bit 41 gives 31 minus it, unless there is none
unfoldable pub from_top : Bool → ℕ → ℕ
from_top on v = cond (on && not (eqb v (2 ^ 32 - 1))) (31 - v) v

abbrev pub flo : List ℕ → Record → State → State
flo ks i s = set_reg s (rd i) (from_top (bit i 41) (highest_place (bit i 48) (complement_if (bit i 40) (operand_b ks i s))))

abbrev pub popc : List ℕ → Record → State → State
popc ks i s = set_reg s (rd i) (ones 32 (complement_if (bit i 40) (operand_b ks i s)))

-- ---- predicates or flags, and a byte of a register

-- without an immediate the mask is seven ones
abbrev pub mask : Record → ℕ
mask i = cond (eqb i.form 2) (simm20 i) 127

abbrev pub place : Record → ℕ
place i = bits i 41 2 * 8

-- seven predicates, or with bit 40 four flags
abbrev pub cells : Record → ℕ
cells i = cond (bit i 40) 4 7

-- r2p: the first n cells that the mask names, from the bits of a
unfoldable pub spread : Record → ℕ → ℕ → State → State
spread i a zero s = s
spread i a (suc n) s =
    cond (bit_at (mask i) n) (cond (bit i 40) (set_flag (spread i a n s) n (bit_at a (place i + n))) (set_pred (spread i a n s) n (bit_at a (place i + n))))
    (spread i a n s)

abbrev pub r2p : Record → State → State
r2p i s = spread i (reg s (ra i)) (cells i) s

-- p2r: the masked bits of the byte become the cells, or 0 where there is no such cell; the other bits stay
unfoldable pub cell_bit : Record → State → ℕ → Bool
cell_bit i s n = ltb n (cells i) && cond (bit i 40) (flag s n) (pred s n)

unfoldable pub packed : Record → State → ℕ → ℕ
packed i s a =
    from_bits 32 (λ j. cond (leb (place i) j && (ltb j (place i + 8) && bit_at (mask i) (j - place i))) (cell_bit i s (j - place i)) (bit_at a j))

abbrev pub p2r : Record → State → State
p2r i s = set_reg s (rd i) (packed i s (reg s (ra i)))

-- ---- all of them, by kind

unfoldable pub meant : List ℕ → Record → State → State
meant ks i s =
    cond (eqb i.kind 1) (mov ks i s)
    (cond (eqb i.kind 2) (mov32i i s)
    (cond (eqb i.kind 3) (sel ks i s)
    (cond (eqb i.kind 4) (csetp i s)
    (cond (eqb i.kind 5) (isetp ks i s)
    (cond (eqb i.kind 6) (iset ks i s)
    (cond (eqb i.kind 7) (psetp i s)
    (cond (eqb i.kind 8) (pset i s)
    (cond (eqb i.kind 9) (iadd ks i s)
    (cond (eqb i.kind 10) (iadd32i i s)
    (cond (eqb i.kind 11) (iadd3 ks i s)
    (cond (eqb i.kind 12) (iscadd ks i s)
    (cond (eqb i.kind 13) (xmad ks i s)
    (cond (eqb i.kind 14) (imnmx ks i s)
    (cond (eqb i.kind 15) (icmp ks i s)
    (cond (eqb i.kind 16) (lop ks i s)
    (cond (eqb i.kind 17) (lop32i i s)
    (cond (eqb i.kind 18) (lop3 ks i s)
    (cond (eqb i.kind 19) (shl ks i s)
    (cond (eqb i.kind 20) (shr ks i s)
    (cond (eqb i.kind 21) (bfe ks i s)
    (cond (eqb i.kind 22) (bfi ks i s)
    (cond (eqb i.kind 23) (vmnmx i s)
    (cond (eqb i.kind 24) (i2i ks i s)
    (cond (eqb i.kind 25) (flo ks i s)
    (cond (eqb i.kind 26) (popc ks i s)
    (cond (eqb i.kind 27) (r2p i s)
    (cond (eqb i.kind 28) (p2r i s)
    (cond (eqb i.kind 29) (shf ks i s) (lea ks i s)))))))))))))))))))))))))))))

-- an instruction that does not run changes nothing
unfoldable pub meaning : List ℕ → Record → State → State
meaning ks i s = cond (runs i s) (meant ks i s) s

-- ---- constants: which records read one, and whether it is lent

-- the kinds whose second operand may be a constant: all but those that take none
unfoldable pub may_read : ℕ → Bool
may_read k = not (eqb k 2 || (eqb k 4 || (eqb k 7 || (eqb k 8 || (eqb k 10 || (eqb k 17 || (eqb k 23 || (eqb k 27 || eqb k 28))))))))

-- lea's opcode names the constant, or a register; else its form does
abbrev pub lea_reads : Record → Bool
lea_reads i = lea_constant i || (not (lea_reg i) && eqb i.form 1)

-- where the record runs it reads a constant
unfoldable pub reads_when_run : Record → Bool
reads_when_run i = cond (eqb i.kind 30) (lea_reads i) (eqb i.form 1 && may_read i.kind)

-- what never runs reads none
unfoldable pub reads : Record → Bool
reads i = not (never_runs i) && reads_when_run i

abbrev pub lent : List ℕ → Record → Bool
lent ks i = ltb (constant_place i) (length ks)
