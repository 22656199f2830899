-- Numbers in range: every cell, slot and note that code names lies in the range of its kind, and every word has 32 bits.
use mathlib.Core.Path.{◌≡◌, refl}
use mathlib.Core.Bool.{Bool, true, false, cond, not, ◌&&◌, ◌||◌, false≢true}
use mathlib.Core.List.{List, [], ◌∷◌, ◌++◌}
use Prim.Native.Nat.{ℕ, suc, ◌+◌, ◌-◌, ◌*◌, ◌/◌, ◌%◌, ◌^◌, ◌<◌}
use native.Mathlib.Omega.{arith}
use lib.Dec.{eqb, ltb, leb}
use lib.Pow.{pow_pos, pow-lt, pow-sub-lt, ones_sub-lt}
use native.Mathlib.Nat.{mod-lt}
use borrow.Author.Tests.{ltb-true, lt-ltb, le-leb, eqb-false}
use Rattle.strip.specs.declared.reader.Entry.{Entry}
use Rattle.strip.specs.Format.{format_of}
use Rattle.strip.specs.Entry.{kind_of, cells_of}
use Rattle.strip.specs.Shape.{all, cell_ok}
use Rattle.strip.proofs.Tests.{and_left, and_right}
use Rattle.strip.proofs.Run.{all_append}
use Rattle.translation.specs.Insn.{Insn, bits, bit, simm20}
use Rattle.translation.specs.Code.{Code, ret, op, act, call, mark, ite, renamed, at, ats, build}
use Rattle.translation.specs.Helpers.{r, set, predicate, setp, b2u, cbuf_at, cbuf_imm, table_bit, extract, field, half16, video_operand, int_source, width_of, highest, lowest, clamp_high, saturate_by, saturate_int}
use Rattle.translation.specs.Arms.{truth_word, vmnmx_imm, p2r_keep, lea_reg, lea_cbuf, lea_shift, predicate_mask, asked, cell_bit, store_cell, r2p_turn, load_cell, p2r_turn}

-- an entry's word, where it has one
abbrev pub word_in : Entry → Bool
word_in (Entry.Bare k) = true
word_in (Entry.Word w) = ltb w 4294967296
word_in (Entry.Cell k n) = true
word_in (Entry.Store k n r) = true
word_in (Entry.One k a) = true
word_in (Entry.Two k a b) = true
word_in (Entry.Three k a b c) = true
word_in (Entry.Four k a b c d) = true

abbrev pub fits : Entry → Bool
fits e = word_in e && cell_ok (format_of (kind_of e)) e

-- of two branches: both are right, or the one that is taken
unfoldable pub either : Bool → Bool → Bool → Bool
either b true true = true
either b true false = b
either b false y = not b && y

unfoldable pub in_range : Code → Bool
in_range (ret l) = true
in_range (op e k) = fits e && in_range k
in_range (act e k) = fits e && in_range k
in_range (call c ls k) = in_range c && in_range k
in_range (mark s n k) = in_range k
in_range (ite b c d) = either b (in_range c) (in_range d)

-- ---- so are those of the entries that it builds

fits-renamed : (f : ℕ → ℕ) (e : Entry) → fits e ≡ true → fits (renamed f e) ≡ true
unfolding kind_of cell_ok cells_of
fits-renamed f (Entry.Bare k) h = h
fits-renamed f (Entry.Word w) h = h
fits-renamed f (Entry.Cell k n) h = h
fits-renamed f (Entry.Store k n r) h = h
fits-renamed f (Entry.One k a) h = h
fits-renamed f (Entry.Two k a b) h = h
fits-renamed f (Entry.Three k a b c) h = h
fits-renamed f (Entry.Four k a b c d) h = h

pub taken : (x y : Bool) → either true x y ≡ true → x ≡ true
unfolding either
taken true y h = refl
taken false y h = absurd (false≢true h)

pub left_out : (x y : Bool) → either false x y ≡ true → y ≡ true
unfolding either
left_out true true h = refl
left_out true false h = absurd (false≢true h)
left_out false y h = h

pub ranged : (c : Code) (rs : List ℕ) (n : ℕ) → in_range c ≡ true → all fits (build c rs n).entries ≡ true
unfolding in_range build
ranged (ret l) rs n h = refl
ranged (op e k) rs n h = rw (fits-renamed (at rs) e (and_left (fits e) _ h)) (ranged k (rs ++ (n ∷ [])) (suc n) (and_right (fits e) _ h))
ranged (act e k) rs n h = rw (fits-renamed (at rs) e (and_left (fits e) _ h)) (ranged k rs n (and_right (fits e) _ h))
ranged (call c ls k) rs n h =
    let b = build c (ats rs ls) n in
    all_append fits b.entries _ (ranged c (ats rs ls) n (and_left (in_range c) _ h)) (ranged k (rs ++ (b.result ∷ [])) b.next (and_right (in_range c) _ h))
ranged (mark s u k) rs n h = ranged k rs n h
ranged (ite true c d) rs n h = ranged c rs n (taken (in_range c) (in_range d) h)
ranged (ite false c d) rs n h = ranged d rs n (left_out (in_range c) (in_range d) h)

-- ---- numbers of an instruction

pub bits-lt : (i : Insn) (lo n : ℕ) → bits i lo n < 2 ^ n
unfolding bits
bits-lt i lo n = mod-lt (i.word / 2 ^ lo) (pow_pos n)

cond-lt : (b : Bool) (x y n : ℕ) → x < n → y < n → cond b x y < n
cond-lt true x y n p q = p
cond-lt false x y n p q = q

pub simm20-lt : (i : Insn) → simm20 i < 4294967296
unfolding simm20
simm20-lt i = cond-lt (bit i 56) _ _ _ (omega (arith, bits-lt i 20 19)) (omega (arith, bits-lt i 20 19))

pub truth-word-lt : (i : Insn) → truth_word i < 4294967296
unfolding truth_word
truth-word-lt i = cond-lt (bit i 44) _ _ _ (omega arith) (omega arith)

pub vmnmx-imm-lt : (i : Insn) → vmnmx_imm i < 4294967296
unfolding vmnmx_imm
vmnmx-imm-lt i = cond-lt (bit i 49 && bit i 35) _ _ _ (omega (arith, bits-lt i 20 16)) (omega (arith, bits-lt i 20 16))

pub p2r-keep-lt : (i : Insn) → p2r_keep i < 4294967296
unfolding p2r_keep
p2r-keep-lt i = ones_sub-lt 32 (predicate_mask i % 256 * 2 ^ (bits i 41 2 * 8))

pub lea-shift-lt : (i : Insn) → lea_shift i < 32
unfolding lea_shift
lea-shift-lt i = cond-lt (lea_reg i) _ _ _ (bits-lt i 28 5) (cond-lt (lea_cbuf i) _ _ _ (bits-lt i 51 5) (bits-lt i 39 5))

-- ---- helpers that name a cell, a slot, or a word of their argument

cell_in_lem : (n limit : ℕ) → n < limit → (leb 0 n && ltb n limit) && true ≡ true
cell_in_lem n limit h = rw (le-leb 0 n (omega arith), lt-ltb n limit h) refl

-- the last number names no cell, the others do
cell-or-none : (n limit : ℕ) → n < suc limit → either (eqb n limit) true (((leb 0 n && ltb n limit) && true) && true) ≡ true
unfolding either
cell-or-none n limit h = go (eqb n limit) refl
  where
    when : (y : Bool) → either true true y ≡ true
    when true = refl
    when false = refl

    go : (b : Bool) → eqb n limit ≡ b → either b true (((leb 0 n && ltb n limit) && true) && true) ≡ true
    go true e = when (((leb 0 n && ltb n limit) && true) && true)
    go false e = let d = eqb-false n limit e in rw (cell_in_lem n limit (omega arith)) refl

pub r-range : (k : ℕ) → k < 256 → in_range (r k) ≡ true
unfolding in_range r format_of kind_of cell_ok cells_of
r-range k h = cell-or-none k 255 h

pub set-range : (k : ℕ) → k < 256 → in_range (set k) ≡ true
unfolding in_range set format_of kind_of cell_ok cells_of
set-range k h = cell-or-none k 255 h

pub predicate-range : (k : ℕ) → k < 8 → in_range (predicate k) ≡ true
unfolding in_range predicate format_of kind_of cell_ok cells_of
predicate-range k h = cell-or-none k 7 h

pub setp-range : (k : ℕ) → k < 8 → in_range (setp k) ≡ true
unfolding in_range setp format_of kind_of cell_ok cells_of
setp-range k h = cell-or-none k 7 h

pub cbuf-range : (s w : ℕ) → s < 32 → w < 16384 → in_range (cbuf_imm s w) ≡ true
unfolding in_range cbuf_imm cbuf_at format_of kind_of cell_ok cells_of
cbuf-range s w p q = rw (cell_in_lem s 32 p, lt-ltb (w * 4) 4294967296 (omega arith)) refl

field-range : (pos len : ℕ) (signed : Bool) → pos < 4294967296 → len < 4294967296 → in_range (field pos len signed) ≡ true
unfolding in_range either field extract format_of kind_of cell_ok cells_of
field-range pos len signed p q = rw (lt-ltb pos 4294967296 p, lt-ltb len 4294967296 q) refl

pub half-range : (high signed : Bool) → in_range (half16 high signed) ≡ true
unfolding half16
half-range high signed = field-range (cond high 16 0) 16 signed (cond-lt high _ _ _ (omega arith) (omega arith)) (omega arith)

pub video-range : (sel : ℕ) (signed : Bool) → sel < 8 → in_range (video_operand sel signed) ≡ true
unfolding video_operand in_range either
video-range sel signed h = rw (field-range (sel * 8) 8 signed (omega arith) (omega arith), field-range ((sel - 4) * 16) 16 signed (omega arith) (omega arith)) refl

pub source-range : (size : ℕ) (signed : Bool) (byte : ℕ) → byte < 4 → in_range (int_source size signed byte) ≡ true
unfolding int_source in_range either
source-range size signed byte h = rw (field-range (byte * 8) 8 signed (omega arith) (omega arith), field-range (byte * 8) 16 signed (omega arith) (omega arith)) refl

width-lt : (a b : Bool) → 2 ^ cond a 8 (cond b 16 32) - 1 < 4294967296
width-lt true b = omega arith
width-lt false true = omega arith
width-lt false false = omega arith

half-width-lt : (a b : Bool) → 2 ^ (cond a 8 (cond b 16 32) - 1) - 1 < 4294967296
half-width-lt true b = omega arith
half-width-lt false true = omega arith
half-width-lt false false = omega arith

highest-lt : (signed : Bool) (size : ℕ) → highest signed size < 4294967296
unfolding highest
highest-lt true size = half-width-lt (eqb size 0) (eqb size 1)
highest-lt false size = width-lt (eqb size 0) (eqb size 1)

lowest-lt : (signed : Bool) (size : ℕ) → lowest signed size < 4294967296
unfolding lowest
lowest-lt true size = pow-sub-lt 32 (pow_pos (width_of size - 1))
lowest-lt false size = omega arith

pub saturate-range : (from to : Bool) (size : ℕ) → in_range (saturate_int from to size) ≡ true
unfolding in_range either saturate_int saturate_by clamp_high format_of kind_of cell_ok cells_of
saturate-range from to size = rw (lt-ltb (highest to size) 4294967296 (highest-lt to size), lt-ltb (lowest to size) 4294967296 (lowest-lt to size)) refl

-- ---- the turns of r2p and p2r: no flag beyond the fourth is asked for

then-in : (b x : Bool) → (b ≡ true → x ≡ true) → either b x true ≡ true
unfolding either
then-in true x h = rw (h refl) refl
then-in false true h = refl
then-in false false h = refl

cell-bit-lt : (i : Insn) (k : ℕ) → k < 7 → cell_bit i k < 4294967296
unfolding cell_bit
cell-bit-lt i k h = pow-lt {i = bits i 41 2 * 8 + k} {j = 32} (omega (arith, bits-lt i 41 2))

asked-cell : (i : Insn) (k : ℕ) → asked i k ≡ true → ltb k 4 || not (bit i 40) ≡ true
unfolding asked
asked-cell i k a = and_right (table_bit (predicate_mask i) k) _ a

module _ (k : ℕ) (h : k < 7) where
  of_either : (flag x y : Bool) → ltb k 4 || not flag ≡ true → (k < 4 → x ≡ true) → y ≡ true → either flag x y ≡ true
  unfolding either
  of_either true x y a p q = rw (p (four (ltb k 4) refl a), q) refl
    where
      four : (t : Bool) → ltb k 4 ≡ t → t || false ≡ true → k < 4
      four true e a = ltb-true k 4 e
      four false e a = absurd (false≢true a)
  of_either false true y a p q = rw q refl
  of_either false false y a p q = q

  store_range : (flag : Bool) → ltb k 4 || not flag ≡ true → in_range (store_cell flag k) ≡ true
  unfolding store_cell in_range format_of kind_of cell_ok cells_of
  store_range flag a =
      of_either flag (((leb 0 k && ltb k 4) && true) && true) (((leb 0 k && ltb k 7) && true) && true) a
      (λ l. rw (cell_in_lem k 4 l) refl) (rw (cell_in_lem k 7 h) refl)

  load-range : (flag : Bool) → ltb k 4 || not flag ≡ true → in_range (load_cell flag k) ≡ true
  unfolding load_cell in_range format_of kind_of cell_ok cells_of
  load-range flag a =
      of_either flag (((leb 0 k && ltb k 4) && true) && true) (in_range (predicate k)) a
      (λ l. rw (cell_in_lem k 4 l) refl) (predicate-range k (omega arith))

  module _ (i : Insn) where
    pub r2p-range : in_range (r2p_turn i k) ≡ true
    unfolding r2p_turn in_range format_of kind_of cell_ok cells_of
    r2p-range =
        then-in (asked i k) ((ltb (cell_bit i k) 4294967296 && true) && (in_range (store_cell (bit i 40) k) && true))
        (λ a. rw (lt-ltb (cell_bit i k) 4294967296 (cell-bit-lt i k h), store_range (bit i 40) (asked-cell i k a)) refl)

    pub p2r-range : in_range (p2r_turn i k) ≡ true
    unfolding p2r_turn b2u in_range format_of kind_of cell_ok cells_of
    p2r-range =
        then-in (asked i k) (in_range (load_cell (bit i 40) k) && (((ltb (cell_bit i k) 4294967296 && true) && true) && true))
        (λ a. rw (lt-ltb (cell_bit i k) 4294967296 (cell-bit-lt i k h), load-range (bit i 40) (asked-cell i k a)) refl)
