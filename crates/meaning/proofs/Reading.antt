-- The meanings' reading of a record is the translator's: the bytes, and the places of the word's fields.
use mathlib.Core.Path.{◌≡◌, refl}
use mathlib.Core.Bool.{Bool, true, false, cond}
use mathlib.Core.List.{List}
use Prim.Native.Nat.{ℕ, ◌+◌, ◌*◌, ◌^◌, ◌<◌}
use native.Mathlib.Omega.{arith}
use lib.ListN.{get_or}
use borrow.Author.Tests.{lt-ltb, le-ltb}
use Rattle.translation.specs.Insn as T
use Rattle.translation.specs.Strip.{insn_of, word_at64}
use Rattle.translation.proofs.InRange as Range
use Rattle.meaning.specs.Number.{signed_of, word_of}
use Rattle.meaning.specs.Record.{Record, number_at, record_of, bits, bit, rd, ra, rb, rc, imm32, simm20, constant_slot, constant_word}

-- ---- the bytes

-- the translator's instruction
abbrev pub insn : Record → T.Insn
insn i = record { form = i.form; value = i.value; word = i.word }

byte_at : (l : List ℕ) (p : ℕ) → number_at l p 1 ≡ get_or l p 0
unfolding number_at
byte_at l p = omega arith

value-at : (l : List ℕ) → number_at l 2 8 ≡ word_at64 l 2
unfolding number_at
value-at l = omega arith

word_at : (l : List ℕ) → number_at l 10 8 ≡ word_at64 l 10
unfolding number_at
word_at l = omega arith

pub kind-same : (l : List ℕ) → (record_of l).kind ≡ get_or l 0 0
unfolding record_of
kind-same l = byte_at l 0

pub insn-same : (l : List ℕ) → insn (record_of l) ≡ insn_of l
unfolding record_of
insn-same l = λ t. record { form = byte_at l 1 t; value = value-at l t; word = word_at l t }

-- ---- the fields

module _ (i : Record) where
  pub bits-same : (p n : ℕ) → bits i p n ≡ T.bits (insn i) p n
  unfolding T.bits
  bits-same p n = refl

  pub bit-same : (p : ℕ) → bit i p ≡ T.bit (insn i) p
  unfolding T.bits T.bit
  bit-same p = refl

  pub bits-lt : (p n : ℕ) → bits i p n < 2 ^ n
  unfolding T.bits
  bits-lt p n = Range.bits-lt (insn i) p n

  pub simm20-same : simm20 i ≡ T.simm20 (insn i)
  unfolding simm20 T.simm20 T.bits T.bit signed_of word_of
  simm20-same = go (bit i 56) (bits i 20 19) (bits-lt 20 19)
    where
      small : (x : ℕ) → x < 2 ^ 19 → word_of (signed_of 20 (x + 0)) ≡ x
      small x h = rw (lt-ltb ((x + 0) * 2) (2 ^ 20) (omega arith)) (omega arith)

      large : (x : ℕ) → x < 2 ^ 19 → word_of (signed_of 20 (x + 2 ^ 19)) ≡ x + 4294443008
      large x h = rw (le-ltb ((x + 2 ^ 19) * 2) (2 ^ 20) (omega arith)) (omega arith)

      go : (b : Bool) (x : ℕ) → x < 2 ^ 19 → word_of (signed_of 20 (x + cond b (2 ^ 19) 0)) ≡ cond b (x + 4294443008) x
      go true x h = large x h
      go false x h = small x h

  pub simm20-lt : simm20 i < 2 ^ 32
  simm20-lt = rw simm20-same (Range.simm20-lt (insn i))

  -- each place is the translator's
  pub record Places : Type 0 where
    pub rd-same : rd i ≡ T.rd (insn i)
    pub ra-same : ra i ≡ T.ra (insn i)
    pub rb-same : rb i ≡ T.rb (insn i)
    pub rc-same : rc i ≡ T.rc (insn i)
    pub imm32-same : imm32 i ≡ T.imm32 (insn i)
    pub immediate-same : simm20 i ≡ T.simm20 (insn i)
    pub slot_same : constant_slot i ≡ T.cslot (insn i)
    pub word_same : constant_word i ≡ T.cword (insn i)

  pub places : Places
  places = record {
    rd-same = bits-same 0 8;
    ra-same = bits-same 8 8;
    rb-same = bits-same 20 8;
    rc-same = bits-same 39 8;
    imm32-same = bits-same 20 32;
    immediate-same = simm20-same;
    slot_same = bits-same 34 5;
    word_same = bits-same 20 14;
  }
