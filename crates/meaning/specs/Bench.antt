-- The marked bench rows of 01, on the meanings: d is register 0, a is 1, b is 2, c is 3; the guard always holds.
use Rattle.std.specs.Prelude.{Bool, true, false, ◌&&◌, List, [], ◌∷◌, ℕ, ◌+◌, ◌*◌, ◌^◌, eqb, get_or, replicate}
use Rattle.std.specs.Bool.{beq}
use Rattle.evaluation.specs.declared.state.State.{State}
use Rattle.meaning.specs.Meaning.{meaning}

-- predicates all true, flags all false
abbrev pub start : ℕ → ℕ → ℕ → State
start a b c = record { regs = 0 ∷ a ∷ b ∷ c ∷ replicate 251 0; preds = replicate 7 true; flags = replicate 4 false }

-- the parts of an instruction word: guard 7, and the registers of a, b and c
abbrev pub guard7 : ℕ
guard7 = 7 * 2 ^ 16

abbrev pub b_is2 : ℕ
b_is2 = 2 * 2 ^ 20

abbrev pub a_is1 : ℕ
a_is1 = 1 * 2 ^ 8

abbrev pub c_is3 : ℕ
c_is3 = 3 * 2 ^ 39

-- a row: kind, form, mode bits, the words a, b and c, the result, and the flags Z, S, C, O after it
pub record Row : Type 0 where
  pub kind : ℕ
  pub form : ℕ
  pub mode : ℕ
  pub a : ℕ
  pub b : ℕ
  pub c : ℕ
  pub gives : ℕ
  pub flags : List Bool

abbrev pub row_state : Row → State
row_state r = meaning [] (record { kind = r.kind; form = r.form; value = 0; word = guard7 + r.mode }) (start r.a r.b r.c)

abbrev pub same_truths : List Bool → List Bool → Bool
same_truths [] [] = true
same_truths [] (t ∷ ts) = false
same_truths (s ∷ ss) [] = false
same_truths (s ∷ ss) (t ∷ ts) = beq s t && same_truths ss ts

abbrev pub holds : Row → Bool
holds r = eqb (get_or (row_state r).regs 0 0) r.gives && same_truths (row_state r).flags r.flags

abbrev pub zsco : (z s c o : Bool) → List Bool
zsco z s c o = z ∷ s ∷ c ∷ o ∷ []

abbrev pub no_flags : List Bool
no_flags = zsco false false false false

abbrev pub row : ℕ → ℕ → ℕ → ℕ → ℕ → ℕ → ℕ → List Bool → Row
row k f m a b c d fs = record { kind = k; form = f; mode = m; a = a; b = b; c = c; gives = d; flags = fs }

unfoldable pub rows : List Row
rows =
    row 9 0 (a_is1 + b_is2 + 2 ^ 47) 2147483647 1 0 2147483648 (zsco false true false true)  -- iadd CC, 7fffffff, 1
    ∷ row 9 0 (a_is1 + b_is2 + 2 ^ 47 + 2 ^ 50) 2147483647 1 0 2147483647 (zsco false true false true)  -- the same, saturating
    ∷ row 9 0 (a_is1 + b_is2 + 2 ^ 47) 4294967295 1 0 0 (zsco true false true false)  -- iadd CC, ffffffff, 1
    ∷ row 9 0 (a_is1 + b_is2 + 2 ^ 47 + 2 ^ 48) 5 5 0 0 (zsco true false true false)  -- iadd CC, 5, 5 negated
    ∷ row 9 0 (a_is1 + b_is2 + 2 ^ 48 + 2 ^ 49) 1 2 0 4294967293 no_flags  -- iadd both negated, 1, 2
    ∷ row 20 0 (a_is1 + b_is2 + 2 ^ 48) 2147483648 40 0 4294967295 no_flags  -- shr signed, 80000000 by 40
    ∷ row 29 0 (a_is1 + b_is2 + c_is3) 1 33 3 3 no_flags  -- shf right, low 1, high 3, count 33
    ∷ row 29 0 (a_is1 + b_is2 + c_is3 + 2 ^ 50) 1 33 3 2147483648 no_flags  -- with bit 50
    ∷ row 21 0 (a_is1 + b_is2) 2882343476 (28 + 8 * 256) 0 10 no_flags  -- bfe unsigned, abcd1234, p 28, n 8
    ∷ row 21 0 (a_is1 + b_is2) 2882343476 (32 + 8 * 256) 0 0 no_flags  -- p 32
    ∷ row 28 2 (a_is1 + 255 * 2 ^ 20 + 2 ^ 41) 4294967295 0 0 4294934527 no_flags  -- p2r mask ff, byte 1, ffffffff, all predicates true
    ∷ row 25 0 (b_is2 + 2 ^ 41) 0 1 0 31 no_flags  -- flo unsigned, bit 41: of 1
    ∷ row 25 0 (b_is2 + 2 ^ 41) 0 0 0 4294967295 no_flags  -- of 0
    ∷ row 24 0 (b_is2 + 2 ^ 12 + 2 ^ 13 + 2 ^ 49 + 2 ^ 50) 0 128 0 127 no_flags  -- i2i signed byte 80 to signed byte, abs, saturate
    ∷ []
