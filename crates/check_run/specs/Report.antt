-- What check_run says of a run (02, #103): a line. Text is a list of ASCII codes.
use Rattle.std.specs.Prelude.{◌≡◌, ℕ, ◌+◌, ◌≤◌, Bool, cond, List, [], ◌∷◌, ◌++◌, length, take}
use Rattle.strip.specs.declared.format.Layout.{Layout}
use Rattle.strip.specs.declared.stream.Fed.{Fed}
use Rattle.strip.specs.Stream.{start_of, feed, at_end}
use Rattle.ascii.specs.Decimal.{decimal_of}
use Rattle.check_run.specs.declared.report.Check.{Check}

-- `well-formed, N strips`
abbrev pub well_text : List ℕ
well_text = 119 ∷ 101 ∷ 108 ∷ 108 ∷ 45 ∷ 102 ∷ 111 ∷ 114 ∷ 109 ∷ 101 ∷ 100 ∷ 44 ∷ 32 ∷ []

abbrev pub strips_text : List ℕ
strips_text = 32 ∷ 115 ∷ 116 ∷ 114 ∷ 105 ∷ 112 ∷ 115 ∷ 10 ∷ []

unfoldable pub well_formed : ℕ → List ℕ
well_formed n = well_text ++ decimal_of n ++ strips_text

-- `refused 7 at byte B`
abbrev pub refused_text : List ℕ
refused_text = 114 ∷ 101 ∷ 102 ∷ 117 ∷ 115 ∷ 101 ∷ 100 ∷ 32 ∷ 55 ∷ 32 ∷ 97 ∷ 116 ∷ 32 ∷ 98 ∷ 121 ∷ 116 ∷ 101 ∷ 32 ∷ []

abbrev pub end_text : List ℕ
end_text = 10 ∷ []

unfoldable pub refused_at : ℕ → List ℕ
refused_at b = refused_text ++ decimal_of b ++ end_text

-- the line, by the test's answer, the strips that ended and the bytes that were passed
unfoldable pub line_of : Bool → ℕ → ℕ → List ℕ
line_of ok strips passed = cond ok (well_formed strips) (refused_at passed)

-- ---- block after block
abbrev pub started : Layout → Check
started l = record { stream = start_of l; passed = 0; strips = 0 }

abbrev pub plus : Check → Fed → Check
plus c f = record { stream = f.stream; passed = c.passed + f.bytes; strips = c.strips + f.strips }

-- a block more
unfoldable pub taken : Check → List ℕ → Check
taken c block = plus c (feed c.stream block)

abbrev pub takes : Check → List (List ℕ) → Check
takes c [] = c
takes c (block ∷ blocks) = takes (taken c block) blocks

-- what is said at the end
unfoldable pub said : Check → List ℕ
said c = line_of (at_end c.stream) c.strips c.passed

-- a block of what was read into a buffer, however much of it
pub record Read (input : List ℕ) (c c' : Check) : Type 0 where
  pub count : ℕ
  pub within : count ≤ length input
  pub is : c' ≡ taken c (take count input)
