-- Numbers in decimal. Text is a list of ASCII codes.
use Rattle.std.specs.Prelude.{ℕ, zero, suc, ◌+◌, ◌/◌, ◌%◌, cond, List, [], ◌∷◌, ◌++◌, ltb}

-- the ASCII code of a digit below 16: `0` to `9`, then `a` to `f`
abbrev pub hex_digit_ascii : ℕ → ℕ
hex_digit_ascii d = cond (ltb d 10) (48 + d) (87 + d)

-- a number in decimal, with no zero in front; f digits hold it
unfoldable pub spelled : ℕ → ℕ → List ℕ
spelled zero n = []
spelled (suc f) n = cond (ltb n 10) (hex_digit_ascii n ∷ []) (spelled f (n / 10) ++ (hex_digit_ascii (n % 10) ∷ []))

-- twenty digits hold every 64-bit number
unfoldable pub decimal_of : ℕ → List ℕ
decimal_of n = spelled 20 n
