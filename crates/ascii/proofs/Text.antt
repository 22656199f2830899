-- Text that grows at a place of a buffer, and the digits of a number.
use Rattle.std.proofs.Common.{◌≡◌, ℕ, ◌+◌, ◌-◌, ◌/◌, ◌%◌, ◌<◌, ◌≤◌, zero, suc, List, [], ◌∷◌, ◌++◌, append_assoc, length, length-append, length-take-le, take, take_at, drop_at, set, ap, ap₂, ◌∙◌, arith}
use Rattle.std.proofs.lemmas.List.{drop-drop, take-append-le}
use lib.Seq.{take-add, sets-eq}
use borrow.Rule.Slice.PartMut.{put_mid, post_of}
use borrow.Author.Tests.{lt-ltb, le-ltb}
use Rattle.std.proofs.lemmas.List.Edits.{sets}
use Rattle.ascii.specs.Decimal.{hex_digit_ascii, spelled}

-- bytes, and then bytes after them
pub sets-append : (xs ys l : List ℕ) (i j : ℕ) → j ≡ i + length xs → sets (sets l i xs) j ys ≡ sets l i (xs ++ ys)
sets-append [] ys l i j e = let h : j ≡ i = omega arith in rw h
sets-append (x ∷ xs) ys l i j e = sets-append xs ys (set l i x) (suc i) j (omega arith)

-- a part of a buffer that was written over
pub part-sets : (a k : ℕ) (xs ys : List ℕ) → a + length ys ≤ length xs → k ≡ length ys → put_mid a k xs ys ≡ sets xs a ys
part-sets a k xs ys h e = rw (sets-eq ys xs a h, e, append_assoc) (ap (λ (l : List ℕ). take a xs ++ (ys ++ l)) (drop-drop (length ys) a xs))

-- what was read, and then what a part holds that was read into after it
pub part_more : (a k n : ℕ) (xs ys : List ℕ) → a ≤ length xs → n ≤ length ys → take (a + n) (put_mid a k xs ys) ≡ take a xs ++ take n ys
part_more a k n xs ys h p = let l : length (take a xs) ≡ a = length-take-le a xs h in
    take-add a n (put_mid a k xs ys) ∙ ap₂ ◌++◌ (take_at (take a xs) (ys ++ post_of a k xs) a l) (ap (take n) (drop_at (take a xs) (ys ++ post_of a k xs) a l) ∙ take-append-le n ys (post_of a k xs) p)

-- a number below ten has one digit
pub spelled_one : (f n : ℕ) → 0 < f → n < 10 → spelled f n ≡ hex_digit_ascii n ∷ []
unfolding spelled
spelled_one zero n some low = absurd (omega arith)
spelled_one (suc f) n some low = rw (lt-ltb n 10 low)

-- any other one has those of a tenth of it, and its last
pub spelled_more : (f n : ℕ) → 0 < f → 10 ≤ n → spelled f n ≡ spelled (f - 1) (n / 10) ++ (hex_digit_ascii (n % 10) ∷ [])
unfolding spelled
spelled_more zero n some high = absurd (omega arith)
spelled_more (suc f) n some high = let e : suc f - 1 ≡ f = omega arith in rw (le-ltb n 10 high, e)

-- the text of a number grows by its last digit
pub digit_more : (f n d at to : ℕ) (base out : List ℕ) → 0 < f → 10 ≤ n → d ≡ hex_digit_ascii (n % 10) → out ≡ sets base at (spelled (f - 1) (n / 10))
    → to ≡ at + length (spelled (f - 1) (n / 10)) → set out to d ≡ sets base at (spelled f n)
digit_more f n d at to base out some high e o t =
    rw (spelled_more f n some high, o, e) (sets-append (spelled (f - 1) (n / 10)) (hex_digit_ascii (n % 10) ∷ []) base at to t)

pub length_more : (f n : ℕ) → 0 < f → 10 ≤ n → length (spelled f n) ≡ length (spelled (f - 1) (n / 10)) + 1
length_more f n some high = rw (spelled_more f n some high, length-append)
