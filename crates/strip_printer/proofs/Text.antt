-- Text at a place of a buffer: hex, and the answers that it spells.
use Prim.Native.Nat.{ℕ, suc, ◌+◌, ◌*◌, ◌/◌, ◌%◌, ◌≤◌, ◌<◌}
use mathlib.Core.Path.{◌≡◌, refl, ap, ◌∙◌}
use mathlib.Core.List.{List, [], ◌∷◌, ◌++◌}
use native.Mathlib.Omega.{arith}
use native.Mathlib.Numerals.{add-one}
use lib.ListN.{length, take, get_or, set, replicate, length-append, length-set}
use lib.Seq.{sets, take-suc, length-take-le, length-sets}
use Rattle.ascii.specs.Decimal.{hex_digit_ascii}
use Rattle.ascii.proofs.Text.{sets-append}
use Rattle.translation.specs.Strip.{Outcome, Decision, refusal_number, length_of, decision}
use Rattle.std.specs.Prelude.{Ok, Err}
use Rattle.translation.specs.declared.answer.Refusal.{Refusal}
use Rattle.translation.specs.declared.answer.Refusal.TheVariants.{BadLength, UnknownKind, UnknownForm, SystemValueMov, ByteThree, NoRoom}
use Rattle.translation.proofs.Shape.{fits}
use Rattle.strip_printer.specs.Line.{hex_of, refused_text, text_of}

-- ---- a refusal's number has one digit
pub one-digit : (r : Refusal) → refusal_number r < 10
unfolding refusal_number
one-digit BadLength = omega arith
one-digit UnknownKind = omega arith
one-digit UnknownForm = omega arith
one-digit SystemValueMov = omega arith
one-digit ByteThree = omega arith
one-digit NoRoom = omega arith

-- ---- hex
pub hex-append : (a b : List ℕ) → hex_of (a ++ b) ≡ hex_of a ++ hex_of b
unfolding hex_of
hex-append [] b = refl
hex-append (x ∷ a) b = ap (λ (l : List ℕ). hex_digit_ascii (x / 16) ∷ (hex_digit_ascii (x % 16) ∷ l)) (hex-append a b)

pub length-hex : (l : List ℕ) → length (hex_of l) ≡ 2 * length l
unfolding hex_of
length-hex [] = refl
length-hex (x ∷ l) = omega (arith, length-hex l)

-- ---- a text that grows at a place
pub hex-none : (base : List ℕ) (at : ℕ) → base ≡ sets base at (hex_of [])
unfolding hex_of
hex-none base at = refl

pub hex-more : (bytes base out : List ℕ) (at i : ℕ) → i < length bytes → out ≡ sets base at (hex_of (take i bytes)) → length (take i bytes) ≡ i
    → set (set out (at + 2 * i) (hex_digit_ascii (get_or bytes i 0 / 16))) (suc (at + 2 * i)) (hex_digit_ascii (get_or bytes i 0 % 16)) ≡ sets base at (hex_of (take (suc i) bytes))
unfolding hex_of
hex-more bytes base out at i h e l =
    let b = get_or bytes i 0 in
    rw (take-suc bytes i 0 h, hex-append, e) (sets-append (hex_of (take i bytes)) (hex_digit_ascii (b / 16) ∷ (hex_digit_ascii (b % 16) ∷ [])) base at (at + 2 * i) (omega (arith, length-hex (take i bytes))))

-- ---- refusals
pub refused-is : (base out : List ℕ) (at : ℕ) (r : Refusal) (b : ℕ) → out ≡ sets base at (114 ∷ 101 ∷ 102 ∷ 117 ∷ 115 ∷ 101 ∷ 100 ∷ 32 ∷ []) → b ≡ 48 + refusal_number r
    → set out (at + 8) b ≡ sets base at (refused_text r)
unfolding refused_text
refused-is base out at r b e d = rw (e, d) (sets-append (114 ∷ 101 ∷ 102 ∷ 117 ∷ 115 ∷ 101 ∷ 100 ∷ 32 ∷ []) ((48 + refusal_number r) ∷ []) base at (at + 8) refl)

pub refused-size : (r : Refusal) → length (refused_text r) ≡ 9
unfolding refused_text
refused-size r = refl

-- ---- the two texts
module _ (o : Outcome) (room : List ℕ) where
  pub written_is : (n : ℕ) → o ≡ Ok n → length_of o ≡ n
  unfolding length_of
  written_is n e = rw e

  pub strip-answer : (base out : List ℕ) (at r n : ℕ) → o ≡ Ok n → length_of o ≤ length room → length_of o ≤ 256 → out ≡ sets base at (hex_of (take n room)) → r ≡ at + 2 * n
      → (out ≡ sets base at (text_of o room)) × ((r ≡ at + length (text_of o room)) × (r ≤ at + 512))
  unfolding text_of
  strip-answer base out at r n e h k x y =
      let w = written_is n e in
      let l : length (take n room) ≡ n = length-take-le n room (omega arith) in
      rw e (x, (omega (arith, length-hex (take n room)), omega arith))

  pub refused-answer : (base out : List ℕ) (at r : ℕ) (why : Refusal) → o ≡ Err why → out ≡ sets base at (refused_text why) → r ≡ at + 9
      → (out ≡ sets base at (text_of o room)) × ((r ≡ at + length (text_of o room)) × (r ≤ at + 512))
  unfolding text_of
  refused-answer base out at r why e x y = rw e (x, (omega (arith, refused-size why), omega arith))

-- ---- a line: digits, a space, a text, the end
pub line-is : (base o1 o3 d t : List ℕ) (at at1 at2 : ℕ) → o1 ≡ sets base at d → at1 ≡ at + length d → o3 ≡ sets (set o1 at1 32) (at1 + 1) t → at2 ≡ (at1 + 1) + length t
    → set o3 at2 10 ≡ sets base at (d ++ (32 ∷ (t ++ (10 ∷ []))))
line-is base o1 o3 d t at at1 at2 e1 h1 e3 h2 =
    rw (e3, e1, add-one) (sets-append t (10 ∷ []) (set (sets base at d) at1 32) (suc at1) at2 (omega arith) ∙ sets-append d (32 ∷ (t ++ (10 ∷ []))) base at at1 h1)

pub line-length : (base o1 o3 d t : List ℕ) (at at1 : ℕ) → o1 ≡ sets base at d → o3 ≡ sets (set o1 at1 32) (at1 + 1) t → length o3 ≡ length base
line-length base o1 o3 d t at at1 e1 e3 = rw (e3, length-sets, length-set, e1, length-sets)

pub line-size : (d t : List ℕ) → length (d ++ (32 ∷ (t ++ (10 ∷ [])))) ≡ length d + (length t + 2)
line-size d t = rw (length-append, length-append) (omega arith)

-- ---- answers

-- of an answer in 256 bytes
module _ {a : Decision} (l m : List ℕ) (e : a ≡ decision l m (replicate 256 0)) where
  pub fits-length : length a.out ≡ 256
  fits-length = rw e (fits l m (replicate 256 0)).same

  pub fits-most : length_of a.outcome ≤ 256
  fits-most = rw e (fits l m (replicate 256 0)).within

  pub fits-room : length_of a.outcome ≤ length a.out
  fits-room = omega (arith, fits-length, fits-most)
