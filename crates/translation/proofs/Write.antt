-- An entry is put where the last ended.
use mathlib.Core.Path.{◌≡◌, ap}
use Prim.Native.Nat.{ℕ, zero, suc, ◌+◌, ◌*◌, ◌%◌, ◌^◌, ◌≤◌, ◌<◌}
use native.Mathlib.Nat.{one-mul, mod-eq_of_lt}
use native.Mathlib.Omega.{arith}
use lib.Pow.{pow-lt}
use lib.ListN.{length}
use Rattle.strip.specs.declared.reader.Entry.{Entry}
use Rattle.strip.specs.Entry.{wide, kind_of, refs_of, immediate_of, encode}
use Rattle.translation.specs.Emit.{Buffer, Value, wrote, made}

-- the longest body has four references
pub entry-short : (e : Entry) → length (encode wide e) ≤ 9
unfolding encode kind_of immediate_of refs_of
entry-short (Entry.Bare k) = omega arith
entry-short (Entry.Word w) = omega arith
entry-short (Entry.Cell k n) = omega arith
entry-short (Entry.Store k n a) = omega arith
entry-short (Entry.One k a) = omega arith
entry-short (Entry.Two k a b) = omega arith
entry-short (Entry.Three k a b c) = omega arith
entry-short (Entry.Four k a b c d) = omega arith

-- after its entry a value takes the next number
pub numbered : (a b : Buffer) (e : Entry) → a ≡ wrote e b
    → record { buffer = record { list = a.list; at = a.at; next = (a.next + 1) % 256; slot = a.slot; need = a.need }; number = a.next } ≡ made e b
unfolding wrote made
numbered a b e h = ap {B = Value} (λ (x : Buffer). record { buffer = record { list = x.list; at = x.at; next = (x.next + 1) % 256; slot = x.slot; need = x.need }; number = x.next }) h

-- 1 shifted left, at any width
pub one_shift : (w n : ℕ) → n < w → (1 * 2 ^ n) % 2 ^ w ≡ 2 ^ n
one_shift w n h = rw (one-mul (2 ^ n)) (mod-eq_of_lt (pow-lt h))

-- a byte at one of four places stays below 2^32
pub mask_fits : (m b : ℕ) → b < 4 → m % 256 * 2 ^ (b * 8) % 2 ^ 32 ≡ m % 256 * 2 ^ (b * 8)
mask_fits m zero h = mod-eq_of_lt (omega arith)
mask_fits m (suc zero) h = mod-eq_of_lt (omega arith)
mask_fits m (suc (suc zero)) h = mod-eq_of_lt (omega arith)
mask_fits m (suc (suc (suc zero))) h = mod-eq_of_lt (omega arith)
mask_fits m (suc (suc (suc (suc b)))) h = absurd (omega arith)
