-- Where code raises at most one mark, the last one says all.
use mathlib.Core.Path.{◌≡◌, refl, sym}
use mathlib.Core.Bool.{true, false}
use mathlib.Core.List.{List}
use Prim.Native.Nat.{ℕ, zero, suc, ◌≤◌}
use native.Mathlib.Omega.{arith}
use native.Mathlib.Nat.{max-zero}
use lib.ListN.{get_or}
use lib.Seq.{set-get_or}
use Rattle.translation.specs.Code.{Code, ret, op, act, call, mark, ite}
use Rattle.translation.specs.Marks.{raise, uses}
use Rattle.translation.proofs.Fits.{marks, Mark, last}

pub none-used : (c : Code) (m : List ℕ) (w : Mark) → marks c ≡ 0 → (uses c m ≡ m) × (last c w ≡ w)
unfolding uses
none-used (ret l) m w h = (refl, refl)
none-used (op e k) m w h = none-used k m w h
none-used (act e k) m w h = none-used k m w h
none-used (call c ls k) m w h =
    let p = none-used c m w (omega arith) in
    let q = none-used k m w (omega arith) in
    (rw p.0 q.0, rw p.1 q.1)
none-used (mark s n k) m w h = absurd (omega arith)
none-used (ite true c d) m w h = none-used c m w (omega arith)
none-used (ite false c d) m w h = none-used d m w (omega arith)

abbrev pub clear : Mark
clear = record { slot = 0; need = 0 }

pub raise-none : (m : List ℕ) → raise m 0 0 ≡ m
unfolding raise
raise-none m = rw (max-zero (get_or m 0 0)) (set-get_or m 0 0)

pub one-used : (c : Code) (m : List ℕ) → marks c ≤ 1 → uses c m ≡ raise m (last c clear).slot (last c clear).need
unfolding uses
one-used (ret l) m h = sym (raise-none m)
one-used (op e k) m h = one-used k m h
one-used (act e k) m h = one-used k m h
one-used (call c ls k) m h = go (marks c) refl (one-used c m) (one-used k m)
  where
    go : (j : ℕ) → marks c ≡ j → (marks c ≤ 1 → uses c m ≡ raise m (last c clear).slot (last c clear).need) → (marks k ≤ 1 → uses k m ≡ raise m (last k clear).slot (last k clear).need)
        → uses k (uses c m) ≡ raise m (last k (last c clear)).slot (last k (last c clear)).need
    go zero e p q = let z = none-used c m clear e in rw (z.0, z.1) (q (omega arith))
    go (suc j) e p q =
        let z = none-used k (uses c m) (last c clear) (omega arith) in
        rw (z.0, z.1) (p (omega arith))
one-used (mark s n k) m h =
    let z = none-used k (raise m s n) (record { slot = s; need = n }) (omega arith) in
    rw (z.0, z.1)
one-used (ite true c d) m h = one-used c m (omega arith)
one-used (ite false c d) m h = one-used d m (omega arith)
