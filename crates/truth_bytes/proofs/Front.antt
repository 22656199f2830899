-- Truths written to bytes, one list after the other.
use mathlib.Core.Path.{◌≡◌, refl, sym, ap, ◌∙◌}
use mathlib.Core.List.{List, ◌++◌, map, map-append}
use mathlib.Core.Bool.{Bool}
use Prim.Native.Nat.{ℕ, ◌+◌, ◌≤◌}
use native.Mathlib.Omega.{arith}
use lib.ListN.{length, take, length-map}
use lib.Seq.{sets, length-sets, take_all}
use Rattle.truth_bytes.specs.Truths.{truth_byte}
use Rattle.truth_bytes.proofs.Lists.{sets-upto}

-- the first n of m bytes hold truths
abbrev pub Front : ℕ → ℕ → List ℕ → List Bool → Type 0
Front n m l ts = (take n l ≡ map truth_byte ts) × (length l ≡ m)

pub appended : {l' : List ℕ} (l : List ℕ) (ts us : List Bool) (n k m : ℕ) → length us ≡ k → n + k ≤ m → Front n m l ts → l' ≡ sets l n (map truth_byte us) → Front (n + k) m l' (ts ++ us)
appended {l'} l ts us n k m h b (p, q) e =
    let j : length (map truth_byte us) ≡ k = length-map us truth_byte ∙ h in
    (ap (take (n + k)) e ∙ sets-upto l (map truth_byte us) n (n + k) (rw (j, q) b) (rw j refl) ∙ rw (p, map-append) refl, ap length e ∙ length-sets l n (map truth_byte us) ∙ q)

pub whole : {l : List ℕ} (ts : List Bool) (m : ℕ) → Front m m l ts → l ≡ map truth_byte ts
whole {l} ts m (p, q) = sym (take_all m l (omega (arith, q))) ∙ p
