-- The state of a test in bytes: what is written there is read back.
use mathlib.Core.Path.{◌≡◌, refl, ap, subst, ◌∙◌}
use mathlib.Core.List.{List, [], ◌∷◌, ◌++◌, append-nil}
use mathlib.Core.Bool.{Bool, true, false, cond, not}
use Prim.Native.Nat.{ℕ, ◌+◌, ◌-◌, ◌*◌, ◌/◌, ◌%◌, ◌^◌, ◌≤◌, ◌<◌}
use native.Mathlib.Omega.{arith}
use native.Mathlib.Nat.{mod-eq_of_lt, div-div-eq-div-mul}
use lib.Dec.{eqb}
use borrow.Author.Tests.{eq-eqb}
use lib.ListN.{length, get_or, drop, replicate, length-append, drop_of_length-le}
use lib.Seq.{sets, sets-eq}
use Rattle.strip.specs.declared.format.Layout.{Layout}
use Rattle.strip.specs.declared.format.Layout.TheVariants.{Wide, Narrow}
use Rattle.strip.specs.declared.stream.Stream.{Stream}
use Rattle.strip.specs.Entry.{ref_length, number_bytes, number_at, word_at}
use Rattle.strip.specs.Write.{Puts}
use Rattle.strip.specs.Stream.{padded}
use Rattle.strip.specs.State.{state_length, state_bytes, state_in, state_of}
use Rattle.strip.proofs.Encode.{number-back}
use Rattle.strip.proofs.Write.{sets-append}

-- ---- writing
-- eight bytes, each from the number itself
pub eight : (x : ℕ) → x % 256 ∷ x / 256 % 256 ∷ x / 65536 % 256 ∷ x / 16777216 % 256 ∷ x / 4294967296 % 256 ∷ x / 1099511627776 % 256 ∷ x / 281474976710656 % 256 ∷ x / 72057594037927936 % 256 ∷ [] ≡ number_bytes 8 x
eight x = simp div-div-eq-div-mul refl

pub puts-same : {s s' : List ℕ} {at x y : ℕ} → x ≡ y → Puts s at (number_bytes 1 x) s' → Puts s at (number_bytes 1 y) s'
puts-same {s} {s'} {at} e p = subst (λ (z : ℕ). Puts s at (number_bytes 1 z) s') e p

-- pieces one after another, from the start on
pub record Placed (s bytes : List ℕ) (n : ℕ) (s' : List ℕ) : Type 0 where
  pub is : s' ≡ sets s 0 bytes
  pub long : length bytes ≡ n

pub placed-none : (s : List ℕ) → Placed s [] 0 s
placed-none s = record { is = refl; long = refl }

pub place : {s s' s'' bytes : List ℕ} {n : ℕ} (m : ℕ) (more : List ℕ) → length more ≡ m → Placed s bytes n s' → Puts s' n more s'' → Placed s (bytes ++ more) (n + m) s''
place {s} {s'} {s''} {bytes} {n} m more l p q =
    record {
      is = q.is ∙ ap (λ (x : List ℕ). sets x n more) p.is ∙ sets-append bytes more s 0 n (let h = p.long in omega arith);
      long = let h = p.long in let a : length (bytes ++ more) ≡ length bytes + length more = length-append bytes more in omega arith;
    }

-- they fill the list
pub placed-all : {s bytes s' : List ℕ} {n : ℕ} → Placed s bytes n s' → length s ≡ n → s' ≡ bytes
placed-all {s} {bytes} {s'} {n} p l =
    let h = p.long in
    p.is
    ∙ sets-eq bytes s 0 (omega arith)
    ∙ ap (λ (x : List ℕ). bytes ++ x) (drop_all s (0 + length bytes) (omega arith))
    ∙ append-nil bytes
  where
    drop_all : (s : List ℕ) (n : ℕ) → length s ≤ n → drop n s ≡ []
    drop_all s n h = drop_of_length-le s h

-- ---- reading
pub eight_is : (s : List ℕ) (b : ℕ) → word_at s b + word_at s (b + 4) * 4294967296 ≡ number_at 8 s b
eight_is s b =
    let a : b + 1 + 1 ≡ b + 2 = omega arith in
    let c : b + 2 + 1 ≡ b + 3 = omega arith in
    let d : b + 3 + 1 ≡ b + 4 = omega arith in
    let e : b + 4 + 1 ≡ b + 5 = omega arith in
    let f : b + 5 + 1 ≡ b + 6 = omega arith in
    let g : b + 6 + 1 ≡ b + 7 = omega arith in
    let h : b + 4 + 2 ≡ b + 6 = omega arith in
    rw (h, a, c, d, e, f, g) (omega arith)

pub padded-eight : (s : List ℕ) → length s ≡ 8 → padded s ≡ s
padded-eight s h = ap (λ (n : ℕ). s ++ replicate (8 - n) 0) h ∙ append-nil s

-- ---- there and back
-- the numbers of a state fit their bytes
pub record Fits (t : Stream) : Type 0 where
  pub left : t.shape.left < 256
  pub values : t.shape.values < 256
  pub count : t.count < 256
  pub kept : length t.kept ≡ 8
  pub words : t.shape.words < 256 ^ 8
  pub truths : t.shape.truths < 256 ^ 8
  pub slots : t.shape.slots < 256 ^ 8
  pub addresses : t.shape.addresses < 256 ^ 8

module _ (t : Stream) (f : Fits t) where
  bytes : List ℕ → List ℕ
  bytes kept = state_bytes (record { layout = t.layout; shape = t.shape; kept = kept; count = t.count })

  inside_back : (b : Bool) → not (eqb (cond b 1 0 % 256) 0) ≡ b
  inside_back true = refl
  inside_back false = refl

  in-back : (l : Layout) (kept : List ℕ) → length kept ≡ 8 → (length (bytes kept) ≡ 45) × (get_or (bytes kept) 0 0 ≡ ref_length t.layout % 256) × (state_in l (bytes kept) ≡ record { layout = l; shape = t.shape; kept = kept; count = t.count })
  unfolding bytes state_bytes
  in-back l (k0 ∷ k1 ∷ k2 ∷ k3 ∷ k4 ∷ k5 ∷ k6 ∷ k7 ∷ []) e = (
    refl,
    refl,
    (rw (
      mod-eq_of_lt f.left,
      mod-eq_of_lt f.values,
      mod-eq_of_lt f.count,
      inside_back t.shape.inside,
      number-back 8 t.shape.words f.words (bytes (k0 ∷ k1 ∷ k2 ∷ k3 ∷ k4 ∷ k5 ∷ k6 ∷ k7 ∷ [])) 13 (number_bytes 8 t.shape.truths ++ number_bytes 8 t.shape.slots ++ number_bytes 8 t.shape.addresses) refl,
      number-back 8 t.shape.truths f.truths (bytes (k0 ∷ k1 ∷ k2 ∷ k3 ∷ k4 ∷ k5 ∷ k6 ∷ k7 ∷ [])) 21 (number_bytes 8 t.shape.slots ++ number_bytes 8 t.shape.addresses) refl,
      number-back 8 t.shape.slots f.slots (bytes (k0 ∷ k1 ∷ k2 ∷ k3 ∷ k4 ∷ k5 ∷ k6 ∷ k7 ∷ [])) 29 (number_bytes 8 t.shape.addresses) refl,
      number-back 8 t.shape.addresses f.addresses (bytes (k0 ∷ k1 ∷ k2 ∷ k3 ∷ k4 ∷ k5 ∷ k6 ∷ k7 ∷ [])) 37 [] refl,
    ) refl),
  )
  in-back l [] e = absurd (omega arith)
  in-back l (k0 ∷ []) e = absurd (omega arith)
  in-back l (k0 ∷ k1 ∷ []) e = absurd (omega arith)
  in-back l (k0 ∷ k1 ∷ k2 ∷ []) e = absurd (omega arith)
  in-back l (k0 ∷ k1 ∷ k2 ∷ k3 ∷ []) e = absurd (omega arith)
  in-back l (k0 ∷ k1 ∷ k2 ∷ k3 ∷ k4 ∷ []) e = absurd (omega arith)
  in-back l (k0 ∷ k1 ∷ k2 ∷ k3 ∷ k4 ∷ k5 ∷ []) e = absurd (omega arith)
  in-back l (k0 ∷ k1 ∷ k2 ∷ k3 ∷ k4 ∷ k5 ∷ k6 ∷ []) e = absurd (omega arith)
  in-back l (k0 ∷ k1 ∷ k2 ∷ k3 ∷ k4 ∷ k5 ∷ k6 ∷ k7 ∷ k8 ∷ ks) e = absurd (omega arith)

  pub state-length : length (state_bytes t) ≡ state_length
  unfolding bytes
  state-length = (in-back t.layout t.kept f.kept).0

  -- what is written is read back
  pub state-back : state_of (state_bytes t) ≡ t
  unfolding state_of bytes
  state-back = go t.layout refl (in-back t.layout t.kept f.kept)
    where
      go : (l : Layout) → t.layout ≡ l → (length (bytes t.kept) ≡ 45) × (get_or (bytes t.kept) 0 0 ≡ ref_length t.layout % 256) × (state_in t.layout (bytes t.kept) ≡ t) → state_of (state_bytes t) ≡ t
      go Wide p b = rw (eq-eqb _ _ b.0, b.1, p) (rw p at b.2)
      go Narrow p b = rw (eq-eqb _ _ b.0, b.1, p) (rw p at b.2)
