-- A C caller's test block by block ends in the test's answer on the whole.
use Rattle.std.specs.Prelude.{Result, Ok, Err}
use mathlib.Core.Path.{◌≡◌, refl, ap, ap₂, ◌∙◌}
use mathlib.Core.List.{List, [], ◌∷◌}
use mathlib.Core.Bool.{Bool, cond}
use Prim.Native.Nat.{ℕ, ◌+◌}
use lib.ListN.{length}
use lib.Dec.{eqb}
use borrow.Author.Tests.{eq-eqb, ne_eqb}
use Rattle.strip.specs.declared.format.Layout.{Layout}
use Rattle.strip.specs.declared.format.UnknownLayout.{UnknownLayout}
use Rattle.strip.specs.declared.stream.Stream.{Stream}
use Rattle.strip.specs.declared.stream.Fed.{Fed}
use Rattle.strip.specs.Entry.{ref_length}
use Rattle.strip.specs.Shape.{shape_number}
use Rattle.strip.specs.Stream.{start_of, feed, at_end, feeds, concat}
use Rattle.strip.specs.State.{state_length, state_bytes, state_of}
use Rattle.strip.proofs.Blocks.{Kept, keeps-start, keeps-fed, blocks}
use Rattle.stream_host.specs.Tested.{Answer, begins, shape_begin, returns, told, shape_block, shape_end, handed}

-- ---- the functions
pub begun-none : (state : List ℕ) (n : Result Layout UnknownLayout) → {e : UnknownLayout} → n ≡ Err e → begins 7 state ≡ shape_begin n state
unfolding shape_begin
begun-none state n p = rw p

pub begun-long : (state : List ℕ) (n : Result Layout UnknownLayout) (l : Layout) → n ≡ Ok l → (length state ≡ state_length → ⊥) → begins 7 state ≡ shape_begin n state
unfolding shape_begin
begun-long state n l p h = rw (p, ne_eqb _ _ h)

pub begun-known : (state state' : List ℕ) (n : Result Layout UnknownLayout) (l : Layout) (t : Stream) → n ≡ Ok l → length state ≡ state_length → t ≡ start_of l → state' ≡ state_bytes t → begins 0 state' ≡ shape_begin n state
unfolding shape_begin
begun-known state state' n l t p h q r = rw (p, eq-eqb _ _ h) (ap (begins 0) (r ∙ ap state_bytes q))

pub begun-state : (state : List ℕ) (t : Stream) (l : Layout) → state ≡ state_bytes t → t ≡ start_of l → length state ≡ state_length
begun-state state t l p q = ap length (p ∙ ap state_bytes q) ∙ (keeps-start l).long

pub fed-state : (state : List ℕ) (f : Fed) (t : Stream) (block : List ℕ) → state ≡ state_bytes f.stream → f ≡ feed t block → length state ≡ state_length
fed-state state f t block p q = ap length (p ∙ ap (λ (f : Fed). state_bytes f.stream) q) ∙ (keeps-fed t block).long

pub fed-told : (state state' block : List ℕ) (t : Stream) (f : Fed) {n : ℕ} → t ≡ state_of state → f ≡ feed t block → state' ≡ state_bytes f.stream → n ≡ cond (eqb f.stream.shape.left 0) 7 0 → returns n state' f.bytes f.strips ≡ told (feed (state_of state) block)
fed-told state state' block t f p q r s = ap₂ (λ (n : ℕ) (l : List ℕ). returns n l f.bytes f.strips) s r ∙ ap told (q ∙ ap (λ (t : Stream). feed t block) p)

-- ---- blocks one after another
block-is : (t : Stream) → Kept t → (block : List ℕ) → shape_block (state_bytes t) block 0 0 ≡ told (feed t block)
unfolding shape_block
block-is t k block = rw (eq-eqb _ _ k.long, k.back)

-- what the blocks leave, whatever their numbers
Left : Answer → Fed → Type 0
Left a f = (a.state ≡ state_bytes f.stream) × (a.passed ≡ f.bytes) × (a.strips ≡ f.strips)

handed-is : (bs : List (List ℕ)) (t : Stream) → Kept t → Left (handed (state_bytes t) bs) (feeds t bs)
unfolding Left
handed-is [] t k = (refl, refl, refl)
handed-is (b ∷ bs) t k =
    let ih = handed-is bs (feed t b).stream (keeps-fed t b) in
    let e = block-is t k b in (
      ap (λ (a : Answer). (handed a.state bs).state) e ∙ ih.0,
      ap (λ (a : Answer). a.passed + (handed a.state bs).passed) e ∙ ap (λ (n : ℕ). (feed t b).bytes + n) ih.1,
      ap (λ (a : Answer). a.strips + (handed a.state bs).strips) e ∙ ap (λ (n : ℕ). (feed t b).strips + n) ih.2,
    )

-- #103 for a C caller: in every layout, however the run is cut, the question at the end is answered by the test's number of the whole; the numbers
-- that the calls hand back add up to those of `blocks`.
pub tested : (l : Layout) (bs : List (List ℕ))
    → (shape_end (handed (state_bytes (start_of l)) bs).state ≡ shape_number (ref_length l) (concat bs))
    × ((handed (state_bytes (start_of l)) bs).passed ≡ (feeds (start_of l) bs).bytes)
    × ((handed (state_bytes (start_of l)) bs).strips ≡ (feeds (start_of l) bs).strips)
unfolding Left shape_end
tested l bs =
    let h = handed-is bs (start_of l) (keeps-start l) in (
      ap (λ (s : List ℕ). cond (at_end (state_of s)) 0 7) h.0 ∙ ap (λ (b : Bool). cond b 0 7) (ap at_end (kept-feeds bs (start_of l) (keeps-start l)) ∙ (blocks l bs).0),
      h.1,
      h.2,
    )
  where
    kept-feeds : (bs : List (List ℕ)) (t : Stream) → Kept t → state_of (state_bytes (feeds t bs).stream) ≡ (feeds t bs).stream
    kept-feeds [] t k = k.back
    kept-feeds (b ∷ bs) t k = kept-feeds bs (feed t b).stream (keeps-fed t b)
