-- The line, and what is said of a run, however it comes in blocks.
use Rattle.std.proofs.Common.{◌≡◌, ℕ, ◌+◌, ◌≤◌, Bool, true, List, [], ◌∷◌, ◌++◌, length, sym, ap, ◌∙◌, ap₂, add-zero, add_assoc, zero-add, arith, length-append}
use mathlib.Core.Option.{some}
use lib.Seq.{sets}
use Rattle.strip.specs.declared.format.Layout.{Layout}
use Rattle.strip.specs.declared.reader.Entry.{Entry}
use Rattle.strip.specs.declared.stream.Fed.{Fed}
use Rattle.strip.specs.Entry.{ref_length}
use Rattle.strip.specs.Shape.{decode, shape_ok}
use Rattle.strip.specs.Pass.{fresh}
use Rattle.strip.specs.Steps.{walk}
use Rattle.strip.specs.Stream.{start_of, settled, fed, feed, at_end, feeds, concat}
use Rattle.ascii.proofs.Text.{sets-append}
use Rattle.strip.proofs.Blocks.{fed-within, blocks}
use Rattle.check_run.specs.declared.report.Check.{Check}
use Rattle.check_run.specs.Report.{well_formed, line_of, started, plus, taken, takes, said}

-- ---- the code's parts
-- a text of three parts, from the start of a buffer on
pub parts-stand : (base o₁ o₂ o₃ a d b : List ℕ) (m : ℕ) → o₁ ≡ sets base 0 a → o₂ ≡ sets o₁ (length a) d → m ≡ length a + length d → o₃ ≡ sets o₂ m b → o₃ ≡ sets base 0 (a ++ d ++ b)
parts-stand base o₁ o₂ o₃ a d b m p q e r =
    r
    ∙ ap (λ (l : List ℕ). sets l m b) (q ∙ ap (λ (l : List ℕ). sets l (length a) d) p ∙ sets-append a d base 0 (length a) (omega arith))
    ∙ sets-append (a ++ d) b base 0 m (let l : length (a ++ d) ≡ length a + length d = length-append a d in omega arith)

pub parts-length : (a d b : List ℕ) (m : ℕ) → m ≡ length a + length d → m + length b ≡ length (a ++ d ++ b)
parts-length a d b m e = let l : length (a ++ d) ≡ length a + length d = length-append a d in let n : length (a ++ d ++ b) ≡ length (a ++ d) + length b = length-append (a ++ d) b in omega arith

-- what a block brings
pub brings : (c : Check) (block : List ℕ) (f : Fed) → f ≡ feed c.stream block → (f.bytes ≤ 8 + length block) × (f.strips ≤ f.bytes)
brings c block f p = rw p (fed-within c.stream block)

pub taken_is : (c : Check) (block : List ℕ) (f : Fed) (b k : ℕ) → f ≡ feed c.stream block → b ≡ f.bytes → k ≡ f.strips → record { stream = f.stream; passed = c.passed + b; strips = c.strips + k } ≡ taken c block
unfolding taken
taken_is c block f b k p q r = ap₂ (λ (b k : ℕ). record { stream = f.stream; passed = c.passed + b; strips = c.strips + k }) q r ∙ ap (plus c) p

-- ---- what is said
takes-feeds : (bs : List (List ℕ)) (c : Check) → takes c bs ≡ plus c (feeds c.stream bs)
unfolding taken
takes-feeds [] c = ap₂ (λ (b k : ℕ). record { stream = c.stream; passed = b; strips = k }) (sym (add-zero c.passed)) (sym (add-zero c.strips))
takes-feeds (b ∷ bs) c =
    let f : Fed = feed c.stream b in
    let h : Fed = feeds f.stream bs in
    takes-feeds bs (plus c f)
    ∙ ap₂ (λ (b k : ℕ). record { stream = h.stream; passed = b; strips = k }) (add_assoc c.passed f.bytes h.bytes) (add_assoc c.strips f.strips h.strips)

-- However a run comes in blocks, the line is by the test's answer on the whole, the strips that ended and the bytes that were passed of the whole; of a
-- well-formed run it says how many strips it has.
pub said-is : (l : Layout) (bs : List (List ℕ))
    → (said (takes (started l) bs) ≡ line_of (shape_ok (ref_length l) (concat bs)) (walk (ref_length l) fresh (concat bs)).strips (walk (ref_length l) fresh (concat bs)).bytes)
    × ((ss : List (List Entry)) → shape_ok (ref_length l) (concat bs) ≡ true → decode (ref_length l) (concat bs) ≡ some ss → said (takes (started l) bs) ≡ well_formed (length ss))
unfolding said line_of settled
said-is l bs = (whole, λ ss ok d. begun ∙ ap₂ (λ (b : Bool) (n : ℕ). line_of b n f.bytes) (t.0 ∙ ok) (t.2 ss ok d).1)
  where
    f : Fed
    f = feeds (start_of l) bs

    t : (at_end f.stream ≡ shape_ok (ref_length l) (concat bs)) × (f ≡ fed l fresh (concat bs)) × ((ss : List (List Entry)) → shape_ok (ref_length l) (concat bs) ≡ true → decode (ref_length l) (concat bs) ≡ some ss → (f.bytes ≡ length (concat bs)) × (f.strips ≡ length ss))
    t = blocks l bs

    begun : said (takes (started l) bs) ≡ line_of (at_end f.stream) f.strips f.bytes
    begun = ap said (takes-feeds bs (started l)) ∙ ap₂ (λ (k b : ℕ). line_of (at_end f.stream) k b) (zero-add f.strips) (zero-add f.bytes)

    whole : said (takes (started l) bs) ≡ line_of (shape_ok (ref_length l) (concat bs)) (walk (ref_length l) fresh (concat bs)).strips (walk (ref_length l) fresh (concat bs)).bytes
    whole = begun ∙ ap (λ (b : Bool). line_of b f.strips f.bytes) t.0 ∙ ap (λ (h : Fed). line_of (shape_ok (ref_length l) (concat bs)) h.strips h.bytes) t.1
