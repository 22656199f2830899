-- The answer: the cells that are collected from the rows of the asked ones.
use mathlib.Core.Path.{◌≡◌, refl, ap, ◌∙◌, sym}
use mathlib.Core.List.{List, []}
use mathlib.Core.Option
use mathlib.Core.Bool.{Bool, true, false, cond, not, ◌&&◌, ◌||◌, false≢true}
use Prim.Native.Nat.{ℕ, ◌+◌, ◌-◌, ◌≤◌, ◌<◌}
use native.Mathlib.Omega.{arith}
use lib.Dec.{eqb}
use lib.ListN.{length, get_or}
use borrow.Author.Tests.{lt-ltb, le-ltb}
use Rattle.strip.specs.Entry.{wide}
use Rattle.strip.specs.Shape.{decode, shape_ok}
use Rattle.reach.specs.declared.cells.Cells.{Cells}
use Rattle.std.specs.Prelude.{Result, Ok, Err, is_ok}
use Rattle.reach.specs.declared.cells.Refusal.{Refusal}
use Rattle.reach.specs.declared.cells.Refusal.TheVariants.{BadShape}
use Rattle.reach.specs.declared.cells.Reached.{Reached}
use Rattle.reach.specs.Reach.{listed, table, reach_strips, reached}
use Rattle.reach.specs.Rows.{Sized, Whole, Holds, listed_no, in_row, join_row, lists, any_below, in_table, gathered, make_cells, collected, listed_at, listed_cells}
use Rattle.reach.proofs.Truths.{any-add, any-cong, any-or, any-one, table_is}
use Rattle.reach.proofs.Bits.{join-bit}
use Rattle.reach.proofs.Scan.{gathered-sized, gathered-row, gathered-union, own_row}
use Rattle.reach.proofs.TableReach.{reach-whole}

-- ---- the four arrays, by number
module _ (c : Cells) (i : ℕ) where
  register-at : i < 255 → listed_no c (0 + i) ≡ get_or c.regs i false
  unfolding listed_no listed
  register-at h = let e : 0 + i ≡ i = omega arith in rw (e, lt-ltb i 255 h)

  predicate-at : i < 7 → listed_no c (255 + i) ≡ get_or c.preds i false
  unfolding listed_no listed
  predicate-at h = let e : 255 + i - 255 ≡ i = omega arith in rw (le-ltb (255 + i) 255 (omega arith), lt-ltb (255 + i) 262 (omega arith), e)

  flag_at : i < 4 → listed_no c (262 + i) ≡ get_or c.flags i false
  unfolding listed_no listed
  flag_at h =
      let e : 262 + i - 262 ≡ i = omega arith in
      rw (le-ltb (262 + i) 255 (omega arith), le-ltb (262 + i) 262 (omega arith), lt-ltb (262 + i) 266 (omega arith), e)

  slot_at : i < 32 → listed_no c (266 + i) ≡ get_or c.slots i false
  unfolding listed_no listed
  slot_at h =
      let e : 266 + i - 266 ≡ i = omega arith in
      rw (le-ltb (266 + i) 255 (omega arith), le-ltb (266 + i) 262 (omega arith), le-ltb (266 + i) 266 (omega arith), e)

-- ---- collecting
five : (u a b c d : Bool) → (((u || a) || b) || c) || d ≡ u || (((a || b) || c) || d)
five true a b c d = refl
five false a b c d = refl

-- an asked cell has a row that holds d
abbrev rowed : List ℕ → Cells → ℕ → ℕ → Bool
rowed t c d x = listed_no c x && own_row t d x

module _ (t : List ℕ) (c : Cells) (sized : Sized t) (d : ℕ) (l : d < 298) where
  -- a table with the same rows but what row 298 collects
  record Same (t' : List ℕ) (u : Bool) : Type 0 where
    size : Sized t'
    rows : (x y : ℕ) → (x ≡ 298 → ⊥) → y < 298 → in_row t' x y ≡ in_row t x y
    union : in_row t' 298 d ≡ u

  more : (t' : List ℕ) (u : Bool) → Same t' u → (cs : List Bool) (first n : ℕ) → first + n ≤ 298 → ((i : ℕ) → i < n → listed_no c (first + i) ≡ get_or cs i false)
      → Same (gathered t' cs first n) (u || any_below n (λ i. rowed t c d (first + i)))
  more t' u s cs first n h at = record {
    size = gathered-sized t' cs first n s.size;
    rows = λ x y k m. gathered-row t' cs first s.size y m n x k ∙ s.rows x y k m;
    union =
        gathered-union t' cs first s.size d l n h
        ∙ ap (λ (b : Bool). b || any_below n (λ i. get_or cs i false && own_row t' d (first + i))) s.union
        ∙ ap (λ (b : Bool). u || b) (any-cong n _ _ (λ i k. let m : first + i < 298 = omega arith in rw (at i k, s.rows (first + i) d (λ e. omega arith) l, s.rows 299 (first + i) (λ e. omega arith) m)));
  }

  gathered-all : Same (gathered (gathered (gathered (gathered t c.regs 0 255) c.preds 255 7) c.flags 262 4) c.slots 266 32) (in_row t 298 d || any_below 298 (rowed t c d))
  gathered-all =
      let f : ℕ → Bool = rowed t c d in
      let first : any_below 255 f ≡ any_below 255 (λ i. f (0 + i)) = any-cong 255 _ _ (λ i h. let e : 0 + i ≡ i = omega arith in ap f (sym e)) in
      let s = more _ _ (more _ _ (more _ _ (more t (in_row t 298 d) (record { size = sized; rows = λ x y k m. refl; union = refl })
      c.regs 0 255 (omega arith) (register-at c)) c.preds 255 7 (omega arith) (predicate-at c)) c.flags 262 4 (omega arith) (flag_at c)) c.slots 266 32 (omega arith) (slot_at c)
      in
      record {
        size = s.size;
        rows = s.rows;
        union =
            s.union
            ∙ five (in_row t 298 d) (any_below 255 (λ i. f (0 + i))) (any_below 7 (λ i. f (255 + i))) (any_below 4 (λ i. f (262 + i))) (any_below 32 (λ i. f (266 + i)))
            ∙ ap (λ (b : Bool). in_row t 298 d || b)
            (sym (any-add 266 32 f ∙ ap (λ (b : Bool). b || any_below 32 (λ i. f (266 + i))) (any-add 262 4 f ∙ ap (λ (b : Bool). b || any_below 4 (λ i. f (262 + i))) (any-add 255 7 f ∙ ap (λ (b : Bool). b || any_below 7 (λ i. f (255 + i))) first))));
      }

  collected-union : in_row (collected t c) 298 d ≡ in_row t 298 d || any_below 298 (rowed t c d)
  unfolding collected
  collected-union = join-bit _ 299 298 gathered-all.size (omega arith) 298 d l ∙ gathered-all.union

  collected-marks : in_row (collected t c) 299 d ≡ in_row t 299 d || (in_row t 298 d || any_below 298 (rowed t c d))
  unfolding collected
  collected-marks = join-bit _ 299 298 gathered-all.size (omega arith) 299 d l ∙ rw (gathered-all.union, gathered-all.rows 299 d (λ e. omega arith) l)

  -- what an asked cell lists: its row, or itself where it has none
  split : (a o r e : Bool) → a && cond o r e ≡ (a && (o && r)) || (e && (a && not o))
  split true true true true = refl
  split true true true false = refl
  split true true false true = refl
  split true true false false = refl
  split true false r true = refl
  split true false r false = refl
  split false o r true = refl
  split false o r false = refl

  parted : any_below 298 (λ x. listed_no c x && lists t x d) ≡ any_below 298 (rowed t c d) || (listed_no c d && not (in_row t 299 d))
  unfolding lists
  parted =
      any-cong 298 _ _ (λ x h. split (listed_no c x) (in_row t 299 x) (in_row t x d) (eqb x d))
      ∙ any-or 298 (rowed t c d) (λ x. eqb x d && (listed_no c x && not (in_row t 299 x)))
      ∙ ap (λ (b : Bool). any_below 298 (rowed t c d) || b) (any-one 298 d (λ x. listed_no c x && not (in_row t 299 x)) l)

  joined : (u a m k : Bool) → cond (m || (u || a)) (u || a) k ≡ u || (a || (k && not m))
  joined true a true k = refl
  joined true a false k = refl
  joined false true true k = refl
  joined false true false k = refl
  joined false false true true = refl
  joined false false true false = refl
  joined false false false true = refl
  joined false false false false = refl

  pub answer-bit : cond (in_row (collected t c) 299 d) (in_row (collected t c) 298 d) (listed_no c d) ≡ in_table t c d
  unfolding in_table
  answer-bit = rw (collected-union, collected-marks, parted) (joined (in_row t 298 d) (any_below 298 (rowed t c d)) (in_row t 299 d) (listed_no c d))

-- ---- the arrays of the answer
module _ (t : List ℕ) (c r : Cells) (w : Whole r) (is : (d : ℕ) → d < 298 → cond (in_row t 299 d) (in_row t 298 d) (listed_no c d) ≡ listed_no r d) where
  part : (cs rs : List Bool) (first n : ℕ) → first + n ≤ 298 → length rs ≡ n → ((i : ℕ) → i < n → listed_no c (first + i) ≡ get_or cs i false) → ((i : ℕ) → i < n → listed_no r (first + i) ≡ get_or rs i false)
      → table n (listed_at t first cs) ≡ rs
  unfolding listed_at
  part cs rs first n h e p q =
      table_is rs n _ e (λ i k. ap (cond (in_row t 299 (first + i)) (in_row t 298 (first + i))) (sym (p i k)) ∙ is (first + i) (omega arith) ∙ q i k)

  pub listed-cells-are : listed_cells t c ≡ r
  unfolding listed_cells
  listed-cells-are = rw (
    part c.regs r.regs 0 255 (omega arith) w.regs (register-at c) (register-at r),
    part c.preds r.preds 255 7 (omega arith) w.preds (predicate-at c) (predicate-at r),
    part c.flags r.flags 262 4 (omega arith) w.flags (flag_at c) (flag_at r),
    part c.slots r.slots 266 32 (omega arith) w.slots (slot_at c) (slot_at r),
  )

-- ---- the code's steps
pub collected-by : (t : List ℕ) {t₁ t₂ t₃ t₄ t₅ : List ℕ} (c : Cells) → Whole c → t₁ ≡ gathered t c.regs 0 (length c.regs) → t₂ ≡ gathered t₁ c.preds 255 (length c.preds)
    → t₃ ≡ gathered t₂ c.flags 262 (length c.flags) → t₄ ≡ gathered t₃ c.slots 266 (length c.slots) → t₅ ≡ join_row t₄ 299 298 → t₅ ≡ collected t c
unfolding collected
collected-by t c w p₁ p₂ p₃ p₄ p₅ = rw (p₅, p₄, p₃, p₂, p₁, w.regs, w.preds, w.flags, w.slots)

pub listed_by : (t : List ℕ) (c : Cells) → Whole c → {rs ps fs ss : List Bool} → rs ≡ table (length c.regs) (listed_at t 0 c.regs) → ps ≡ table (length c.preds) (listed_at t 255 c.preds)
    → fs ≡ table (length c.flags) (listed_at t 262 c.flags) → ss ≡ table (length c.slots) (listed_at t 266 c.slots) → make_cells rs ps fs ss ≡ listed_cells t c
unfolding listed_cells
listed_by t c w p₁ p₂ p₃ p₄ = rw (p₁, p₂, p₃, p₄, w.regs, w.preds, w.flags, w.slots)

-- ---- the whole

-- there is one refusal
pub outcome-ok : (o : Result (Unit {0}) Refusal) → is_ok o ≡ true → o ≡ Ok tt
outcome-ok (Ok done) p = refl
outcome-ok (Err r) p = absurd (false≢true p)

pub outcome-err : (o : Result (Unit {0}) Refusal) → is_ok o ≡ false → o ≡ Err BadShape
outcome-err (Ok done) p = absurd (false≢true (sym p))
outcome-err (Err BadShape) p = refl

module _ (run : List ℕ) (c : Cells) where
  pub refused : shape_ok wide run ≡ false → record { cells = c; outcome = Err BadShape } ≡ reached run c
  unfolding reached
  refused p = rw p

  pub answered : Whole c → shape_ok wide run ≡ true → (t : List ℕ) → Holds t run → record { cells = listed_cells (collected t c) c; outcome = Ok tt } ≡ reached run c
  unfolding reached
  answered w p t h =
      let ss = Option.get_or (decode wide run) [] in
      rw p
      (ap {B = Reached} (λ (z : Cells). record { cells = z; outcome = Ok tt }) (listed-cells-are (collected t c) c (reach_strips ss c) (reach-whole ss c w) (λ d l. answer-bit t c h.sized d l ∙ h.reach c w d l)))
