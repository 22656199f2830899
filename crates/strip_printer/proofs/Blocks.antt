-- Record after record, and block after block: the text of a whole input is that of its blocks, one after another.
use Prim.Native.Nat.{ℕ, zero, suc, ◌+◌, ◌*◌, ◌/◌, ◌-◌, ◌≤◌, ◌<◌, min}
use mathlib.Core.Path.{◌≡◌, refl, ap, sym, ◌∙◌}
use mathlib.Core.Bool.{Bool, true, false, ◌&&◌, true≢false}
use mathlib.Core.List.{List, [], ◌++◌, append_assoc, append-nil}
use native.Mathlib.Omega.{arith}
use mathlib.Core.Logic.{inl, inr}
use borrow.Author.Tests.{eqb-true}
use Rattle.std.proofs.lemmas.Bool.{cases_lt}
use Rattle.std.proofs.lemmas.List.{nil_from_length}
use lib.Dec.{eqb}
use lib.ListN.{length, take, drop, length-append, length-drop, drop_of_length-le}
use lib.Seq.{take_all, take_at, drop_at, drop-drop, take-append-le, drop-append-le, drop-append-add}
use Rattle.ascii.proofs.Text.{sets-append}
use Rattle.strip_printer.specs.declared.line.Printer.{Printer}
use Rattle.strip_printer.specs.Line.{line_of, answer_to, printer_after, added, Printed, with_line, step, up_to, lines, no_text, Stands, Block}

-- ---- a record more, in the buffer
step-going : (l : List ℕ) (d : Printed) → d.going ≡ true → step l d ≡ with_line d (answer_to l d.marks)
unfolding step
step-going l d e = rw e

step-over : (l : List ℕ) (d : Printed) → d.going ≡ false → step l d ≡ d
unfolding step
step-over l d e = rw e

module _ (l before out : List ℕ) (p : Printer) (d : Printed) (s : Stands before out p d) where
  pub stands_on : (out' : List ℕ) (r : Printer) → p.going ≡ true → out' ≡ added p (answer_to l p.cbuf_used) out → r ≡ printer_after p (answer_to l p.cbuf_used) → Stands before out' r (step l d)
  stands_on out' r g e f =
      let t = line_of p.index (answer_to l p.cbuf_used).outcome (answer_to l p.cbuf_used).out in
      rw (step-going l d (sym s.going ∙ g), ← s.marks, ← s.index, f) (record {
        list = rw (e, s.list) (sets-append d.text t before 0 p.at (omega (arith, s.at)));
        at = rw length-append (omega (arith, s.at));
        index = refl;
        marks = refl;
        going = refl;
      })

  pub stands-still : p.going ≡ false → Stands before out p (step l d)
  stands-still g = rw (step-over l d (sym s.going ∙ g)) s

-- before the first
pub stands-begun : (out : List ℕ) (p : Printer) → p.at ≡ 0 → Stands out out p (no_text p)
stands-begun out p e = record { list = refl; at = e; index = refl; marks = refl; going = refl }

-- the next part of the input that a record is, after n of them, and what is left then
pub record Cut (l part left : List ℕ) (n : ℕ) : Type 0 where
  pub piece : part ≡ take 18 (drop (18 * n) l)
  pub rest : left ≡ drop (18 * suc n) l
  pub within : 18 * suc n ≤ length l + 17

pub cut-is : (l part left all : List ℕ) (n size : ℕ) → size ≡ 18 → all ≡ drop (18 * n) l → all ≡ part ++ left → length part ≡ min size (length all) → 0 < length all → Cut l part left n
cut-is l part left all n size s is parts k some = record {
  piece = go.0 ∙ ap (take 18) is;
  rest = go.1 ∙ ap (drop 18) is ∙ drop-drop 18 (18 * n) l ∙ (let e : 18 * n + 18 ≡ 18 * suc n = omega arith in rw e refl);
  within = omega (arith, some, ap length is, length-drop (18 * n) l);
}
  where
    go : (part ≡ take 18 all) × (left ≡ drop 18 all)
    go =
        let total : length all ≡ length part + length left = ap length parts ∙ length-append part left in
        elim (cases_lt (length all) 18) [
          | inl short ↦
              let few : length all ≤ 18 = omega arith in
              let none : left ≡ [] = nil_from_length left (omega arith) in
              let whole : all ≡ part = parts ∙ rw none (append-nil part) in
              (sym whole ∙ sym (take_all 18 all (omega arith)), none ∙ sym (drop_of_length-le all few))
          | inr long ↦
              let size : length part ≡ 18 = omega arith in
              (sym (take_at part left 18 size) ∙ ap (take 18) (sym parts), sym (drop_at part left 18 size) ∙ ap (drop 18) (sym parts))
        ]

-- one more
pub up_one : (n : ℕ) (l m : List ℕ) (d : Printed) → m ≡ take 18 (drop (18 * n) l) → step m (up_to n l d) ≡ up_to (suc n) l d
unfolding up_to
up_one n l m d e = rw e

pub up_none : (l : List ℕ) (d : Printed) → up_to 0 l d ≡ d
unfolding up_to
up_none l d = refl

pub up-all : (n : ℕ) (l : List ℕ) (d : Printed) → n ≡ (length l + 17) / 18 → up_to n l d ≡ lines l d
unfolding lines
up-all n l d e = rw e

-- ---- block after block
-- a block of n whole records, and what follows
module _ (a b : List ℕ) (d : Printed) where
  within : (n : ℕ) → 18 * n ≤ length a → up_to n (a ++ b) d ≡ up_to n a d
  unfolding up_to
  within zero h = refl
  within (suc n) h =
      rw (within n (omega arith), drop-append-le (18 * n) a b (omega arith), take-append-le 18 (drop (18 * n) a) b (omega (arith, length-drop (18 * n) a)))

  beyond : (n k : ℕ) → length a ≡ 18 * n → up_to (n + k) (a ++ b) d ≡ up_to k b (up_to n a d)
  unfolding up_to
  beyond n zero h = let z : n + 0 ≡ n = omega arith in rw z (within n (omega arith))
  beyond n (suc k) h =
      let z : n + suc k ≡ suc (n + k) = omega arith in
      let y : 18 * (n + k) ≡ length a + 18 * k = omega arith in
      rw (z, beyond n k h, y, drop-append-add)

  pub blocks : (n : ℕ) → length a ≡ 18 * n → lines (a ++ b) d ≡ lines b (lines a d)
  unfolding lines
  blocks n h =
      let z : (length a + 17) / 18 ≡ n = omega arith in
      let y : (length (a ++ b) + 17) / 18 ≡ n + (length b + 17) / 18 = rw length-append (omega arith) in
      rw (y, z) (beyond n ((length b + 17) / 18) h)

-- what was printed before stays in front
abbrev pub after_text : List ℕ → Printed → Printed
after_text t d = record { text = t ++ d.text; index = d.index; marks = d.marks; going = d.going }

front-step : (t l : List ℕ) (d : Printed) → step l (after_text t d) ≡ after_text t (step l d)
unfolding step
front-step t l d = by d.going refl
  where
    by : (g : Bool) → d.going ≡ g → step l (after_text t d) ≡ after_text t (step l d)
    by true e = rw (e, append_assoc)
    by false e = rw e

front-up : (t l : List ℕ) (d : Printed) (n : ℕ) → up_to n l (after_text t d) ≡ after_text t (up_to n l d)
unfolding up_to
front-up t l d zero = refl
front-up t l d (suc n) = rw (front-up t l d n) (front-step t (take 18 (drop (18 * n) l)) (up_to n l d))

pub front : (t l : List ℕ) (d : Printed) → lines l (after_text t d) ≡ after_text t (lines l d)
unfolding lines
front t l d = front-up t l d ((length l + 17) / 18)

-- so it may be written out and forgotten: the text of a block, then that of the rest from an empty text on
pub written_out : (n : ℕ) (a b : List ℕ) (d : Printed) → length a ≡ 18 * n
    → (lines (a ++ b) d).text ≡ (lines a d).text ++ (lines b (record { text = []; index = (lines a d).index; marks = (lines a d).marks; going = (lines a d).going })).text
written_out n a b d h =
    let c : Printed = record { text = []; index = (lines a d).index; marks = (lines a d).marks; going = (lines a d).going } in
    let z : after_text (lines a d).text c ≡ lines a d = ap (λ (t : List ℕ). record { text = t; index = (lines a d).index; marks = (lines a d).marks; going = (lines a d).going }) (append-nil (lines a d).text) in
    ap (λ (x : Printed). x.text) (blocks a b d n h ∙ ap (λ (x : Printed). lines b x) (sym z) ∙ front (lines a d).text b c)

-- ---- a block that was read, in the buffer
all_true : (a b c x y : Bool) → x ≡ (b && c) → y ≡ (a && x) → y ≡ true → (a ≡ true) × (c ≡ true)
all_true true true true x y e f g = (refl, refl)
all_true true true false x y e f g = absurd (true≢false (sym g ∙ f ∙ e))
all_true true false c x y e f g = absurd (true≢false (sym g ∙ f ∙ e))
all_true false b c x y e f g = absurd (true≢false (sym g ∙ f))

pub block-is : (input before out : List ℕ) (p q r : Printer) (n : ℕ) (w x : Bool) → n ≤ length input → Stands before out q (lines (take (n - 0) input) (no_text p))
    → r.index ≡ q.index → r.cbuf_used ≡ q.cbuf_used → x ≡ (w && eqb n (length input)) → r.going ≡ (q.going && x) → Block input before out p r
block-is input before out p q r n w x h s i m e f =
    let z : n - 0 ≡ n = omega arith in
    let t : Stands before out q (lines (take n input) (no_text p)) = rw z at s in
    record {
      size = n;
      read = h;
      list = t.list;
      index = i ∙ t.index;
      marks = m ∙ t.marks;
      goes = λ g. let o = all_true q.going w (eqb n (length input)) x r.going e f g in (sym t.going ∙ o.0, eqb-true n (length input) o.1);
    }
