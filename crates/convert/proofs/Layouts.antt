-- #102: what is converted is the same strips, there and back. Stated for every two lengths of a reference, and told at the end of the two layouts.
use mathlib.Core.Path.{◌≡◌, refl, sym, ap, ◌∙◌}
use mathlib.Core.Bool.{true}
use mathlib.Core.List.{List, [], ◌∷◌}
use mathlib.Core.Option.{Option, some, get_or}
use Prim.Native.Nat.{ℕ, ◌^◌, ◌≤◌, ◌<◌}
use native.Mathlib.Omega.{arith}
use native.Mathlib.Nat.{pow-le-pow_right, zero-lt-suc}
use lib.ListN.{length}
use borrow.Author.Tests.{le-leb}
use Rattle.strip.specs.declared.format.Layout.{Layout}
use Rattle.strip.specs.declared.format.Layout.TheVariants.{Wide, Narrow}
use Rattle.strip.specs.declared.reader.Entry.{Entry}
use Rattle.strip.specs.Entry.{ref_length, refs_of, reads_from, Each, Formed}
use Rattle.strip.specs.Shape.{all, strip_ok, cut_at_ends, decode, all_ok, shape_ok, run_bytes}
use Rattle.strip.proofs.Tests.{and_left, and_right}
use Rattle.strip.proofs.Encode.{Bytes}
use Rattle.strip.proofs.Run.{Strip, strip-refs, strips-run, strips-shape, shape-strips}
use Rattle.evaluation.specs.declared.state.State.{State}
use Rattle.evaluation.specs.Machine.{evaluated, evaluation, answer_of}
use Rattle.evaluation.proofs.Flat.{evaluated-strips}
use Rattle.std.specs.Prelude.{Ok}
use Rattle.convert.specs.Convert as C
use Rattle.convert.specs.Convert.{other, converted, fitted, conversion}

-- an entry whose references are below 64 can be written in every layout
formed-in : (from to : ℕ) → (es : List Entry) → Each (Formed from) es → Each (λ e. Each (λ r. r < 256 ^ to) (refs_of e)) es → Each (Formed to) es
formed-in from to [] f r = tt
formed-in from to (e ∷ es) f r = (record { body = f.0.body; bounded = f.0.bounded; refs = r.0 }, formed-in from to es f.1 r.1)

module _ (from to : ℕ) (some_byte : 1 ≤ to) where
  fits : 64 ≤ 256 ^ to
  fits = let one : 256 ^ 1 ≤ 256 ^ to = pow-le-pow_right (zero-lt-suc 255) some_byte in omega arith

  all-formed : (ss : List (List Entry)) → Each (Strip from) ss → all strip_ok ss ≡ true → Each (Each (Formed to)) ss
  all-formed [] f p = tt
  all-formed (s ∷ ss) f p =
      (formed-in from to s f.0.formed (strip-refs (256 ^ to) fits s (and_left (strip_ok s) _ p)), all-formed ss f.1 (and_right (strip_ok s) _ p))

  all-strips : (ss : List (List Entry)) → Each (Strip from) ss → Each (Each (Formed to)) ss → Each (Strip to) ss
  all-strips [] f g = tt
  all-strips (s ∷ ss) f g = (record { ends = f.0.ends; formed = g.0 }, all-strips ss f.1 g.1)

  module _ (run : List ℕ) (bytes : Bytes run) (ok : shape_ok from run ≡ true) where
    abbrev strips : List (List Entry)
    strips = (shape-strips from run bytes ok).0

    decoded : decode from run ≡ some strips
    decoded = (shape-strips from run bytes ok).1

    formed : Each (Each (Formed to)) strips
    formed = all-formed strips (shape-strips from run bytes ok).3 (shape-strips from run bytes ok).4

    converted-strips : converted from to run ≡ run_bytes to strips
    unfolding converted
    converted-strips = ap (λ (o : Option (List (List Entry))). run_bytes to (get_or o [])) decoded

    decoded-to : decode to (converted from to run) ≡ some strips
    decoded-to = ap (decode to) converted-strips ∙ strips-run to strips (all-strips strips (shape-strips from run bytes ok).3 formed)

    -- the entries decode to the same strips
    pub same-strips : decode to (converted from to run) ≡ decode from run
    same-strips = decoded-to ∙ sym decoded

    -- what is converted passes in the other layout
    pub converted-passes : shape_ok to (converted from to run) ≡ true
    converted-passes = ap (shape_ok to) converted-strips ∙ strips-shape to strips formed (shape-strips from run bytes ok).4

    -- there and back is the same bytes
    pub there_and_back : converted to from (converted from to run) ≡ run
    unfolding converted
    there_and_back = ap (λ (o : Option (List (List Entry))). run_bytes from (get_or o [])) decoded-to ∙ sym (shape-strips from run bytes ok).2

    -- both evaluate alike, from every state over every lent list, refusals included
    pub evaluated-alike : (s : State) (cs : List ℕ) → evaluated to (converted from to run) s cs ≡ evaluated from run s cs
    evaluated-alike s cs =
        evaluated-strips s cs to (converted from to run) strips decoded-to converted-passes
        ∙ sym (evaluated-strips s cs from run strips decoded ok)

-- no reference of a run that passes is 64 or more: none has an upper byte to lose
pub small-refs : (len : ℕ) (run : List ℕ) → Bytes run → shape_ok len run ≡ true → (ss : List (List Entry)) → decode len run ≡ some ss → Each (λ es. Each (λ e. Each (λ r. r < 64) (refs_of e)) es) ss
unfolding shape_ok
small-refs len run h ok ss d = go ss (ap all_ok (sym d) ∙ ok)
  where
    go : (ss : List (List Entry)) → all strip_ok ss ≡ true → Each (λ es. Each (λ e. Each (λ r. r < 64) (refs_of e)) es) ss
    go [] p = tt
    go (es ∷ ss) p = (strip-refs 64 (omega arith) es (and_left (strip_ok es) _ p), go ss (and_right (strip_ok es) _ p))

-- ---- the two layouts
other-twice : (l : Layout) → other (other l) ≡ l
other-twice Wide = refl
other-twice Narrow = refl

one_byte : (l : Layout) → 1 ≤ ref_length l
one_byte Wide = omega arith
one_byte Narrow = omega arith

-- what holds of a run in a layout and of what it becomes in the other
pub record Alike (l : Layout) (run : List ℕ) (copy : List ℕ) : Type 0 where
  pub passes : shape_ok (ref_length (other l)) copy ≡ true
  pub strips : decode (ref_length (other l)) copy ≡ decode (ref_length l) run
  pub back : (out : List ℕ) → conversion (other l) copy out ≡ fitted run out
  pub evaluates : (s : State) (cs : List ℕ) → evaluation (ref_length (other l)) copy s cs ≡ evaluation (ref_length l) run s cs

-- every run that passes in its layout is converted into one that is alike, and back into itself
pub layouts : (l : Layout) (run : List ℕ) → Bytes run → shape_ok (ref_length l) run ≡ true
    → (copy : List ℕ) × (((out : List ℕ) → conversion l run out ≡ fitted copy out) × Alike l run copy)
unfolding conversion
layouts l run bytes ok =
    let from = ref_length l in
    let to = ref_length (other l) in
    let copy = converted from to run in
    let passes : shape_ok to copy ≡ true = converted-passes from to (one_byte (other l)) run bytes ok in (
      copy,
      (
        (λ out. rw ok refl),
        record {
          passes = passes;
          strips = same-strips from to (one_byte (other l)) run bytes ok;
          back = λ out. rw (passes, other-twice l, there_and_back from to (one_byte (other l)) run bytes ok) refl;
          evaluates = λ s cs. ap answer_of (evaluated-alike from to (one_byte (other l)) run bytes ok s cs);
        },
      ),
    )

-- an empty run becomes the empty run, also in a room of no bytes
pub empty-run : (l : Layout) (out : List ℕ) → conversion l [] out ≡ C.answer_of (Ok 0) out
unfolding conversion fitted converted shape_ok decode cut_at_ends reads_from run_bytes
empty-run l out = rw (le-leb 0 (length out) (omega arith)) refl
