-- The pass over the bytes, entry after entry.
use Rattle.std.specs.Prelude.{Some, None}
use Rattle.std.proofs.Common.{◌≡◌, ℕ, ◌≤◌, Bool, true, false, eqb, List, [], ◌∷◌, length, drop, Ok, sym, refl, ap, ◌∙◌, arith, eqb-true}
use mathlib.Core.Option.{Option, none, some}
use borrow.Author.Tests.{eqb-false}
use Rattle.strip.specs.declared.reader.Entry.{Entry}
use Rattle.strip.specs.declared.shape.Shape.{Shape}
use Rattle.strip.specs.Entry.{Read, wide, read_entry, reads_from}
use Rattle.strip.specs.Shape.{is_end, cut_at_ends}
use Rattle.strip.specs.Pass.{fresh, stepped}
use Rattle.strip.proofs.EntryRead.{reads-found, reads_none}
use Rattle.spirv.specs.declared.page.Page.{Page}
use Rattle.spirv.specs.Writer.{Const, const_of, with_new, Given, given}
use Rattle.spirv.specs.Page.{noted, survey_from, entered, entered_part_from, Passes}
use Rattle.spirv.proofs.Surveys.{cut-none, only_end, only-more, Going, begins, few, refused, ends-alone, ends-early, goes_on}
use Rattle.spirv.proofs.OnePass.{entered_part}

module _ (table : List ℕ) (bound : ℕ) where
  -- from what is read to the entries of the only strip
  pub reads-entries : (rs : List Read) (es : List Entry) → cut_at_ends rs ≡ some (es ∷ []) → (l : List Const) (p : Page) → entered_part_from table bound l p rs ≡ entered_part table bound l p es
  unfolding entered_part_from entered_part cut_at_ends
  reads-entries [] es h l p = let z : ◌≡◌ {A = ℕ} 0 1 = cc in absurd (omega arith)
  reads-entries (None ∷ rs) es h l p = let z : ◌≡◌ {A = ℕ} 0 1 = cc in absurd (omega arith)
  reads-entries (Some (e, n) ∷ rs) es h l p = go (reads-entries rs) (is_end e) refl
    where
      l' : List Const
      l' = with_new l (const_of e)

      q : Page
      q = entered (given table bound l') p e

      go : ((es : List Entry) → cut_at_ends rs ≡ some (es ∷ []) → (l : List Const) (p : Page) → entered_part_from table bound l p rs ≡ entered_part table bound l p es) → (b : Bool) → is_end e ≡ b → entered_part_from table bound l' q rs ≡ entered_part table bound l p es
      go ih true x = let o = only_end e es (cut_at_ends rs) x h in ap (entered_part_from table bound l' q) (cut-none rs o.0) ∙ ap (entered_part table bound l p) (sym o.1)
      go ih false x = let o = only-more e es (cut_at_ends rs) x h in ih o.0 o.1 l' q ∙ ap (entered_part table bound l p) (sym o.2)

-- ---- bytes that are left
pub none-left : (xs : List ℕ) → true ≡ eqb (length xs) 0 → length xs ≤ 0
none-left xs h = let e = eqb-true (length xs) 0 (sym h) in omega (arith, e)

pub some-left : (xs : List ℕ) → false ≡ eqb (length xs) 0 → 1 ≤ length xs
some-left xs h = let e = eqb-false (length xs) 0 (sym h) in omega (arith, e)

-- ---- what each turn of the pass keeps, from these bytes, what is given and a page on
module _ (run : List ℕ) (g₀ : Given) (p₀ : Page) where
  abbrev whole : Option (List Const)
  whole = survey_from fresh [] (reads_from wide 0 run)

  abbrev after : List Const → Page → List ℕ → Page
  after l p rest = entered_part_from g₀.table g₀.bound l p (reads_from wide 0 rest)

  pub record Turn (rest : List ℕ) (s : Shape) (g : Given) (p : Page) : Type 0 where
    pub going : Going whole rest s g.constants
    pub stays : g ≡ given g₀.table g₀.bound g.constants
    pub page : after g.constants p rest ≡ after [] p₀ run

  pub turn-begins : g₀.constants ≡ [] → Turn run fresh g₀ p₀
  turn-begins e = record { going = rw e (begins whole run refl); stays = refl; page = rw e }

  module _ (rest : List ℕ) (s : Shape) (g : Given) (p : Page) (t : Turn rest s g p) (e : Entry) (m : ℕ) (r : read_entry wide rest ≡ Some (e, m)) (h : Given) (q : Page) (is : h ≡ noted g e) (to : q ≡ entered h p e) where
    constants-are : h.constants ≡ with_new g.constants (const_of e)
    constants-are = ap (λ (h : Given). h.constants) is

    given-is : h ≡ given g₀.table g₀.bound (with_new g.constants (const_of e))
    given-is = is ∙ ap (λ (i : Given). given i.table i.bound (with_new g.constants (const_of e))) t.stays

    onward : after h.constants q (drop m rest) ≡ after [] p₀ run
    unfolding entered_part_from
    onward = rw (to, given-is) (ap (entered_part_from g₀.table g₀.bound g.constants p) (sym (reads-found wide rest e m r)) ∙ t.page)

    pub turn-refused : (stepped s e).left ≡ 0 → whole ≡ none
    turn-refused z = refused whole rest s g.constants t.going e m r z

    module _ (any : (stepped s e).left ≡ 0 → ⊥) where
      pub turn-ends : (stepped s e).left ≡ 64 → length (drop m rest) ≤ 0 → Passes run g₀ p₀ (Ok tt) h q
      unfolding entered_part_from
      turn-ends f z =
          (ends-alone whole rest s g.constants t.going e m r any f z ∙ ap some (sym constants-are), rw given-is, rw given-is (few whole rest s g.constants t.going e m r), last)
        where
          last : q ≡ after [] p₀ run
          last = ap (entered_part_from g₀.table g₀.bound h.constants q) (sym (reads_none wide (drop m rest) z)) ∙ onward

      pub turn-early : (stepped s e).left ≡ 64 → 1 ≤ length (drop m rest) → whole ≡ none
      turn-early f z = ends-early whole rest s g.constants t.going e m r any f z

      pub turn-goes : ((stepped s e).left ≡ 64 → ⊥) → Turn (drop m rest) (stepped s e) h q
      turn-goes f = record { going = rw given-is (goes_on whole rest s g.constants t.going e m r any f); stays = rw given-is; page = onward }
