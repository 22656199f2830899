-- Strips around well-formed entries: alone before the end, or in a block after a guard.
use mathlib.Core.Path.{◌≡◌, refl, sym, ap, ◌∙◌}
use mathlib.Core.Bool.{Bool, true, false, cond, not, ◌&&◌}
use mathlib.Core.List.{List, [], ◌∷◌, ◌++◌, append_assoc, append-nil}
use Prim.Native.Nat.{ℕ, suc, ◌+◌, ◌^◌, ◌≤◌, ◌<◌}
use native.Mathlib.Omega.{arith}
use lib.Dec.{eqb, ltb, leb}
use lib.ListN.{length, get_or, length-append}
use borrow.Author.Tests.{ltb-true, leb-true, le-leb, eqb-true, not-true}
use Rattle.strip.specs.declared.format.Body.{Body}
use Rattle.strip.specs.declared.reader.Entry.{Entry}
use Rattle.strip.specs.Format.{format_of}
use Rattle.strip.specs.Entry.{kind_of, cells_of, refs_of, body_of, wide, Each, Bounded, Formed}
use Rattle.strip.specs.Shape.{all, count, is_open, is_close, is_end, ends_once, cell_in, cell_ok, makes, names, refs_pass, refs_ok, closes_last, blocks_ok, strip_ok}
use Rattle.strip.proofs.Tests.{and_left, and_right}
use Rattle.strip.proofs.Table.{every-format, body_number}
use Rattle.strip.proofs.Run.{all_append, refs-fit}
use Rattle.translation.proofs.Typed.{inner, bodied, made, refs-append}
use Rattle.translation.proofs.InRange.{fits, word_in}

-- ---- entries as bytes can hold them

body_from : ℕ → Body
body_from n = get_or (Body.Unknown ∷ Body.Bare ∷ Body.Word ∷ Body.Cell ∷ Body.Store ∷ Body.One ∷ Body.Two ∷ Body.Three ∷ Body.Four ∷ []) n Body.Unknown

body_back : (b : Body) → body_from (body_number b) ≡ b
unfolding body_from body_number
body_back Body.Unknown = refl
body_back Body.Bare = refl
body_back Body.Word = refl
body_back Body.Cell = refl
body_back Body.Store = refl
body_back Body.One = refl
body_back Body.Two = refl
body_back Body.Three = refl
body_back Body.Four = refl

body_same : (a b : Body) → eqb (body_number a) (body_number b) ≡ true → a ≡ b
body_same a b h = sym (body_back a) ∙ ap body_from (eqb-true (body_number a) (body_number b) h) ∙ body_back b

limit-le : (k : ℕ) → (format_of k).limit ≤ 255
limit-le k = leb-true (format_of k).limit 255 (every-format (λ f. leb f.limit 255) refl refl k)

cell-lt : (k n : ℕ) → cell_in (format_of k) n && true ≡ true → n < 256
cell-lt k n h =
    let l : n < (format_of k).limit = ltb-true n (format_of k).limit (and_right (leb (format_of k).least n) _ (and_left (cell_in (format_of k) n) _ h)) in
    omega (arith, limit-le k)

bounded : (e : Entry) → fits e ≡ true → Bounded e
unfolding cell_ok cells_of kind_of
bounded (Entry.Bare k) h = tt
bounded (Entry.Word w) h = ltb-true w 4294967296 (and_left (ltb w 4294967296) _ h)
bounded (Entry.Cell k n) h = cell-lt k n h
bounded (Entry.Store k n r) h = cell-lt k n h
bounded (Entry.One k a) h = tt
bounded (Entry.Two k a b) h = tt
bounded (Entry.Three k a b c) h = tt
bounded (Entry.Four k a b c d) h = tt

pub each-formed : (es : List Entry) → all bodied es ≡ true → all fits es ≡ true → Each (λ e. Each (λ r. r < 256 ^ wide) (refs_of e)) es → Each (Formed wide) es
each-formed [] b f r = tt
each-formed (e ∷ es) b f r = (
  record { body = body_same (format_of (kind_of e)).body (body_of e) (and_left (bodied e) _ b); bounded = bounded e (and_left (fits e) _ f); refs = r.0 },
  each-formed es (and_right (bodied e) _ b) (and_right (fits e) _ f) r.1,
)

-- ---- lists of entries

all-weaken : (f g : Entry → Bool) → ((e : Entry) → f e ≡ true → g e ≡ true) → (es : List Entry) → all f es ≡ true → all g es ≡ true
all-weaken f g w [] h = refl
all-weaken f g w (e ∷ es) h = rw (w e (and_left (f e) _ h)) (all-weaken f g w es (and_right (f e) _ h))

ended-last : (es : List Entry) → all (λ e. not (is_end e)) es ≡ true → ends_once (es ++ (Entry.Bare 255 ∷ [])) ≡ true
unfolding ends_once kind_of
ended-last [] h = refl
ended-last (e ∷ []) h = rw (and_left (not (is_end e)) _ h) refl
ended-last (e ∷ d ∷ es) h = rw (and_left (not (is_end e)) _ h) (ended-last (d ∷ es) (and_right (not (is_end e)) _ h))

count-after : (f : Entry → Bool) (es fs : List Entry) → all (λ e. not (f e)) es ≡ true → count f (es ++ fs) ≡ count f fs
count-after f [] fs h = refl
count-after f (e ∷ es) fs h = rw (not-true (f e) (and_left (not (f e)) _ h)) (count-after f es fs (and_right (not (f e)) _ h))

closes-after : (es fs : List Entry) → all (λ e. not (is_close e)) es ≡ true → closes_last (es ++ fs) ≡ closes_last fs
unfolding closes_last
closes-after [] fs h = refl
closes-after (e ∷ es) fs h = rw (not-true (is_close e) (and_left (not (is_close e)) _ h)) (closes-after es fs (and_right (not (is_close e)) _ h))

module _ (es : List Entry) (h : all inner es ≡ true) where
  no-open : all (λ e. not (is_open e)) es ≡ true
  no-open = all-weaken inner (λ e. not (is_open e)) (λ e i. and_left (not (is_open e)) _ i) es h

  no-close : all (λ e. not (is_close e)) es ≡ true
  no-close = all-weaken inner (λ e. not (is_close e)) (λ e i. and_left (not (is_close e)) _ (and_right (not (is_open e)) _ i)) es h

  no_end : all (λ e. not (is_end e)) es ≡ true
  no_end = all-weaken inner (λ e. not (is_end e)) (λ e i. and_right (not (is_close e)) _ (and_right (not (is_open e)) _ i)) es h

-- ---- strips

-- well-formed entries after values of the kinds `before`
pub record Piece (before : List ℕ) (es : List Entry) : Type 0 where
  pub inside : all inner es ≡ true
  pub bodies : all bodied es ≡ true
  pub numbers : all fits es ≡ true
  pub refs : refs_ok before es ≡ true

-- a strip that passes the test, of entries that bytes can hold
pub record WellFormed (es : List Entry) : Type 0 where
  pub passes : strip_ok es ≡ true
  pub formed : Each (Formed wide) es

well-formed : (es : List Entry) → ends_once es ≡ true → length es ≤ 64 → all bodied es ≡ true → all fits es ≡ true → refs_ok [] es ≡ true → blocks_ok es ≡ true → WellFormed es
unfolding strip_ok
well-formed es e l b f r k = record {
  passes = rw (e, le-leb (length es) 64 l, all-weaken fits (λ e. cell_ok (format_of (kind_of e)) e) (λ e h. and_right (word_in e) _ h) es f, r, k) refl;
  formed = each-formed es b f (refs-fit (256 ^ wide) es [] (omega arith) r);
}

-- entries, then the end
pub plain : (es : List Entry) → Piece [] es → length es ≤ 63 → WellFormed (es ++ (Entry.Bare 255 ∷ []))
unfolding kind_of cell_ok cells_of format_of body_of body_number refs_ok refs_pass refs_of closes_last blocks_ok
plain es p l =
    let end = Entry.Bare 255 ∷ [] in
    well-formed (es ++ end)
    (ended-last es (no_end es p.inside))
    (rw (length-append es end) (omega arith))
    (all_append bodied es end p.bodies refl)
    (all_append fits es end p.numbers refl)
    (refs-append [] es end p.refs refl)
    (rw (count-after is_open es end (no-open es p.inside), count-after is_close es end (no-close es p.inside), closes-after es end (no-close es p.inside)) refl)

-- a guard's entries, which make the truth g, and entries in its block
module _ (ps es : List Entry) (g : ℕ) (p : Piece [] ps) (t : names (made ps) 2 g ≡ true) (q : Piece (made ps) es) (l : length ps + length es ≤ 61) where
  abbrev close-end : List Entry
  close-end = Entry.Bare 101 ∷ Entry.Bare 255 ∷ []

  abbrev block-end : List Entry
  block-end = Entry.One 100 g ∷ (es ++ close-end)

  abbrev guarded-block : List Entry
  guarded-block = ps ++ block-end

  abbrev before-end : List Entry
  before-end = ps ++ (Entry.One 100 g ∷ (es ++ (Entry.Bare 101 ∷ [])))

  not-ended : all (λ e. not (is_end e)) before-end ≡ true
  unfolding kind_of
  not-ended = all_append (λ e. not (is_end e)) ps (Entry.One 100 g ∷ (es ++ (Entry.Bare 101 ∷ []))) (no_end ps p.inside) (all_append (λ e. not (is_end e)) es (Entry.Bare 101 ∷ []) (no_end es q.inside) refl)

  seam : before-end ++ (Entry.Bare 255 ∷ []) ≡ guarded-block
  seam = append_assoc ps (Entry.One 100 g ∷ (es ++ (Entry.Bare 101 ∷ []))) (Entry.Bare 255 ∷ []) ∙ ap (λ (x : List Entry). ps ++ (Entry.One 100 g ∷ x)) (append_assoc es (Entry.Bare 101 ∷ []) (Entry.Bare 255 ∷ []))

  block-refs : refs_ok (made ps) block-end ≡ true
  unfolding refs_ok refs_pass refs_of kind_of format_of makes
  block-refs = rw (t, append-nil (made ps)) (refs-append (made ps) es close-end q.refs refl)

  block-count : (f : Entry → Bool) → all (λ e. not (f e)) ps ≡ true → all (λ e. not (f e)) es ≡ true → count f guarded-block ≡ count f (Entry.One 100 g ∷ close-end)
  block-count f a b = count-after f ps block-end a ∙ go (f (Entry.One 100 g))
    where
      go : (t : Bool) → cond t (suc (count f (es ++ close-end))) (count f (es ++ close-end)) ≡ cond t (suc (count f close-end)) (count f close-end)
      go true = ap suc (count-after f es close-end b)
      go false = count-after f es close-end b

  pub in_block : WellFormed (before-end ++ (Entry.Bare 255 ∷ []))
  unfolding kind_of cell_ok cells_of format_of body_of body_number closes_last blocks_ok
  in_block =
      rw seam
      (well-formed guarded-block
      (rw (← seam) (ended-last before-end not-ended))
      (rw (length-append ps block-end, length-append es close-end) (omega arith))
      (all_append bodied ps block-end p.bodies (all_append bodied es close-end q.bodies refl))
      (all_append fits ps block-end p.numbers (all_append fits es close-end q.numbers refl))
      (refs-append [] ps block-end p.refs block-refs)
      (rw (block-count is_open (no-open ps p.inside) (no-open es q.inside), block-count is_close (no-close ps p.inside) (no-close es q.inside), closes-after ps block-end (no-close ps p.inside), closes-after es close-end (no-close es q.inside)) refl))
