-- Laws of reading: what the definitions of `specs/Entry.antt` give at a place of a run.
use Rattle.std.specs.Prelude.{Option, Some, None}
use mathlib.Core.Path.{◌≡◌, refl, ap, ap₂, ◌∙◌, sym}
use mathlib.Core.List.{List, [], ◌∷◌, ◌++◌, append-nil}
use mathlib.Core.Bool.{Bool, true, false, cond, true≢false, false≢true}
use Prim.Native.Nat.{ℕ, zero, suc, ◌+◌, ◌*◌, ◌-◌, ◌≤◌, ◌<◌}
use native.Mathlib.Omega.{arith}
use native.Mathlib.Nat.{le_of_suc-le-suc, not-suc-le-zero}
use lib.ListN.{length, take, drop, get_or, length-drop, length-append, replicate, length-replicate, get_or-append}
use lib.Seq.{take_all, drop-drop}
use lib.Dec.{eqb}
use Rattle.strip.specs.declared.format.Body.{Body}
use Rattle.strip.specs.declared.reader.Entry.{Entry}
use Rattle.strip.specs.Format.{format_of}
use Rattle.strip.specs.Entry.{Read, kind_of, body_of, short, number_at, word_at, whole, followed, read_word, read_as, read_entry, known, is_cut, reads_from}

pub short-lt : (n : ℕ) (s : List ℕ) → length s < n → short n s ≡ true
unfolding short
short-lt zero s h = absurd (not-suc-le-zero h)
short-lt (suc n) [] h = refl
short-lt (suc n) (x ∷ s) h = short-lt n s (le_of_suc-le-suc h)

pub short-le : (n : ℕ) (s : List ℕ) → n ≤ length s → short n s ≡ false
unfolding short
short-le zero s h = refl
short-le (suc n) [] h = absurd (not-suc-le-zero h)
short-le (suc n) (x ∷ s) h = short-le n s (le_of_suc-le-suc h)

pub short-false : (n : ℕ) (s : List ℕ) → short n s ≡ false → n ≤ length s
unfolding short
short-false zero s e = omega arith
short-false (suc n) [] e = absurd (true≢false e)
short-false (suc n) (x ∷ s) e = let h : n ≤ length s = short-false n s e in omega arith

short-true : (n : ℕ) (s : List ℕ) → short n s ≡ true → length s < n
unfolding short
short-true zero s e = absurd (false≢true e)
short-true (suc n) [] e = omega arith
short-true (suc n) (x ∷ s) e = let h : length s < n = short-true n s e in omega arith

-- an entry is cut, or there is the whole of it
pub cut : (s : List ℕ) (size : ℕ) (e : Entry) → length s < size → None ≡ whole s size e
cut s size e h = rw (short-lt size s h) refl

pub uncut : (s : List ℕ) (size : ℕ) (e : Entry) → size ≤ length s → Some (e, size) ≡ whole s size e
uncut s size e h = rw (short-le size s h) refl

pub read-nil : (len : ℕ) (s : List ℕ) → length s ≡ 0 → None ≡ read_entry len s
unfolding read_entry
read-nil len [] h = refl
read-nil len (x ∷ s) h = absurd (omega arith)

pub read-cons : (len : ℕ) (s : List ℕ) → (length s ≡ 0 → ⊥) → read_as len s (format_of (get_or s 0 0)).body (get_or s 0 0) ≡ read_entry len s
unfolding read_entry
read-cons len [] h = absurd (h refl)
read-cons len (x ∷ s) h = refl

pub cut-nil : (s : List ℕ) → length s ≡ 0 → true ≡ is_cut s
unfolding is_cut
cut-nil [] h = refl
cut-nil (x ∷ s) h = absurd (omega arith)

pub cut-cons : (s : List ℕ) → (length s ≡ 0 → ⊥) → known (format_of (get_or s 0 0)).body ≡ is_cut s
unfolding is_cut
cut-cons [] h = absurd (h refl)
cut-cons (x ∷ s) h = refl

-- of the kinds below 2 there is one, the word
pub read_low : (len : ℕ) (s : List ℕ) → (length s ≡ 0 → ⊥) → get_or s 0 0 < 2 → cond (eqb (get_or s 0 0) 1) (read_word s) None ≡ read_entry len s
unfolding format_of read_as
read_low len s h l = go (get_or s 0 0) l ∙ read-cons len s h
  where
    go : (k : ℕ) → k < 2 → cond (eqb k 1) (read_word s) None ≡ read_as len s (format_of k).body k
    go zero l = refl
    go (suc zero) l = refl
    go (suc (suc k)) l = absurd (omega arith)

-- what is known of an entry that is found: it has a length, lies within the list, and its group is its kind's
pub record Taken (s : List ℕ) (e : Entry) (n : ℕ) : Type 0 where
  pub forward : 1 ≤ n
  pub within : n ≤ length s
  pub body : (format_of (kind_of e)).body ≡ body_of e

abbrev Sound : List ℕ → Read → Type 0
Sound s (Some (e, n)) = Taken s e n
Sound s None = Unit {0}

whole-sound : (s : List ℕ) (n : ℕ) (e : Entry) → 1 ≤ n → (format_of (kind_of e)).body ≡ body_of e → Sound s (whole s n e)
whole-sound s n e h b = go (short n s) refl
  where
    go : (t : Bool) → short n s ≡ t → Sound s (cond t None (Some (e, n)))
    go true p = tt
    go false p = record { forward = h; within = short-false n s p; body = b }

as-sound : (len : ℕ) (s : List ℕ) (k : ℕ) (b : Body) → (format_of k).body ≡ b → Sound s (read_as len s b k)
unfolding read_as kind_of body_of format_of
as-sound len s k Body.Unknown p = tt
as-sound len s k Body.Bare p = whole-sound s _ _ (omega arith) p
as-sound len s k Body.Word p = whole-sound s _ _ (omega arith) refl
as-sound len s k Body.Cell p = whole-sound s _ _ (omega arith) p
as-sound len s k Body.Store p = whole-sound s _ _ (omega arith) p
as-sound len s k Body.One p = whole-sound s _ _ (omega arith) p
as-sound len s k Body.Two p = whole-sound s _ _ (omega arith) p
as-sound len s k Body.Three p = whole-sound s _ _ (omega arith) p
as-sound len s k Body.Four p = whole-sound s _ _ (omega arith) p

of-sound : (len : ℕ) (s : List ℕ) → Sound s (read_entry len s)
unfolding read_entry
of-sound len [] = tt
of-sound len (x ∷ s) = as-sound len (x ∷ s) x (format_of x).body refl

pub found : (len : ℕ) (s : List ℕ) (e : Entry) (n : ℕ) → read_entry len s ≡ Some (e, n) → Taken s e n
found len s e n p = rw p at (of-sound len s)

-- ---- a list and what comes after it
-- how many bytes an entry of this body takes, and the entry, once they are there
abbrev size_by : ℕ → Body → ℕ
size_by len Body.Unknown = 0
size_by len Body.Bare = 1
size_by len Body.Word = 5
size_by len Body.Cell = 2
size_by len Body.Store = 2 + len
size_by len Body.One = 1 + len
size_by len Body.Two = 1 + len + len
size_by len Body.Three = 1 + len + len + len
size_by len Body.Four = 1 + len + len + len + len

abbrev entry_by : ℕ → List ℕ → ℕ → Body → Entry
entry_by len s k Body.Unknown = Entry.Bare k
entry_by len s k Body.Bare = Entry.Bare k
entry_by len s k Body.Word = Entry.Word (word_at s 1)
entry_by len s k Body.Cell = Entry.Cell k (get_or s 1 0)
entry_by len s k Body.Store = Entry.Store k (get_or s 1 0) (number_at len s 2)
entry_by len s k Body.One = Entry.One k (number_at len s 1)
entry_by len s k Body.Two = Entry.Two k (number_at len s 1) (number_at len s (1 + len))
entry_by len s k Body.Three = Entry.Three k (number_at len s 1) (number_at len s (1 + len)) (number_at len s (1 + len + len))
entry_by len s k Body.Four = Entry.Four k (number_at len s 1) (number_at len s (1 + len)) (number_at len s (1 + len + len)) (number_at len s (1 + len + len + len))

as-whole : (len : ℕ) (s : List ℕ) (k : ℕ) (b : Body) → known b ≡ true → read_as len s b k ≡ whole s (size_by len b) (entry_by len s k b)
unfolding read_as
as-whole len s k Body.Unknown p = absurd (false≢true p)
as-whole len s k Body.Bare p = refl
as-whole len s k Body.Word p = refl
as-whole len s k Body.Cell p = refl
as-whole len s k Body.Store p = refl
as-whole len s k Body.One p = refl
as-whole len s k Body.Two p = refl
as-whole len s k Body.Three p = refl
as-whole len s k Body.Four p = refl

number_append : (n : ℕ) (s t : List ℕ) (i : ℕ) → i + n ≤ length s → number_at n (s ++ t) i ≡ number_at n s i
number_append zero s t i h = refl
number_append (suc n) s t i h = ap₂ (λ (x y : ℕ). x + y * 256) (get_or-append s t 0 i (omega arith)) (number_append n s t (i + 1) (omega arith))

entry-append : (len : ℕ) (s t : List ℕ) (k : ℕ) (b : Body) → size_by len b ≤ length s → entry_by len (s ++ t) k b ≡ entry_by len s k b
entry-append len s t k Body.Unknown h = refl
entry-append len s t k Body.Bare h = refl
entry-append len s t k Body.Word h = ap₂ (λ (x y : ℕ). Entry.Word (x + y * 65536)) (number_append 2 s t 1 (omega arith)) (number_append 2 s t 3 (omega arith))
entry-append len s t k Body.Cell h = ap (λ (x : ℕ). Entry.Cell k x) (get_or-append s t 0 1 (omega arith))
entry-append len s t k Body.Store h = ap₂ (λ (x y : ℕ). Entry.Store k x y) (get_or-append s t 0 1 (omega arith)) (number_append len s t 2 (omega arith))
entry-append len s t k Body.One h = ap (λ (x : ℕ). Entry.One k x) (number_append len s t 1 (omega arith))
entry-append len s t k Body.Two h = ap₂ (λ (x y : ℕ). Entry.Two k x y) (number_append len s t 1 (omega arith)) (number_append len s t (1 + len) (omega arith))
entry-append len s t k Body.Three h = rw (number_append len s t 1 (omega arith), number_append len s t (1 + len) (omega arith), number_append len s t (1 + len + len) (omega arith))
entry-append len s t k Body.Four h =
    rw (number_append len s t 1 (omega arith), number_append len s t (1 + len) (omega arith), number_append len s t (1 + len + len) (omega arith), number_append len s t (1 + len + len + len) (omega arith))

Some-injective : {A : Type 0} {x y : A} → ◌≡◌ {A = Option A} (Some x) (Some y) → x ≡ y
Some-injective {A} {x} {y} p = cc

module _ (len : ℕ) where
  found-stop : (e : Entry) (n : ℕ) → ◌≡◌ {A = Read} (Some (e, n)) None → ⊥
  found-stop e n p = let z : ◌≡◌ {A = ℕ} 0 1 = cc in absurd (omega arith)

  -- where the kind is known, the entry is cut or there is the whole of it
  record Cuts (s : List ℕ) : Type 0 where
    size : ℕ
    entry : List ℕ → Entry
    some : 1 ≤ length s
    here : (t : List ℕ) → read_entry len (s ++ t) ≡ whole (s ++ t) size (entry (s ++ t))
    same : (t : List ℕ) → size ≤ length s → entry (s ++ t) ≡ entry s
    small : len ≤ 2 → size ≤ 9

  size_small : len ≤ 2 → (b : Body) → size_by len b ≤ 9
  size_small l Body.Unknown = omega arith
  size_small l Body.Bare = omega arith
  size_small l Body.Word = omega arith
  size_small l Body.Cell = omega arith
  size_small l Body.Store = omega arith
  size_small l Body.One = omega arith
  size_small l Body.Two = omega arith
  size_small l Body.Three = omega arith
  size_small l Body.Four = omega arith

  cuts : (k : ℕ) (s : List ℕ) → known (format_of k).body ≡ true → Cuts (k ∷ s)
  unfolding read_entry
  cuts k s p =
      record {
        size = size_by len (format_of k).body;
        entry = λ l. entry_by len l k (format_of k).body;
        some = omega arith;
        here = λ t. as-whole len (k ∷ (s ++ t)) k (format_of k).body p;
        same = λ t h. entry-append len (k ∷ s) t k (format_of k).body h;
        small = λ l. size_small l (format_of k).body;
      }

  -- an unknown kind stops the reading, whatever comes
  pub unknown-stops : (s : List ℕ) → is_cut s ≡ false → (t : List ℕ) → (read_entry len (s ++ t) ≡ None) × (is_cut (s ++ t) ≡ false)
  unfolding is_cut read_entry read_as
  unknown-stops [] p t = absurd (true≢false p)
  unknown-stops (k ∷ s) p t = (go (format_of k).body p, p)
    where
      go : (b : Body) → known b ≡ false → read_as len (k ∷ (s ++ t)) b k ≡ None
      go Body.Unknown p = refl
      go Body.Bare p = absurd (true≢false p)
      go Body.Word p = absurd (true≢false p)
      go Body.Cell p = absurd (true≢false p)
      go Body.Store p = absurd (true≢false p)
      go Body.One p = absurd (true≢false p)
      go Body.Two p = absurd (true≢false p)
      go Body.Three p = absurd (true≢false p)
      go Body.Four p = absurd (true≢false p)

  cuts-of : (s : List ℕ) → is_cut s ≡ true → 1 ≤ length s → Cuts s
  unfolding is_cut
  cuts-of [] p h = absurd (omega arith)
  cuts-of (k ∷ s) p h = cuts k s p

  found-known : (s : List ℕ) (e : Entry) (n : ℕ) → read_entry len s ≡ Some (e, n) → Cuts s
  found-known s e n p = let t = found len s e n p in cuts-of s (go (is_cut s) refl) (omega (arith, t.forward, t.within))
    where
      go : (b : Bool) → is_cut s ≡ b → is_cut s ≡ true
      go true q = q
      go false q = absurd (found-stop e n (sym p ∙ ap (read_entry len) (sym (append-nil s)) ∙ (unknown-stops s q []).0))

  module _ (s : List ℕ) (c : Cuts s) where
    here-alone : read_entry len s ≡ whole s c.size (c.entry s)
    here-alone = rw append-nil at (c.here [])

    found-size : (e : Entry) (n : ℕ) → read_entry len s ≡ Some (e, n) → (c.size ≡ n) × (c.entry s ≡ e)
    found-size e n p = go (short c.size s) (sym here-alone ∙ p)
      where
        go : (b : Bool) → cond {A = Read} b None (Some (c.entry s, c.size)) ≡ Some (e, n) → (c.size ≡ n) × (c.entry s ≡ e)
        go true q = absurd (found-stop e n (sym q))
        go false q = let same = Some-injective q in (ap (λ (r : Entry × ℕ). r.1) same, ap (λ (r : Entry × ℕ). r.0) same)

    -- with all its bytes there, the entry is found, whatever comes
    whole-found : (t : List ℕ) → c.size ≤ length s → read_entry len (s ++ t) ≡ Some ((c.entry s), c.size)
    whole-found t h = c.here t ∙ (rw (short-le c.size (s ++ t) (rw (length-append s t) (omega arith)), c.same t h) refl)

    stop-size : read_entry len s ≡ None → length s < c.size
    stop-size p = go (short c.size s) refl
      where
        go : (b : Bool) → short c.size s ≡ b → length s < c.size
        go true q = short-true c.size s q
        go false q = absurd (found-stop (c.entry s) c.size (sym (here-alone ∙ (rw q refl)) ∙ p))

  -- what is found stays found with more bytes, and is found without those that it does not need
  pub read_more : (s t : List ℕ) (e : Entry) (n : ℕ) → read_entry len s ≡ Some (e, n) → read_entry len (s ++ t) ≡ Some (e, n)
  read_more s t e n p =
      let c = found-known s e n p in
      let f = found-size s c e n p in
      let w = found len s e n p in
      whole-found s c t (omega (arith, f.0, w.within)) ∙ ap₂ (λ (e : Entry) (n : ℕ). Some (e, n)) f.1 f.0

  -- more bytes make an entry exactly where the list is cut
  pub cut-found : (s t : List ℕ) → read_entry len s ≡ None → (e : Entry) (n : ℕ) → read_entry len (s ++ t) ≡ Some (e, n) → (is_cut s ≡ true) × (length s < n)
  unfolding is_cut cuts
  cut-found [] t p e n q = (refl, (found len t e n q).forward)
  cut-found (k ∷ s) t p e n q = go (is_cut (k ∷ s)) refl
    where
      go : (b : Bool) → is_cut (k ∷ s) ≡ b → (b ≡ true) × (length (k ∷ s) < n)
      go false r = absurd (found-stop e n (sym q ∙ (unknown-stops (k ∷ s) r t).0))
      go true r =
          let c = cuts k s r in
          let l = stop-size (k ∷ s) c p in
          let f = found-size (k ∷ (s ++ t)) (cuts k (s ++ t) r) e n q in
          (refl, omega (arith, f.0))

  completes : (k : ℕ) (s : List ℕ) → known (format_of k).body ≡ true → (t : List ℕ) × (e : Entry) × (n : ℕ) × (read_entry len ((k ∷ s) ++ t) ≡ Some (e, n))
  unfolding cuts
  completes k s p =
      let n : ℕ = size_by len (format_of k).body in
      let l : List ℕ = k ∷ (s ++ replicate n 0) in
      let c : Cuts l = cuts k (s ++ replicate n 0) p in
      let long : n ≤ length l = rw (length-append s (replicate n 0), length-replicate {A = ℕ} n 0) (omega arith) in
      (replicate n 0, c.entry l, n, here-alone l c ∙ (rw (short-le n l long) refl))

  pub cut-completes : (s : List ℕ) → is_cut s ≡ true → (t : List ℕ) × (e : Entry) × (n : ℕ) × (read_entry len (s ++ t) ≡ Some (e, n))
  unfolding is_cut read_entry read_as format_of short
  cut-completes [] p = (255 ∷ [], Entry.Bare 255, 1, refl)
  cut-completes (k ∷ s) p = completes k s p

  -- an entry that is cut lacks a byte at least of the longest entry's nine
  pub cut-length : len ≤ 2 → (s : List ℕ) → read_entry len s ≡ None → is_cut s ≡ true → length s ≤ 8
  cut-length l [] p q = omega arith
  cut-length l (k ∷ s) p q = let c = cuts-of (k ∷ s) q (omega arith) in let h = stop-size (k ∷ s) c p in let m = c.small l in omega arith

-- the entries after the first i bytes are those of the rest
reads-skip : (len i : ℕ) (s : List ℕ) → reads_from len i s ≡ reads_from len 0 (drop i s)
unfolding reads_from
reads-skip len zero [] = refl
reads-skip len (suc i) [] = refl
reads-skip len zero (b ∷ s) = refl
reads-skip len (suc i) (b ∷ s) = reads-skip len i s

pub reads-found : (len : ℕ) (s : List ℕ) (e : Entry) (n : ℕ) → read_entry len s ≡ Some (e, n) → reads_from len 0 s ≡ Some (e, n) ∷ reads_from len 0 (drop n s)
unfolding reads_from
reads-found len s e n p = go s n p (found len s e n p).forward (found len s e n p).within
  where
    go : (s : List ℕ) (n : ℕ) → read_entry len s ≡ Some (e, n) → 1 ≤ n → n ≤ length s → reads_from len 0 s ≡ Some (e, n) ∷ reads_from len 0 (drop n s)
    go [] n p f w = absurd (omega arith)
    go (b ∷ s) zero p f w = absurd (omega arith)
    go (b ∷ s) (suc n) p f w = ap (followed (λ i. reads_from len i s)) p ∙ ap (λ (rs : List Read). Some (e, (suc n)) ∷ rs) (reads-skip len n s)

pub reads-stop : (len : ℕ) (s : List ℕ) → read_entry len s ≡ None → 1 ≤ length s → reads_from len 0 s ≡ None ∷ []
unfolding reads_from
reads-stop len [] p k = absurd (not-suc-le-zero k)
reads-stop len (b ∷ s) p k = ap (followed (λ i. reads_from len i s)) p

pub reads_none : (len : ℕ) (s : List ℕ) → length s ≤ 0 → reads_from len 0 s ≡ []
unfolding reads_from
reads_none len [] h = refl
reads_none len (b ∷ s) h = absurd (not-suc-le-zero h)

-- the part of a list from a place to its end
pub part-rest : (s : List ℕ) (at : ℕ) → take (length s - at) (drop at s) ≡ drop at s
part-rest s at = take_all (length s - at) (drop at s) (simp length-drop (omega arith))

-- A turn of a loop over the entries of a run: what a read at a place says of the entries from there on.
pub record Turn (len : ℕ) (s : List ℕ) (at : ℕ) (e : Entry) (n : ℕ) : Type 0 where
  pub forward : 1 ≤ n
  pub inside : at + n ≤ length s
  pub body : (format_of (kind_of e)).body ≡ body_of e
  pub reads : reads_from len 0 (drop at s) ≡ Some (e, n) ∷ reads_from len 0 (drop (at + n) s)

module _ (len : ℕ) (s : List ℕ) (at : ℕ) (r : Read) (inside : at < length s) (read : r ≡ read_entry len (take (length s - at) (drop at s))) where
  rest : r ≡ read_entry len (drop at s)
  rest = read ∙ ap (read_entry len) (part-rest s at)

  pub turn : (e : Entry) (n : ℕ) → r ≡ Some (e, n) → Turn len s at e n
  turn e n p =
      let q : read_entry len (drop at s) ≡ Some (e, n) = sym rest ∙ p in
      let w = found len (drop at s) e n q in
      let l : n ≤ length s - at = rw length-drop at w.within in
      record {
        forward = w.forward;
        inside = omega arith;
        body = w.body;
        reads = reads-found len (drop at s) e n q ∙ ap (λ (t : List ℕ). Some (e, n) ∷ reads_from len 0 t) (drop-drop n at s);
      }

  pub halt : r ≡ None → reads_from len 0 (drop at s) ≡ None ∷ []
  halt p = reads-stop len (drop at s) (sym rest ∙ p) (simp length-drop (omega arith))
