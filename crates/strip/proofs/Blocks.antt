-- A run tested block by block: however it is cut, the blocks together say what the whole says.
use Rattle.std.specs.Prelude.{Some, None}
use mathlib.Core.Path.{◌≡◌, refl, ap, ap₂, subst, ◌∙◌, sym}
use mathlib.Core.List.{List, [], ◌∷◌, ◌++◌, append-nil, append_assoc}
use mathlib.Core.Bool.{Bool, true, false, cond, not, ◌&&◌, and-false, false≢true}
use mathlib.Core.Option.{some}
use Prim.Native.Nat.{ℕ, suc, ◌+◌, ◌-◌, ◌^◌, ◌≤◌, ◌<◌, min}
use native.Mathlib.Omega.{arith}
use native.Mathlib.Nat.{add-zero}
use native.Mathlib.Numerals.{add-one}
use lib.Dec.{leb, eqb}
use lib.ListN.{length, get_or, take, drop, set, replicate, length-replicate, length-append, length-take, length-drop, take-append-drop}
use lib.Pow.{pow_mono}
use lib.Seq.{take-suc, take-suc-set, length-take-le, set_at, append_snoc, take_all, take-append-add, take_at, drop-append-le, drop-append-add, drop-drop}
use borrow.Author.Tests.{leb-true, le-leb, eqb-true, eqb-false, eq-eqb, ne_eqb}
use Rattle.strip.specs.declared.format.Layout.{Layout}
use Rattle.strip.specs.declared.format.Layout.TheVariants.{Wide, Narrow}
use Rattle.strip.specs.declared.reader.Entry.{Entry}
use Rattle.strip.specs.declared.shape.Shape.{Shape}
use Rattle.strip.specs.declared.shape.Walked.{Walked}
use Rattle.strip.specs.declared.stream.Stream.{Stream}
use Rattle.strip.specs.declared.stream.Fed.{Fed}
use Rattle.strip.specs.Entry.{Read, ref_length, is_cut, read_entry}
use Rattle.strip.specs.Shape.{decode, shape_ok}
use Rattle.strip.specs.Pass.{Ready, ready, fresh, refused_shape, values_mask, stepped}
use Rattle.strip.specs.Steps.{still, ahead, halted, walk}
use Rattle.strip.specs.Stream.{pending, padded, stream_of, start_of, refused_stream, stops, waits, going, settled, walked_on, fed, unfed, feed, at_end, then, feeds, concat}
use Rattle.strip.specs.State.{state_length, state_bytes, state_of}
use Rattle.strip.proofs.Tests.{and_left, and_right}
use Rattle.strip.proofs.EntryRead.{found, cut-found, cut-length}
use Rattle.strip.proofs.Pass.{ready-fresh, ready-none, is-ready, ready-is}
use Rattle.strip.proofs.States.{Fits, state-length, state-back}
use Rattle.strip.proofs.Steps.{Waits, walk-unready, walk-stop, walk_refused, walk-passed, walk-within, walk-few, walk-waits, walk-append, walk-shape, walk-well-formed}

-- ---- the loops
-- a byte more of a list is copied
pub copy_more : (l s : List ℕ) (i x : ℕ) → i < length l → i < length s → x ≡ get_or s i 0 → take i l ≡ take i s → take (i + 1) (set l i x) ≡ take (i + 1) s
copy_more l s i x h k p q =
    ap (λ (n : ℕ). take n (set l i x)) (add-one i)
    ∙ take-suc-set l i x h
    ∙ ap₂ (λ (a : List ℕ) (b : ℕ). a ++ (b ∷ [])) q p
    ∙ sym (take-suc s i 0 k)
    ∙ ap (λ (n : ℕ). take n s) (sym (add-one i))

-- zeros after the first i bytes
abbrev pub pad_to : ℕ → List ℕ → List ℕ
pad_to i s = take i s ++ replicate (8 - i) 0

pub pad-more : (l s : List ℕ) (i x : ℕ) → i < 8 → i < length s → x ≡ get_or s i 0 → l ≡ pad_to i s → set l i x ≡ pad_to (i + 1) s
pad-more l s i x h k p q =
    let e : 8 - i ≡ suc (8 - (i + 1)) = omega arith in
    ap (λ (m : List ℕ). set m i x) (q ∙ ap (λ (n : ℕ). take i s ++ replicate n 0) e)
    ∙ set_at (take i s) 0 (replicate (8 - (i + 1)) 0) x i (length-take-le i s (omega arith))
    ∙ sym (append_snoc (take i s) x (replicate (8 - (i + 1)) 0))
    ∙ ap (λ (m : List ℕ). m ++ replicate (8 - (i + 1)) 0) (ap (λ (b : ℕ). take i s ++ (b ∷ [])) p ∙ sym (take-suc s i 0 k) ∙ ap (λ (n : ℕ). take n s) (sym (add-one i)))

pub pad-all : (l s : List ℕ) (i : ℕ) → i ≡ length s → l ≡ pad_to i s → l ≡ padded s
pad-all l s i e p = p ∙ ap₂ (λ (a : List ℕ) (n : ℕ). a ++ replicate (8 - n) 0) (take_all i s (omega arith)) e

-- ---- bytes that wait for more
waits-true : (len : ℕ) (s : List ℕ) → waits len s ≡ true → (read_entry len s ≡ None) × (is_cut s ≡ true)
waits-true len s p = (go (read_entry len s) refl, and_right (stops (read_entry len s)) (is_cut s) p)
  where
    go : (r : Read) → read_entry len s ≡ r → read_entry len s ≡ None
    go (Some (e, n)) q = absurd (false≢true (ap stops (sym q) ∙ and_left (stops (read_entry len s)) (is_cut s) p))
    go None q = q

waits-is : (len : ℕ) (s : List ℕ) → read_entry len s ≡ None → is_cut s ≡ true → waits len s ≡ true
waits-is len s p q = rw (p, q)

-- as the code asks: the walk over them passes nothing, and refuses nothing
pub waits-walk : (len : ℕ) (g : Shape) → Ready g → (s : List ℕ) (v : Walked) → v ≡ walk len g s → eqb v.bytes 0 && not (eqb v.shape.left 0) ≡ waits len s
waits-walk len g w s v e = ap (λ (v : Walked). eqb v.bytes 0 && not (eqb v.shape.left 0)) e ∙ go (read_entry len s) refl
  where
    nothing : Walked → Bool
    nothing v = eqb v.bytes 0 && not (eqb v.shape.left 0)

    some_left : (b : Bool) → not (eqb (cond b g refused_shape).left 0) ≡ b
    some_left true = ap not (ne_eqb g.left 0 (λ z. omega (arith, w.left)))
    some_left false = refl

    go : (r : Read) → read_entry len s ≡ r → nothing (walk len g s) ≡ stops r && is_cut s
    go None p = ap nothing (walk-stop len g w s p) ∙ some_left (is_cut s)
    go (Some (x, n)) p = by (eqb (stepped g x).left 0) refl
      where
        by : (z : Bool) → eqb (stepped g x).left 0 ≡ z → nothing (walk len g s) ≡ false
        by true z = ap nothing (walk_refused len g w s x n p (eqb-true _ _ z))
        by false z =
            let t = found len s x n p in
            ap nothing (walk-passed len g w s x n p (eqb-false _ _ z))
            ∙ ap (λ (b : Bool). b && not (eqb (walk len (stepped g x) (drop n s)).shape.left 0)) (ne_eqb (n + (walk len (stepped g x) (drop n s)).bytes) 0 (λ q. omega (arith, t.forward)))

-- what a state that goes on is
pub record Going (t : Stream) : Type 0 where
  pub is_ready : Ready t.shape
  pub few : t.count ≤ 8
  pub stops : read_entry (ref_length t.layout) (pending t) ≡ None
  pub cut : is_cut (pending t) ≡ true

pub going-is : (t : Stream) → going t ≡ true → Going t
unfolding going
going-is t p =
    let a = and_right (ready t.shape) _ p in
    let w = waits-true (ref_length t.layout) (pending t) (and_right (leb t.count 8) _ a) in
    record { is_ready = is-ready t.shape (and_left (ready t.shape) _ p); few = leb-true t.count 8 (and_left (leb t.count 8) _ a); stops = w.0; cut = w.1 }

-- ---- a walk in two parts
module _ (len : ℕ) (g : Shape) (w : Ready g) where
  -- over the first n bytes, and then from where it stops
  pub walk_split : (n : ℕ) (s : List ℕ) (first : Walked) → first ≡ walk len g (take n s) → walk len g s ≡ ahead first.bytes first.strips (walk len first.shape (drop first.bytes s))
  walk_split n s first e =
      ap (λ (l : List ℕ). walk len g l) (sym (take-append-drop n s))
      ∙ walk-append len g w (take n s) (drop n s)
      ∙ ap (λ (l : List ℕ). ahead (walk len g (take n s)).bytes (walk len g (take n s)).strips (walk len (walk len g (take n s)).shape l))
      (sym (drop-append-le (walk len g (take n s)).bytes (take n s) (drop n s) (walk-within len g w (take n s))) ∙ ap (drop (walk len g (take n s)).bytes) (take-append-drop n s))
      ∙ ap (λ (v : Walked). ahead v.bytes v.strips (walk len v.shape (drop v.bytes s))) (sym e)

  -- it passes all of an entry that was cut, or nothing
  pub walk-past : (p q : List ℕ) → read_entry len p ≡ None → ((walk len g (p ++ q)).bytes ≡ 0 → ⊥) → length p ≤ (walk len g (p ++ q)).bytes
  walk-past p q stop x = go (read_entry len (p ++ q)) refl
    where
      go : (r : Read) → read_entry len (p ++ q) ≡ r → length p ≤ (walk len g (p ++ q)).bytes
      go None h = absurd (x (ap (λ (v : Walked). v.bytes) (walk-stop len g w (p ++ q) h)))
      go (Some (e, n)) h = by (eqb (stepped g e).left 0) refl
        where
          by : (z : Bool) → eqb (stepped g e).left 0 ≡ z → length p ≤ (walk len g (p ++ q)).bytes
          by true z = absurd (x (ap (λ (v : Walked). v.bytes) (walk_refused len g w (p ++ q) e n h (eqb-true _ _ z))))
          by false z =
              let c = (cut-found len p q stop e n h).1 in
              let b : (walk len g (p ++ q)).bytes ≡ n + (walk len (stepped g e) (drop n (p ++ q))).bytes = ap (λ (v : Walked). v.bytes) (walk-passed len g w (p ++ q) e n h (eqb-false _ _ z)) in
              omega arith

-- ---- one block
ref-length-le : (l : Layout) → ref_length l ≤ 2
ref-length-le Wide = omega arith
ref-length-le Narrow = omega arith

settled-refused : (l : Layout) (w : Walked) (rest : List ℕ) → w.shape.left ≡ 0 → settled l w rest ≡ record { stream = refused_stream; bytes = w.bytes; strips = w.strips }
unfolding settled
settled-refused l w rest z = rw (eq-eqb _ _ z)

settled-kept : (l : Layout) (w : Walked) (rest : List ℕ) → (w.shape.left ≡ 0 → ⊥) → settled l w rest ≡ record { stream = stream_of l w.shape rest; bytes = w.bytes; strips = w.strips }
unfolding settled
settled-kept l w rest z = rw (ne_eqb _ _ z)

-- after what came before
settled-then : (l : Layout) (bytes strips : ℕ) (w : Walked) (rest : List ℕ) (t : Stream) → then (record { stream = t; bytes = bytes; strips = strips }) (settled l w rest) ≡ settled l (ahead bytes strips w) rest
unfolding settled
settled-then l bytes strips w rest t = refl

-- what is kept fits
pub kept-few : (l : Layout) (g : Shape) → Ready g → (s : List ℕ) → ((walk (ref_length l) g s).shape.left ≡ 0 → ⊥) → length (drop (walk (ref_length l) g s).bytes s) ≤ 8
kept-few l g w s z = let h = walk-waits (ref_length l) g w s z in cut-length (ref_length l) (ref-length-le l) (drop (walk (ref_length l) g s).bytes s) h.stops h.cut

-- The code's way: `first` is the walk over x, the first nine bytes of what is kept and the block, or as many as there are.
module _ (t : Stream) (on : going t ≡ true) (block : List ℕ) (n : ℕ) (nine : n ≡ min 9 (length (pending t) + length block))
    (x : List ℕ) (is : x ≡ take n (pending t ++ block)) (first : Walked) (walked : first ≡ walk (ref_length t.layout) t.shape x) where
  all : List ℕ
  all = pending t ++ block

  len : ℕ
  len = ref_length t.layout

  on-is : Going t
  on-is = going-is t on

  long : length all ≡ length (pending t) + length block
  unfolding all
  long = length-append (pending t) block

  fed-is : fed t.layout t.shape all ≡ feed t block
  unfolding feed all
  fed-is = rw on

  walked-of : first ≡ walk len t.shape (take n all)
  unfolding len all
  walked-of = walked ∙ ap (λ (l : List ℕ). walk (ref_length t.layout) t.shape l) is

  split-is : walk len t.shape all ≡ ahead first.bytes first.strips (walk len first.shape (drop first.bytes all))
  split-is = walk_split len t.shape on-is.is_ready n all first walked-of

  -- an entry in the first bytes is refused
  pub feed-refused : first.shape.left ≡ 0 → (rest : List ℕ) → settled t.layout first rest ≡ feed t block
  unfolding len
  feed-refused z rest =
      settled-refused t.layout first rest z
      ∙ sym (settled-refused t.layout (walk len t.shape all) (drop (walk len t.shape all).bytes all) (ap (λ (v : Walked). v.shape.left) whole)
      ∙ ap (λ (v : Walked). record { stream = refused_stream; bytes = v.bytes; strips = v.strips }) whole)
      ∙ fed-is
    where
      whole : walk len t.shape all ≡ record { shape = refused_shape; bytes = first.bytes; strips = first.strips }
      whole =
          split-is
          ∙ ap (ahead first.bytes first.strips) (walk-unready len first.shape (sym (ready-none first.shape z)) (drop first.bytes all))
          ∙ ap₂ (λ (b k : ℕ). record { shape = refused_shape; bytes = b; strips = k }) (add-zero first.bytes) (add-zero first.strips)

  -- they are an entry that is cut, and there are no others
  pub feed-kept : (first.shape.left ≡ 0 → ⊥) → first.bytes ≡ 0 → (length x ≤ 8) × (settled t.layout first x ≡ feed t block)
  unfolding len all
  feed-kept z b = (few, ap₂ (λ (v : Walked) (l : List ℕ). settled t.layout v l) whole rest ∙ fed-is)
    where
      few : length x ≤ 8
      few =
          let k = kept-few t.layout t.shape on-is.is_ready x (λ q. z (ap (λ (v : Walked). v.shape.left) walked ∙ q)) in
          let c : (walk (ref_length t.layout) t.shape x).bytes ≡ 0 = sym (ap (λ (v : Walked). v.bytes) walked) ∙ b in
          rw c at k

      every : x ≡ all
      every =
          let e : length x ≡ min n (length all) = ap length is ∙ length-take n all in
          is ∙ take_all n all (omega (arith, few, long))

      whole : first ≡ walk len t.shape all
      whole = walked ∙ ap (λ (l : List ℕ). walk len t.shape l) every

      rest : x ≡ drop (walk len t.shape all).bytes all
      rest = every ∙ ap (λ (m : ℕ). drop m all) (sym b ∙ ap (λ (v : Walked). v.bytes) whole)

  module _ (z : first.shape.left ≡ 0 → ⊥) (b : first.bytes ≡ 0 → ⊥) where
    -- they pass all of what was kept, and the walk goes on in the block
    pub past : (length (pending t) ≤ first.bytes) × (first.bytes - length (pending t) ≤ length block) × Ready first.shape × (first.bytes ≤ 9) × (first.strips ≤ 9)
    unfolding len all
    past = (over, within, ready-first, (let h = inside in omega arith), few)
      where
        front : take n all ≡ pending t ++ take (n - length (pending t)) block
        front =
            let k : length (pending t) ≤ 8 = cut-length len (ref-length-le t.layout) (pending t) on-is.stops on-is.cut in
            let e : length (pending t) + (n - length (pending t)) ≡ n = omega arith in
            ap (λ (m : ℕ). take m all) (sym e) ∙ take-append-add (pending t) block (n - length (pending t))

        same : first ≡ walk len t.shape (pending t ++ take (n - length (pending t)) block)
        same = walked-of ∙ ap (λ (l : List ℕ). walk len t.shape l) front

        over : length (pending t) ≤ first.bytes
        over =
            let e : first.bytes ≡ (walk len t.shape (pending t ++ take (n - length (pending t)) block)).bytes = ap (λ (v : Walked). v.bytes) same in
            let p = walk-past len t.shape on-is.is_ready (pending t) (take (n - length (pending t)) block) on-is.stops (λ q. b (e ∙ q)) in
            omega arith

        inside : first.bytes ≤ min n (length all)
        inside =
            let e : first.bytes ≡ (walk len t.shape (take n all)).bytes = ap (λ (v : Walked). v.bytes) walked-of in
            let k = walk-within len t.shape on-is.is_ready (take n all) in
            let l : length (take n all) ≡ min n (length all) = length-take n all in
            omega arith

        within : first.bytes - length (pending t) ≤ length block
        within = let h = inside in let l = long in omega arith

        ready-first : Ready first.shape
        ready-first = subst (λ (v : Walked). Ready v.shape) (sym walked) (walk-waits len t.shape on-is.is_ready x (λ q. z (ap (λ (v : Walked). v.shape.left) walked ∙ q))).is_ready

        few : first.strips ≤ 9
        few =
            let e : first.strips ≡ (walk len t.shape (take n all)).strips = ap (λ (v : Walked). v.strips) walked-of in
            let f : first.bytes ≡ (walk len t.shape (take n all)).bytes = ap (λ (v : Walked). v.bytes) walked-of in
            let k = walk-few len t.shape on-is.is_ready (take n all) in
            let h = inside in
            omega arith

    pub feed-on : walked_on t.layout first (drop (first.bytes - length (pending t)) block) ≡ feed t block
    unfolding len all
    feed-on = ap₂ (λ (v : Walked) (l : List ℕ). settled t.layout v l) whole left ∙ fed-is
      where
        rest : List ℕ
        rest = drop (first.bytes - length (pending t)) block

        gone : drop first.bytes all ≡ rest
        gone =
            let p = past.0 in
            let e : length (pending t) + (first.bytes - length (pending t)) ≡ first.bytes = omega arith in
            ap (λ (m : ℕ). drop m all) (sym e) ∙ drop-append-add (pending t) block (first.bytes - length (pending t))

        whole : ahead first.bytes first.strips (walk len first.shape rest) ≡ walk len t.shape all
        whole = sym (split-is ∙ ap (λ (l : List ℕ). ahead first.bytes first.strips (walk len first.shape l)) gone)

        left : drop (walk len first.shape rest).bytes rest ≡ drop (walk len t.shape all).bytes all
        left = ap (drop (walk len first.shape rest).bytes) (sym gone) ∙ drop-drop (walk len first.shape rest).bytes first.bytes all ∙ ap (λ (v : Walked). drop v.bytes all) whole

-- ---- blocks one after another
pending-of : (l : Layout) (g : Shape) (p : List ℕ) → pending (stream_of l g p) ≡ p
pending-of l g p = take_at p (replicate (8 - length p) 0) (length p) refl

module _ (l : Layout) (g : Shape) (p : List ℕ) (w : Waits (ref_length l) g p) where
  going_of : going (stream_of l g p) ≡ true
  unfolding going
  going_of =
      rw (ready-is g w.is_ready, le-leb (length p) 8 (cut-length (ref_length l) (ref-length-le l) p w.stops w.cut))
      (ap (waits (ref_length l)) (pending-of l g p) ∙ waits-is (ref_length l) p w.stops w.cut)

  feed-of : (block : List ℕ) → feed (stream_of l g p) block ≡ fed l g (p ++ block)
  unfolding feed
  feed-of block = rw going_of (ap (λ (q : List ℕ). fed l g (q ++ block)) (pending-of l g p))

refused-going : going refused_stream ≡ false
unfolding going ready
refused-going = refl

feed-going : (t : Stream) (block : List ℕ) → going t ≡ true → feed t block ≡ fed t.layout t.shape (pending t ++ block)
unfolding feed
feed-going t block p = rw p

feed-not : (t : Stream) (block : List ℕ) → going t ≡ false → feed t block ≡ unfed refused_stream
unfolding feed
feed-not t block p = rw p

-- a state that refused stays refused, whatever comes
pub feed-absorbs : (block : List ℕ) → feed refused_stream block ≡ unfed refused_stream
unfolding feed
feed-absorbs block = rw refused-going

feeds-absorb : (blocks : List (List ℕ)) → feeds refused_stream blocks ≡ unfed refused_stream
feeds-absorb [] = refl
feeds-absorb (b ∷ bs) = rw (feed-absorbs b, feeds-absorb bs)

-- however the bytes are cut, what is passed and the state are those of one walk over all
feeds-fed : (l : Layout) (blocks : List (List ℕ)) (g : Shape) (p : List ℕ) → Waits (ref_length l) g p → feeds (stream_of l g p) blocks ≡ fed l g (p ++ concat blocks)
feeds-fed l [] g p w = alone ∙ ap (fed l g) (sym (append-nil p))
  where
    nothing : walk (ref_length l) g p ≡ halted (still g)
    nothing = walk-stop (ref_length l) g w.is_ready p w.stops ∙ ap (λ (b : Bool). halted (still (cond b g refused_shape))) w.cut

    alone : unfed (stream_of l g p) ≡ fed l g p
    alone = rw nothing (sym (settled-kept l (halted (still g)) p (λ z. omega (arith, w.is_ready.left))))
feeds-fed l (b ∷ bs) g p w = go (feeds-fed l bs) (eqb v.shape.left 0) refl
  where
    len : ℕ
    len = ref_length l

    v : Walked
    v = walk len g (p ++ b)

    all : List ℕ
    all = p ++ concat (b ∷ bs)

    all-is : (p ++ b) ++ concat bs ≡ all
    all-is = append_assoc p b (concat bs)

    append-is : walk len g all ≡ ahead v.bytes v.strips (walk len v.shape (drop v.bytes (p ++ b) ++ concat bs))
    append-is = ap (walk len g) (sym all-is) ∙ walk-append len g w.is_ready (p ++ b) (concat bs)

    first : feeds (stream_of l g p) (b ∷ bs) ≡ then (fed l g (p ++ b)) (feeds (fed l g (p ++ b)).stream bs)
    first = ap (λ (f : Fed). then f (feeds f.stream bs)) (feed-of l g p w b)

    go : ((h : Shape) (q : List ℕ) → Waits len h q → feeds (stream_of l h q) bs ≡ fed l h (q ++ concat bs)) → (z : Bool) → eqb v.shape.left 0 ≡ z → feeds (stream_of l g p) (b ∷ bs) ≡ fed l g all
    go ih true z =
        first
        ∙ ap (λ (f : Fed). then f (feeds f.stream bs)) (settled-refused l v (drop v.bytes (p ++ b)) (eqb-true _ _ z))
        ∙ ap (then (record { stream = refused_stream; bytes = v.bytes; strips = v.strips })) (feeds-absorb bs)
        ∙ sym (ap (λ (x : Walked). settled l x (drop (walk len g all).bytes all)) over ∙ settled-refused l (ahead v.bytes v.strips (halted (still refused_shape))) (drop (walk len g all).bytes all) refl)
      where
        over : walk len g all ≡ ahead v.bytes v.strips (halted (still refused_shape))
        over = append-is ∙ ap (ahead v.bytes v.strips) (walk-unready len v.shape (sym (ready-none v.shape (eqb-true _ _ z))) (drop v.bytes (p ++ b) ++ concat bs))
    go ih false z =
        first
        ∙ ap (λ (f : Fed). then f (feeds f.stream bs)) (settled-kept l v (drop v.bytes (p ++ b)) (eqb-false _ _ z))
        ∙ ap (then (record { stream = stream_of l v.shape q; bytes = v.bytes; strips = v.strips })) (ih v.shape q (walk-waits len g w.is_ready (p ++ b) (eqb-false _ _ z)))
        ∙ settled-then l v.bytes v.strips x (drop x.bytes (q ++ concat bs)) (stream_of l v.shape q)
        ∙ ap₂ (λ (y : Walked) (r : List ℕ). settled l y r) (sym append-is) rest
      where
        q : List ℕ
        q = drop v.bytes (p ++ b)

        x : Walked
        x = walk len v.shape (q ++ concat bs)

        rest : drop x.bytes (q ++ concat bs) ≡ drop (walk len g all).bytes all
        rest =
            ap (drop x.bytes) (sym (drop-append-le v.bytes (p ++ b) (concat bs) (walk-within len g w.is_ready (p ++ b))) ∙ ap (drop v.bytes) all-is)
            ∙ drop-drop x.bytes v.bytes all
            ∙ ap (λ (y : Walked). drop y.bytes all) (sym append-is)

waits-fresh : (l : Layout) → Waits (ref_length l) fresh []
unfolding read_entry is_cut
waits-fresh l = record { is_ready = ready-fresh; stops = refl; cut = refl }

-- the end
end-fed : (l : Layout) (s : List ℕ) → at_end (fed l fresh s).stream ≡ shape_ok (ref_length l) s
unfolding at_end
end-fed l s = go (eqb w.shape.left 0) refl
  where
    w : Walked
    w = walk (ref_length l) fresh s

    shape_is : eqb w.bytes (length s) && eqb w.shape.left 64 ≡ shape_ok (ref_length l) s
    shape_is = walk-shape (ref_length l) s fresh refl w refl (eqb w.bytes (length s)) refl

    none_left : w.bytes ≤ length s → eqb (length (drop w.bytes s)) 0 ≡ eqb w.bytes (length s)
    none_left h = let d : length (drop w.bytes s) ≡ length s - w.bytes = length-drop w.bytes s in by (eqb w.bytes (length s)) refl d
      where
        by : (b : Bool) → eqb w.bytes (length s) ≡ b → length (drop w.bytes s) ≡ length s - w.bytes → eqb (length (drop w.bytes s)) 0 ≡ b
        by true q d = let e = eqb-true w.bytes (length s) q in eq-eqb (length (drop w.bytes s)) 0 (omega arith)
        by false q d = ne_eqb (length (drop w.bytes s)) 0 (λ x. eqb-false w.bytes (length s) q (omega arith))

    go : (z : Bool) → eqb w.shape.left 0 ≡ z → at_end (fed l fresh s).stream ≡ shape_ok (ref_length l) s
    go true z =
        ap (λ (f : Fed). at_end f.stream) (settled-refused l w (drop w.bytes s) (eqb-true _ _ z))
        ∙ ap (λ (b : Bool). b && (eqb refused_stream.count 0 && eqb refused_stream.shape.left 64)) refused-going
        ∙ sym (sym shape_is ∙ ap (λ (n : ℕ). eqb w.bytes (length s) && eqb n 64) (eqb-true w.shape.left 0 z) ∙ and-false (eqb w.bytes (length s)))
    go false z =
        ap (λ (f : Fed). at_end f.stream) (settled-kept l w (drop w.bytes s) (eqb-false _ _ z))
        ∙ ap (λ (b : Bool). b && (eqb (length (drop w.bytes s)) 0 && eqb w.shape.left 64)) (going_of l w.shape (drop w.bytes s) (walk-waits (ref_length l) fresh ready-fresh s (eqb-false _ _ z)))
        ∙ ap (λ (b : Bool). b && eqb w.shape.left 64) (none_left (walk-within (ref_length l) fresh ready-fresh s))
        ∙ shape_is

-- a block's bytes, and those that were kept, are all that can be passed, and each strip that ends has one
pub fed-within : (t : Stream) (block : List ℕ) → ((feed t block).bytes ≤ 8 + length block) × ((feed t block).strips ≤ (feed t block).bytes)
unfolding settled
fed-within t block = go (going t) refl
  where
    go : (b : Bool) → going t ≡ b → ((feed t block).bytes ≤ 8 + length block) × ((feed t block).strips ≤ (feed t block).bytes)
    go true p =
        let g = going-is t p in
        let len = ref_length t.layout in
        let w = walk-within len t.shape g.is_ready (pending t ++ block) in
        let f = walk-few len t.shape g.is_ready (pending t ++ block) in
        let a : length (pending t ++ block) ≡ length (pending t) + length block = length-append (pending t) block in
        let c = cut-length len (ref-length-le t.layout) (pending t) g.stops g.cut in
        rw (feed-going t block p) (omega arith, f)
    go false p = rw (feed-not t block p) (omega arith, omega arith)

-- ---- the state in bytes
fits-of : (l : Layout) (g : Shape) (p : List ℕ) → Waits (ref_length l) g p → Fits (stream_of l g p)
unfolding values_mask
fits-of l g p w =
    let r = w.is_ready in
    let v = r.values in
    let a = r.left in
    let c = cut-length (ref_length l) (ref-length-le l) p w.stops w.cut in
    let low : g.values ≤ 64 = omega arith in
    let top : 2 ^ g.values ≤ 2 ^ 64 = pow_mono low in
    let k : length (p ++ replicate (8 - length p) 0) ≡ 8 = rw (length-append p (replicate (8 - length p) 0), length-replicate {A = ℕ} (8 - length p) 0) (omega arith) in
    record {
      left = omega arith;
      values = omega arith;
      count = omega arith;
      kept = k;
      words = let m = r.made 1 in omega arith;
      truths = let m = r.made 2 in omega arith;
      slots = let m = r.made 3 in omega arith;
      addresses = let m = r.made 4 in omega arith;
    }

fits_refused : Fits refused_stream
fits_refused = record { left = omega arith; values = omega arith; count = omega arith; kept = refl; words = omega arith; truths = omega arith; slots = omega arith; addresses = omega arith }

-- a state that a test leaves has its length in bytes, and is read back from them
pub record Kept (t : Stream) : Type 0 where
  pub long : length (state_bytes t) ≡ state_length
  pub back : state_of (state_bytes t) ≡ t

keeps : (t : Stream) → Fits t → Kept t
keeps t f = record { long = state-length t f; back = state-back t f }

pub keeps-start : (l : Layout) → Kept (start_of l)
keeps-start l = keeps (start_of l) (fits-of l fresh [] (waits-fresh l))

pub keeps-fed : (t : Stream) (block : List ℕ) → Kept (feed t block).stream
keeps-fed t block = keeps (feed t block).stream (go (going t) refl)
  where
    w : Walked
    w = walk (ref_length t.layout) t.shape (pending t ++ block)

    rest : List ℕ
    rest = drop w.bytes (pending t ++ block)

    fed-fits : Ready t.shape → (z : Bool) → eqb w.shape.left 0 ≡ z → Fits (settled t.layout w rest).stream
    fed-fits r true z = subst (λ (f : Fed). Fits f.stream) (sym (settled-refused t.layout w rest (eqb-true w.shape.left 0 z))) fits_refused
    fed-fits r false z =
        subst (λ (f : Fed). Fits f.stream) (sym (settled-kept t.layout w rest (eqb-false w.shape.left 0 z)))
        (fits-of t.layout w.shape rest (walk-waits (ref_length t.layout) t.shape r (pending t ++ block) (eqb-false w.shape.left 0 z)))

    go : (b : Bool) → going t ≡ b → Fits (feed t block).stream
    go true p = subst (λ (f : Fed). Fits f.stream) (sym (feed-going t block p)) (fed-fits (going-is t p).is_ready (eqb w.shape.left 0) refl)
    go false p = subst (λ (f : Fed). Fits f.stream) (sym (feed-not t block p)) fits_refused

-- #103: for every layout, and every way to cut a run into blocks, the blocks end in the test's answer on the whole; the state, the bytes passed and
-- the strips counted hang on the whole alone; and in a well-formed run all bytes are passed and all strips counted.
pub blocks : (l : Layout) (bs : List (List ℕ))
    → (at_end (feeds (start_of l) bs).stream ≡ shape_ok (ref_length l) (concat bs))
    × (feeds (start_of l) bs ≡ fed l fresh (concat bs))
    × ((ss : List (List Entry)) → shape_ok (ref_length l) (concat bs) ≡ true → decode (ref_length l) (concat bs) ≡ some ss → ((feeds (start_of l) bs).bytes ≡ length (concat bs)) × ((feeds (start_of l) bs).strips ≡ length ss))
unfolding settled
blocks l bs =
    let f = feeds-fed l bs fresh [] (waits-fresh l) in (
      ap (λ (f : Fed). at_end f.stream) f ∙ end-fed l (concat bs),
      f,
      λ ss ok d. let w = walk-well-formed (ref_length l) (concat bs) ok ss d in (ap (λ (f : Fed). f.bytes) f ∙ w.0, ap (λ (f : Fed). f.strips) f ∙ w.1),
    )
