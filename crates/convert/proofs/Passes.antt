-- The pass over a run: what each turn keeps, and what it comes to.
use Rattle.std.specs.Prelude.{Option as Answered, Some, None}
use mathlib.Core.Path.{◌≡◌, refl, sym, ap, ◌∙◌}
use mathlib.Core.Bool.{Bool, true, false, cond, false≢true}
use mathlib.Core.List.{List, [], ◌∷◌, ◌++◌, append-nil, append_assoc}
use mathlib.Core.Option.{Option, none, some, get_or}
use Prim.Native.Nat.{ℕ, suc, ◌+◌, ◌*◌, ◌≤◌}
use native.Mathlib.Omega.{arith}
use native.Mathlib.Nat.{zero-add}
use lib.Dec.{eqb}
use lib.ListN.{length, drop, length-append, length-drop}
use lib.Seq.{sets, sets-eq}
use borrow.Author.Tests.{eq-eqb, ne_eqb}
use Rattle.strip.specs.declared.format.Body.{Body}
use Rattle.strip.specs.declared.reader.Entry.{Entry}
use Rattle.strip.specs.declared.shape.Shape.{Shape}
use Rattle.strip.specs.Format.{format_of}
use Rattle.strip.specs.Entry.{Read, encode, immediate_of, refs_of, short, whole, read_as, read_entry, reads_from}
use Rattle.strip.specs.Shape.{is_end, grown, joined, cut_at_ends, decode, all_ok, shape_ok, strip_bytes, run_bytes}
use Rattle.strip.specs.Pass.{Ready, fresh, stepped, pass_from}
use Rattle.strip.proofs.Encode.{encode-length}
use Rattle.strip.proofs.EntryRead.{found, reads-found, reads-stop, reads_none}
use Rattle.strip.proofs.Pass.{pass_shape, pass-stop, pass-refused, pass-taken, ready-fresh, step-ready}
use Rattle.strip.proofs.Write.{sets-append}
use Rattle.convert.specs.Convert.{converted}
use Rattle.convert.specs.Pass.{rewritten, Turns, measured, Passes}
use Rattle.convert.proofs.Turns.{length-turned}

-- ---- entries that decode to strips are written as these strips are
module _ (to : ℕ) where
  Same : List Read → Option (List (List Entry)) → Type 0
  Same rs none = Unit {0}
  Same rs (some ss) = rewritten to rs ≡ run_bytes to ss

  same : (rs : List Read) → Same rs (cut_at_ends rs)
  unfolding Same rewritten cut_at_ends run_bytes strip_bytes
  same [] = refl
  same (None ∷ rs) = tt
  same (Some (e, n) ∷ rs) = go (cut_at_ends rs) (same rs)
    where
      grows : (ss : List (List Entry)) → rewritten to rs ≡ run_bytes to ss → Same (Some (e, n) ∷ rs) (grown e ss)
      grows [] p = tt
      grows (s ∷ ss) p = ap (λ (l : List ℕ). encode to e ++ l) p ∙ sym (append_assoc (encode to e) (strip_bytes to s) (run_bytes to ss))

      go : (o : Option (List (List Entry))) → Same rs o → Same (Some (e, n) ∷ rs) (joined e o)
      go none p = tt
      go (some ss) p = ends (is_end e)
        where
          ends : (b : Bool) → Same (Some (e, n) ∷ rs) (cond b (some ((e ∷ []) ∷ ss)) (grown e ss))
          ends true = ap (λ (l : List ℕ). encode to e ++ l) p ∙ ap (λ (l : List ℕ). l ++ run_bytes to ss) (sym (append-nil (encode to e)))
          ends false = grows ss p

  pub rewritten-converted : (from : ℕ) (run : List ℕ) → shape_ok from run ≡ true → rewritten to (reads_from from 0 run) ≡ converted from to run
  unfolding shape_ok converted decode Same
  rewritten-converted from run p = go (cut_at_ends (reads_from from 0 run)) (same (reads_from from 0 run)) p
    where
      go : (o : Option (List (List Entry))) → Same (reads_from from 0 run) o → all_ok o ≡ true → rewritten to (reads_from from 0 run) ≡ run_bytes to (get_or o [])
      go none s p = absurd (false≢true p)
      go (some ss) s p = s

-- an entry grows to twice its bytes at most
module _ (from to : ℕ) (twice : to ≤ 2 * from) where
  Grown : Read → Type 0
  Grown (Some (e, n)) = length (encode to e) ≤ 2 * n
  Grown None = Unit {0}

  whole-grown : (s : List ℕ) (size : ℕ) (e : Entry) → suc (length (immediate_of e) + length (refs_of e) * to) ≤ 2 * size → Grown (whole s size e)
  unfolding Grown
  whole-grown s size e h = go (short size s)
    where
      go : (t : Bool) → Grown (cond t None (Some (e, size)))
      go true = tt
      go false = rw (encode-length to e) h

  as-grown : (s : List ℕ) (k : ℕ) (b : Body) → Grown (read_as from s b k)
  unfolding Grown read_as immediate_of refs_of
  as-grown s k Body.Unknown = tt
  as-grown s k Body.Bare = whole-grown s _ _ (omega arith)
  as-grown s k Body.Word = whole-grown s _ _ (omega arith)
  as-grown s k Body.Cell = whole-grown s _ _ (omega arith)
  as-grown s k Body.Store = whole-grown s _ _ (omega arith)
  as-grown s k Body.One = whole-grown s _ _ (omega arith)
  as-grown s k Body.Two = whole-grown s _ _ (omega arith)
  as-grown s k Body.Three = whole-grown s _ _ (omega arith)
  as-grown s k Body.Four = whole-grown s _ _ (omega arith)

  pub grown-twice : (s : List ℕ) (e : Entry) (n : ℕ) → read_entry from s ≡ Some (e, n) → length (encode to e) ≤ 2 * n
  unfolding Grown read_entry
  grown-twice [] e n p = let z : ◌≡◌ {A = ℕ} 0 1 = cc in absurd (omega arith)
  grown-twice (x ∷ s) e n p = rw p at (as-grown (x ∷ s) x (format_of x).body)

-- ---- the loop
module _ (from to : ℕ) (run : List ℕ) (writing : Bool) (out₀ : List ℕ) where
  abbrev all : List ℕ
  all = rewritten to (reads_from from 0 run)

  -- what each turn keeps, where these bytes of the run are left
  pub record Holds (left : List ℕ) (g : Shape) (out : List ℕ) (at : ℕ) : Type 0 where
    pub ready : Ready g
    pub kept : length out ≡ length out₀
    pub most : at + 2 * length left ≤ 2 * length run
    pub size : at + length (rewritten to (reads_from from 0 left)) ≡ length all
    pub tested : writing ≡ false → (pass_from g (reads_from from 0 left) ≡ shape_ok from run) × (out ≡ out₀)
    pub written : writing ≡ true → (g ≡ fresh) × (sets out at (rewritten to (reads_from from 0 left)) ≡ sets out₀ 0 all)

  pub holds-begin : Holds run fresh out₀ 0
  holds-begin = record { ready = ready-fresh; kept = refl; most = omega arith; size = omega arith; tested = λ f. (pass_shape from run, refl); written = λ t. (refl, refl) }

module _ (from to : ℕ) (twice : to ≤ 2 * from) (run : List ℕ) (writing : Bool) (out₀ : List ℕ) (asked : writing ≡ true → (shape_ok from run ≡ true) × (length (converted from to run) ≤ length out₀)) where
  abbrev every : List ℕ
  every = all from to run writing out₀

  room-all : writing ≡ true → length every ≤ length out₀
  room-all t = rw (rewritten-converted to from run (asked t).0) (asked t).1

  abbrev Last : List ℕ
  Last = converted from to run ++ drop (length (converted from to run)) out₀

  module _ (left : List ℕ) (g : Shape) (out : List ℕ) (at : ℕ) (h : Holds from to run writing out₀ left g out at) where
    -- where nothing is left to write
    last : rewritten to (reads_from from 0 left) ≡ [] → out ≡ cond writing Last out₀
    last p = go writing refl
      where
        go : (b : Bool) → writing ≡ b → out ≡ cond b Last out₀
        go true t =
            sym (ap (sets out at) p)
            ∙ (h.written t).1
            ∙ sets-eq every out₀ 0 (omega (arith, room-all t))
            ∙ ap (λ (n : ℕ). every ++ drop n out₀) (zero-add (length every))
            ∙ ap (λ (l : List ℕ). l ++ drop (length l) out₀) (rewritten-converted to from run (asked t).0)
        go false f = (h.tested f).1

    ill-formed : (writing ≡ false → false ≡ shape_ok from run) → writing ≡ false → ◌≡◌ {A = Answered ℕ} None (measured from to run)
    unfolding measured
    ill-formed p f = rw (← p f) refl

    pub stops : read_entry from left ≡ None → 1 ≤ length left → Passes from to run writing out₀ out None
    unfolding rewritten
    stops p any =
        let q = reads-stop from left p any in
        record { size = ill-formed (λ f. pass-stop _ _ q ∙ (h.tested f).0); list = last (ap (rewritten to) q) }

    module _ (e : Entry) (n : ℕ) (p : read_entry from left ≡ Some (e, n)) where
      reads : reads_from from 0 left ≡ Some (e, n) ∷ reads_from from 0 (drop n left)
      reads = reads-found from left e n p

      bytes : rewritten to (reads_from from 0 left) ≡ encode to e ++ rewritten to (reads_from from 0 (drop n left))
      unfolding rewritten
      bytes = ap (rewritten to) reads

      sized : at + (length (encode to e) + length (rewritten to (reads_from from 0 (drop n left)))) ≡ length every
      sized = ap (λ (m : ℕ). at + m) (sym (length-append (encode to e) _)) ∙ ap (λ (l : List ℕ). at + length l) (sym bytes) ∙ h.size

      pub room : writing ≡ true → at + length (encode to e) ≤ length out
      room t = omega (arith, sized, room-all t, h.kept)

      -- the place stays within what a number of the machine holds
      pub in-range : at + length (encode to e) ≤ 2 * length run
      in-range = omega (arith, h.most, grown-twice from to twice left e n p, (found from left e n p).within)

      module _ (out' : List ℕ) (g' : Shape) (t : Turns to g writing e out at out' g') where
        tested-next : writing ≡ false → g' ≡ stepped g e
        tested-next f = t.shape ∙ ap (λ (b : Bool). cond b g (stepped g e)) f

        pub stops_at : g'.left ≡ 0 → Passes from to run writing out₀ out' None
        stops_at z = record {
          size = ill-formed (λ f. pass-refused _ _ e n _ reads (ap (λ (s : Shape). s.left) (sym (tested-next f)) ∙ z) ∙ (h.tested f).0);
          list = go writing refl;
        }
          where
            go : (b : Bool) → writing ≡ b → out' ≡ cond b Last out₀
            go true w =
                let full : g'.left ≡ 64 = ap (λ (s : Shape). s.left) (t.shape ∙ ap (λ (b : Bool). cond b g (stepped g e)) w ∙ (h.written w).0) in
                absurd (omega arith)
            go false f = t.list ∙ ap (λ (b : Bool). cond b (sets out at (encode to e)) out) f ∙ (h.tested f).1

        pub goes_on : (next : ℕ) → next ≡ at + length (encode to e) → (g'.left ≡ 0 → ⊥) → Holds from to run writing out₀ (drop n left) g' out' next
        goes_on next placed any = record {
          ready = ready writing refl;
          kept = length-turned t ∙ h.kept;
          most = rw (placed, length-drop n left) (omega (arith, h.most, grown-twice from to twice left e n p, (found from left e n p).within));
          size = rw placed (omega (arith, sized));
          tested = λ f. (
            rw (tested-next f) (pass-taken _ _ e n _ reads (λ z. any (ap (λ (s : Shape). s.left) (tested-next f) ∙ z)) ∙ (h.tested f).0),
            t.list ∙ ap (λ (b : Bool). cond b (sets out at (encode to e)) out) f ∙ (h.tested f).1,
          );
          written = λ w. (
            t.shape ∙ ap (λ (b : Bool). cond b g (stepped g e)) w ∙ (h.written w).0,
            ap (λ (l : List ℕ). sets l next (rewritten to (reads_from from 0 (drop n left)))) (t.list ∙ ap (λ (b : Bool). cond b (sets out at (encode to e)) out) w)
                ∙ sets-append (encode to e) _ out at next placed
                ∙ ap (sets out at) (sym bytes)
                ∙ (h.written w).1,
          );
        }
          where
            ready : (b : Bool) → writing ≡ b → Ready g'
            ready true w = rw (t.shape, w) h.ready
            ready false f = rw (tested-next f) (step-ready g e h.ready (λ z. any (ap (λ (s : Shape). s.left) (tested-next f) ∙ z)))

    module _ (past : length left ≤ 0) where
      none_left : reads_from from 0 left ≡ []
      none_left = reads_none from left past

      nothing : rewritten to (reads_from from 0 left) ≡ []
      unfolding rewritten
      nothing = ap (rewritten to) none_left

      shaped : writing ≡ false → eqb g.left 64 ≡ shape_ok from run
      unfolding pass_from
      shaped f = ap (pass_from g) (sym none_left) ∙ (h.tested f).0

      pub stops-open : (g.left ≡ 64 → ⊥) → Passes from to run writing out₀ out None
      stops-open ne = record { size = ill-formed (λ f. sym (ne_eqb g.left 64 ne) ∙ shaped f); list = last nothing }

      pub finished : g.left ≡ 64 → Passes from to run writing out₀ out (Some at)
      unfolding measured
      finished is = record { size = measures; list = last nothing }
        where
          measures : writing ≡ false → ◌≡◌ {A = Answered ℕ} (Some at) (measured from to run)
          measures f =
              let ok : shape_ok from run ≡ true = sym (shaped f) ∙ eq-eqb g.left 64 is in
              let n : at ≡ length (converted from to run) = omega (arith, h.size, ap length nothing) ∙ ap length (rewritten-converted to from run ok) in
              rw (ok, n) refl
