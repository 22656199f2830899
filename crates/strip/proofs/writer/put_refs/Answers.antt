use mathlib.Core.Path.{◌≡◌, ap, sym, ◌∙◌}
use mathlib.Core.List.{List, [], ◌∷◌, ◌++◌, append-nil, append_assoc}
use Prim.Native.Nat.{ℕ, zero, suc, ◌+◌, ◌*◌, ◌≤◌, ◌<◌}
use native.Mathlib.Omega.{arith}
use native.Mathlib.Nat.{mul-le-mul_right, le_of_suc-le-suc, suc-mul}
use lib.ListN.{length, take, get_or}
use lib.Seq.{take_all, length-take-le}
use Rattle.std.proofs.Common.{rules}
use Rattle.strip.specs.Entry.{ref_length, number_bytes, refs_bytes}
use Rattle.strip.proofs.Encode.{refs-length}
use Rattle.strip.proofs.Write.{puts-append, puts-end}
use Rattle.strip.proofs.writer.put_refs.Goals as goal

-- a reference more
refs-more : (len : ℕ) (rs : List ℕ) (i : ℕ) → i < length rs → refs_bytes len (take (i + 1) rs) ≡ refs_bytes len (take i rs) ++ number_bytes len (get_or rs i 0)
refs-more len [] i h = absurd (omega arith)
refs-more len (r ∷ rs) zero h = append-nil (number_bytes len r)
refs-more len (r ∷ rs) (suc i) h =
    let e : suc i + 1 ≡ suc (i + 1) = omega arith in
    rw e (ap (λ (l : List ℕ). number_bytes len r ++ l) (refs-more len rs i (le_of_suc-le-suc h)) ∙ sym (append_assoc (number_bytes len r) (refs_bytes len (take i rs)) (number_bytes len (get_or rs i 0))))

-- the place of reference i, and where it ends
refs-place : (len : ℕ) (rs : List ℕ) (i : ℕ) → i ≤ length rs → length (refs_bytes len (take i rs)) ≡ i * len
refs-place len rs i h = refs-length len (take i rs) ∙ ap (λ (n : ℕ). n * len) (length-take-le i rs h)

refs-room : (len i n : ℕ) → i < n → i * len + len ≤ n * len
refs-room len i n h = let m : suc i * len ≤ n * len = mul-le-mul_right len h in omega (arith, suc-mul i len)

pub loop-r-init : goal.loop-r-init
loop-r-init c = record { next = omega arith; stand = puts-end (ref_length c.args.layout) }

pub put_ref-requires : goal.put_ref-requires
put_ref-requires c =
    let len = ref_length c.args.layout in
    let room = refs-room len c.loop-r.r-index (length c.args.refs.now) c.loop-r-test.true in
    let place = c.loop-r.invariant.next in
    omega (arith, c.requires)

pub overflow_add-place : goal.overflow_add-place
overflow_add-place c =
    let len = ref_length c.args.layout in
    let room = refs-room len c.loop-r.r-index (length c.args.refs.now) c.loop-r-test.true in
    let place = c.loop-r.invariant.next in
    let within : c.loop-r.place + c.ref_length-place.result ≤ length c.args.out.now = omega (arith, c.requires, c.ref_length-place.ensures.0) in
    search rules

pub loop-r-preserved : goal.loop-r-preserved
loop-r-preserved c =
    let len = ref_length c.args.layout in
    let rs = c.args.refs.now in
    let i = c.loop-r.r-index in
    let place = c.loop-r.invariant.next in
    let next : c.loop-r.place ≡ c.args.at + length (refs_bytes len (take i rs)) = place ∙ ap (λ (n : ℕ). c.args.at + n) (sym (refs-place len rs i (omega arith))) in
    record {
      next = omega (arith, c.ref_length-place.ensures.0, suc-mul i len);
      stand = rw (refs-more len rs i c.loop-r-test.true) (puts-append next c.loop-r.invariant.stand c.put_ref.ensures);
    }

pub returns : goal.returns
returns c =
    let all : take c.loop-r.r-index c.args.refs.now ≡ c.args.refs.now = take_all _ _ (omega arith) in
    rw all at c.loop-r.invariant.stand
