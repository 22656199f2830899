use mathlib.Core.Path.{◌≡◌, sym, ◌∙◌, ap}
use mathlib.Core.List.{List, ◌++◌}
use Prim.Native.Nat.{ℕ, ◌+◌, ◌-◌, ◌≤◌}
use native.Mathlib.Omega.{arith}
use lib.ListN.{length, take, length-append}
use lib.Seq.{take-append_seam, take-append-add, length-take-le}
use borrow.Rule.Slice.PartMut.{put_mid}
use Rattle.std.proofs.Common.{rules, min}
use Rattle.std.proofs.lemmas.Slice.{take-put_mid}
use Rattle.strip.proofs.stream.join.Goals as goal

-- a list, and after it the first elements of another
joined : (a b post x y : List ℕ) (n : ℕ) → length a ≤ n → n - length a ≤ length b → x ≡ a → y ≡ take (n - length a) b → take n (put_mid (length a) (n - length a) (x ++ post) y) ≡ take n (a ++ b)
joined a b post x y n l h e f =
    let m : n ≡ length a + (n - length a) = omega arith in
    let long : length (take (n - length a) b) ≡ n - length a = length-take-le _ _ h in
    rw (e, f) (take-put_mid (length a) (n - length a) (a ++ post) (take (n - length a) b) n (omega arith) (omega (arith, length-append a post))
    ∙ ap (λ (l : List ℕ). l ++ take (n - length a) b) (take-append_seam a post)
    ∙ sym (ap (λ (k : ℕ). take k (a ++ b)) m ∙ take-append-add a b (n - length a)))

pub returns-clause-front : goal.returns-clause-front
returns-clause-front c =
    let n : c.min-n.result ≡ min 9 (length c.args.a.now + length c.args.b.now) = search rules in
    joined c.args.a.now c.args.b.now _ _ _ c.min-n.result (omega arith) (omega arith) c.copy_from_slice.ensures.after c.copy_from_slice-2.ensures.after
