-- A helper does what its code says: each law takes what the code does first, and then the rest.
use mathlib.Core.Path.{◌≡◌, refl}
use mathlib.Core.Bool.{Bool, true, false, cond, ◌||◌}
use mathlib.Core.Logic.{◌⊎◌, inl, inr}
use mathlib.Core.List.{List, [], ◌∷◌, ◌++◌}
use Prim.Native.Nat.{ℕ}
use lib.Dec.{eqb}
use borrow.Author.Tests.{ne_eqb}
use Rattle.strip.specs.declared.reader.Entry.{Entry}
use Rattle.translation.specs.Code.{Code, ret, op, act, call, mark, ite, renamed, at as level, ats}
use Rattle.translation.specs.Emit.{Buffer, Value, emits, Makes, Writes, Raises, Does}

pub by-ret : {b : Buffer} {l : ℕ} {rs : List ℕ} → Does b (record { buffer = b; number = level rs l }) (ret l) rs
unfolding emits
by-ret = record { is = refl }

pub by-op : {b : Buffer} {m n : Value} {e : Entry} {rs : List ℕ} {k : Code} → Makes b m (renamed (level rs) e) → Does m.buffer n k (rs ++ (m.number ∷ [])) → Does b n (op e k) rs
unfolding emits
by-op p q = record { is = rw (← p.is) q.is }

pub by-act : {b b' : Buffer} {n : Value} {e : Entry} {rs : List ℕ} {k : Code} → Writes b b' (renamed (level rs) e) → Does b' n k rs → Does b n (act e k) rs
unfolding emits
by-act p q = record { is = rw (← p.is) q.is }

pub by_call : {b : Buffer} {m n : Value} {c k : Code} {ls rs : List ℕ} → Does b m c (ats rs ls) → Does m.buffer n k (rs ++ (m.number ∷ [])) → Does b n (call c ls k) rs
unfolding emits
by_call p q = record { is = rw (← p.is) q.is }

pub by-mark : {b b' : Buffer} {n : Value} {s u : ℕ} {k : Code} {rs : List ℕ} → Raises b b' s u → Does b' n k rs → Does b n (mark s u k) rs
unfolding emits
by-mark p q = record { is = rw (← p.is) q.is }

pub by-yes : {b : Buffer} {n : Value} {t : Bool} {c d : Code} {rs : List ℕ} → t ≡ true → Does b n c rs → Does b n (ite t c d) rs
unfolding emits
by-yes e q = record { is = rw e q.is }

pub by-no : {b : Buffer} {n : Value} {t : Bool} {c d : Code} {rs : List ℕ} → t ≡ false → Does b n d rs → Does b n (ite t c d) rs
unfolding emits
by-no e q = record { is = rw e q.is }

-- an operation in its signed or its unsigned kind
pub by-sign : (t : Bool) {b : Buffer} {m : Value} {k l x y : ℕ} → Makes b m (Entry.Two (cond t k l) x y)
    → Does b m (ite t (op (Entry.Two k 0 1) (ret 2)) (op (Entry.Two l 0 1) (ret 2))) (x ∷ y ∷ [])
by-sign true p = by-yes refl (by-op p by-ret)
by-sign false p = by-no refl (by-op p by-ret)

-- an arm of a match that two numbers come to
pub by_one_of : {A B C : Type 0} → A ⊎ B → (A → C) → (B → C) → C
by_one_of (inl a) f g = f a
by_one_of (inr b) f g = g b

-- and the test of both, where neither is the number
pub neither : (t m n : ℕ) → (((t ≡ m) ⊎ (t ≡ n)) → ⊥) → eqb t m || eqb t n ≡ false
neither t m n h = rw (ne_eqb t m (λ e. h (inl e)), ne_eqb t n (λ e. h (inr e)))
