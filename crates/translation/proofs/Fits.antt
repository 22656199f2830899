-- As long as it is short, what code emits is what it builds: the bytes of its entries, one after another, and the numbers.
use mathlib.Core.Path.{◌≡◌, refl, sym, ap, ◌∙◌}
use mathlib.Core.Bool.{true, false}
use mathlib.Core.List.{List, [], ◌∷◌, ◌++◌, append_assoc}
use Prim.Native.Nat.{ℕ, suc, ◌+◌, ◌%◌, ◌≤◌, max}
use native.Mathlib.Omega.{arith}
use lib.ListN.{length, length-append}
use lib.Seq.{sets}
use Rattle.strip.specs.declared.reader.Entry.{Entry}
use Rattle.strip.specs.Entry.{kind_of, refs_of, wide, immediate_of, encode}
use Rattle.strip.specs.Shape.{strip_bytes}
use Rattle.strip.proofs.Write.{sets-append}
use Rattle.translation.specs.Code.{Code, ret, op, act, call, mark, ite, renamed, at as level, ats, build}
use Rattle.translation.specs.Emit.{Buffer, Value, wrote, made, raised, emits}

-- ---- bytes

pub bytes-append : (es fs : List Entry) → strip_bytes wide (es ++ fs) ≡ strip_bytes wide es ++ strip_bytes wide fs
unfolding strip_bytes
bytes-append [] fs = refl
bytes-append (e ∷ es) fs = ap (λ (l : List ℕ). encode wide e ++ l) (bytes-append es fs) ∙ sym (append_assoc (encode wide e) (strip_bytes wide es) (strip_bytes wide fs))

-- how long an entry is in the wide layout does not hang on its references
abbrev pub entry_size : Entry → ℕ
entry_size (Entry.Bare k) = 1
entry_size (Entry.Word w) = 5
entry_size (Entry.Cell k n) = 2
entry_size (Entry.Store k n r) = 4
entry_size (Entry.One k a) = 3
entry_size (Entry.Two k a b) = 5
entry_size (Entry.Three k a b c) = 7
entry_size (Entry.Four k a b c d) = 9

pub size_is : (f : ℕ → ℕ) (e : Entry) → length (encode wide (renamed f e)) ≡ entry_size e
unfolding encode kind_of immediate_of refs_of
size_is f (Entry.Bare k) = refl
size_is f (Entry.Word w) = refl
size_is f (Entry.Cell k n) = refl
size_is f (Entry.Store k n r) = refl
size_is f (Entry.One k a) = refl
size_is f (Entry.Two k a b) = refl
size_is f (Entry.Three k a b c) = refl
size_is f (Entry.Four k a b c d) = refl

-- ---- how much at most, whatever the mode bits: entries, bytes, marks

abbrev pub bound : Code → ℕ
bound (ret l) = 0
bound (op e k) = suc (bound k)
bound (act e k) = suc (bound k)
bound (call c ls k) = bound c + bound k
bound (mark s u k) = bound k
bound (ite b c d) = max (bound c) (bound d)

abbrev pub room : Code → ℕ
room (ret l) = 0
room (op e k) = entry_size e + room k
room (act e k) = entry_size e + room k
room (call c ls k) = room c + room k
room (mark s u k) = room k
room (ite b c d) = max (room c) (room d)

abbrev pub marks : Code → ℕ
marks (ret l) = 0
marks (op e k) = marks k
marks (act e k) = marks k
marks (call c ls k) = marks c + marks k
marks (mark s n k) = suc (marks k)
marks (ite b c d) = max (marks c) (marks d)

pub bounded : (c : Code) (rs : List ℕ) (n : ℕ) → length (build c rs n).entries ≤ bound c
unfolding build
bounded (ret l) rs n = omega arith
bounded (op e k) rs n = omega (arith, bounded k (rs ++ (n ∷ [])) (suc n))
bounded (act e k) rs n = omega (arith, bounded k rs n)
bounded (call c ls k) rs n =
    let b = build c (ats rs ls) n in
    omega (arith, length-append b.entries (build k (rs ++ (b.result ∷ [])) b.next).entries, bounded c (ats rs ls) n, bounded k (rs ++ (b.result ∷ [])) b.next)
bounded (mark s u k) rs n = bounded k rs n
bounded (ite true c d) rs n = omega (arith, bounded c rs n)
bounded (ite false c d) rs n = omega (arith, bounded d rs n)

pub roomy : (c : Code) (rs : List ℕ) (n : ℕ) → length (strip_bytes wide (build c rs n).entries) ≤ room c
unfolding build strip_bytes
roomy (ret l) rs n = omega arith
roomy (op e k) rs n =
    let t = strip_bytes wide (build k (rs ++ (n ∷ [])) (suc n)).entries in
    omega (arith, length-append (encode wide (renamed (level rs) e)) t, size_is (level rs) e, roomy k (rs ++ (n ∷ [])) (suc n))
roomy (act e k) rs n =
    let t = strip_bytes wide (build k rs n).entries in
    omega (arith, length-append (encode wide (renamed (level rs) e)) t, size_is (level rs) e, roomy k rs n)
roomy (call c ls k) rs n =
    let b = build c (ats rs ls) n in
    let d = build k (rs ++ (b.result ∷ [])) b.next in
    let l : length (strip_bytes wide (b.entries ++ d.entries)) ≡ length (strip_bytes wide b.entries) + length (strip_bytes wide d.entries) = rw (bytes-append b.entries d.entries) (length-append (strip_bytes wide b.entries) (strip_bytes wide d.entries)) in
    omega (arith, l, roomy c (ats rs ls) n, roomy k (rs ++ (b.result ∷ [])) b.next)
roomy (mark s u k) rs n = roomy k rs n
roomy (ite true c d) rs n = omega (arith, roomy c rs n)
roomy (ite false c d) rs n = omega (arith, roomy d rs n)

pub next-bound : (c : Code) (rs : List ℕ) (n : ℕ) → (build c rs n).next ≤ n + bound c
unfolding build
next-bound (ret l) rs n = omega arith
next-bound (op e k) rs n = omega (arith, next-bound k (rs ++ (n ∷ [])) (suc n))
next-bound (act e k) rs n = omega (arith, next-bound k rs n)
next-bound (call c ls k) rs n =
    let b = build c (ats rs ls) n in omega (arith, next-bound c (ats rs ls) n, next-bound k (rs ++ (b.result ∷ [])) b.next)
next-bound (mark s u k) rs n = next-bound k rs n
next-bound (ite true c d) rs n = omega (arith, next-bound c rs n)
next-bound (ite false c d) rs n = omega (arith, next-bound d rs n)

pub next_more : (c : Code) (rs : List ℕ) (n : ℕ) → n ≤ (build c rs n).next
unfolding build
next_more (ret l) rs n = omega arith
next_more (op e k) rs n = omega (arith, next_more k (rs ++ (n ∷ [])) (suc n))
next_more (act e k) rs n = next_more k rs n
next_more (call c ls k) rs n =
    let b = build c (ats rs ls) n in omega (arith, next_more c (ats rs ls) n, next_more k (rs ++ (b.result ∷ [])) b.next)
next_more (mark s u k) rs n = next_more k rs n
next_more (ite true c d) rs n = next_more c rs n
next_more (ite false c d) rs n = next_more d rs n

-- ---- the last mark that code raises, after one that was raised before it

pub record Mark : Type 0 where
  pub slot : ℕ
  pub need : ℕ

abbrev pub last : Code → Mark → Mark
last (ret l) m = m
last (op e k) m = last k m
last (act e k) m = last k m
last (call c ls k) m = last k (last c m)
last (mark s n k) m = last k (record { slot = s; need = n })
last (ite true c d) m = last c m
last (ite false c d) m = last d m

abbrev pub raised_mark : Buffer → Mark
raised_mark b = record { slot = b.slot; need = b.need }

-- ---- from the buffer b to m, with the entries es written

pub record Fit (b : Buffer) (m : Value) (es : List Entry) (r n : ℕ) (k : Mark) : Type 0 where
  pub list : m.buffer.list ≡ sets b.list b.at (strip_bytes wide es)
  pub at : m.buffer.at ≡ b.at + length (strip_bytes wide es)
  pub next : m.buffer.next ≡ n
  pub number : m.number ≡ r
  pub slot : m.buffer.slot ≡ k.slot
  pub need : m.buffer.need ≡ k.need

-- bytes, and then what follows them
module _ (b : Buffer) (m : Value) (r n : ℕ) (k : Mark) (xs : List ℕ) (b' : Buffer) (p : b'.list ≡ sets b.list b.at xs) (q : b'.at ≡ b.at + length xs) where
  more : (es fs : List Entry) → strip_bytes wide es ≡ xs ++ strip_bytes wide fs → Fit b' m fs r n k → Fit b m es r n k
  more es fs h f = record {
    list = f.list ∙ rw (p, h) (sets-append xs (strip_bytes wide fs) b.list b.at b'.at q);
    at = omega (arith, f.at, q, length-append xs (strip_bytes wide fs), ap length h);
    next = f.next;
    number = f.number;
    slot = f.slot;
    need = f.need;
  }

-- the rest of the code, by the numbers that were built before it
moved : (k : Code) (rs : List ℕ) (b : Buffer) (m : Value) (r x n : ℕ) (w : Mark) → r ≡ x → b.next ≡ n → b.slot ≡ w.slot → b.need ≡ w.need
    → Fit b m (build k (rs ++ (r ∷ [])) b.next).entries (build k (rs ++ (r ∷ [])) b.next).result (build k (rs ++ (r ∷ [])) b.next).next (last k (raised_mark b))
    → Fit b m (build k (rs ++ (x ∷ [])) n).entries (build k (rs ++ (x ∷ [])) n).result (build k (rs ++ (x ∷ [])) n).next (last k w)
moved k rs b m r x n w e1 e2 e3 e4 f = let e : w ≡ raised_mark b = rw (e3, e4) in rw (← e1, ← e2, e) f

pub fits : (c : Code) (rs : List ℕ) (b : Buffer) → b.at + length (strip_bytes wide (build c rs b.next).entries) ≤ 255 → (build c rs b.next).next ≤ 255
    → Fit b (emits c rs b) (build c rs b.next).entries (build c rs b.next).result (build c rs b.next).next (last c (raised_mark b))
unfolding emits made wrote raised build strip_bytes
fits (ret l) rs b h i = record { list = refl; at = omega arith; next = refl; number = refl; slot = refl; need = refl }
fits (op e k) rs b h i =
    let x = encode wide (renamed (level rs) e) in
    let B = build k (rs ++ (b.next ∷ [])) (suc b.next) in
    let l : length (x ++ strip_bytes wide B.entries) ≡ length x + length (strip_bytes wide B.entries) = length-append x (strip_bytes wide B.entries) in
    let n : (b.next + 1) % 256 ≡ suc b.next = omega (arith, next_more k (rs ++ (b.next ∷ [])) (suc b.next)) in
    let a : (b.at + length x) % 256 ≡ b.at + length x = omega arith in
    let b' : Buffer = record { list = sets b.list b.at x; at = b.at + length x; next = suc b.next; slot = b.slot; need = b.need } in
    rw (n, a) (more b _ B.result B.next _ x b' refl refl (renamed (level rs) e ∷ B.entries) B.entries refl (fits k (rs ++ (b.next ∷ [])) b' (omega arith) i))
fits (act e k) rs b h i =
    let x = encode wide (renamed (level rs) e) in
    let B = build k rs b.next in
    let l : length (x ++ strip_bytes wide B.entries) ≡ length x + length (strip_bytes wide B.entries) = length-append x (strip_bytes wide B.entries) in
    let a : (b.at + length x) % 256 ≡ b.at + length x = omega arith in
    let b' : Buffer = record { list = sets b.list b.at x; at = b.at + length x; next = b.next; slot = b.slot; need = b.need } in
    rw a (more b _ B.result B.next _ x b' refl refl (renamed (level rs) e ∷ B.entries) B.entries refl (fits k rs b' (omega arith) i))
fits (call c ls k) rs b h i =
    let B = build c (ats rs ls) b.next in
    let D = build k (rs ++ (B.result ∷ [])) B.next in
    let l : length (strip_bytes wide (B.entries ++ D.entries)) ≡ length (strip_bytes wide B.entries) + length (strip_bytes wide D.entries) = rw (bytes-append B.entries D.entries) (length-append (strip_bytes wide B.entries) (strip_bytes wide D.entries)) in
    let f = fits c (ats rs ls) b (omega arith) (omega (arith, next_more k (rs ++ (B.result ∷ [])) B.next)) in
    let m = emits c (ats rs ls) b in
    let hb : m.buffer.at + length (strip_bytes wide (build k (rs ++ (m.number ∷ [])) m.buffer.next).entries) ≤ 255 = rw (f.number, f.next) (omega (arith, f.at)) in
    let hn : (build k (rs ++ (m.number ∷ [])) m.buffer.next).next ≤ 255 = rw (f.number, f.next) i in
    let g = moved k rs m.buffer _ m.number B.result B.next (last c (raised_mark b)) f.number f.next f.slot f.need (fits k (rs ++ (m.number ∷ [])) m.buffer hb hn) in
    more b _ D.result D.next _ (strip_bytes wide B.entries) m.buffer f.list f.at (B.entries ++ D.entries) D.entries (bytes-append B.entries D.entries) g
fits (mark s u k) rs b h i =
    let f = fits k rs (record { list = b.list; at = b.at; next = b.next; slot = s; need = u }) h i in
    record { list = f.list; at = f.at; next = f.next; number = f.number; slot = f.slot; need = f.need }
fits (ite true c d) rs b h i = fits c rs b h i
fits (ite false c d) rs b h i = fits d rs b h i
