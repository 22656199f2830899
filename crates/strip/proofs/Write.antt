-- Laws of writing: there is room or there is none, and what is written is read back.
use Rattle.std.specs.Prelude.{Option, Some, None}
use mathlib.Core.Path.{◌≡◌, refl, ap, ◌∙◌, sym}
use mathlib.Core.Bool.{Bool, true, false, cond}
use mathlib.Core.List.{List, [], ◌∷◌, ◌++◌, append_assoc}
use Prim.Native.Nat.{ℕ, suc, ◌+◌, ◌-◌, ◌≤◌, ◌<◌}
use native.Mathlib.Omega.{arith}
use lib.ListN.{length, take, drop, set}
use borrow.Rule.Slice.PartMut.{put_mid}
use lib.Seq.{sets, sets-eq, length-sets, drop-drop, drop_at, length-take-le}
use borrow.Author.Tests.{le-leb, lt-leb, leb-true}
use Rattle.strip.specs.declared.reader.Entry.{Entry}
use Rattle.strip.specs.Entry.{number_bytes, refs_bytes, encode, read_entry, Formed}
use Rattle.strip.specs.Write.{has_room, written_list, written_answer, Puts, Writes}
use Rattle.strip.proofs.Encode.{number-length, read_back}

-- bytes that are put leave the length
pub same : {s s' : List ℕ} {i n : ℕ} {bytes : List ℕ} → Puts s i bytes s' → length s ≡ n → length s' ≡ n
same {s} {s'} {i} {n} {bytes} p q = ap length p.is ∙ length-sets s i bytes ∙ q

pub within : {s s' : List ℕ} {i n : ℕ} {bytes : List ℕ} → Puts s i bytes s' → n ≤ length s → n ≤ length s'
within {s} {s'} p h = let e : length s' ≡ length s = same p refl in omega arith

-- bytes, and then bytes after them
pub sets-append : (xs ys l : List ℕ) (i j : ℕ) → j ≡ i + length xs → sets (sets l i xs) j ys ≡ sets l i (xs ++ ys)
sets-append [] ys l i j e = let h : j ≡ i = omega arith in rw h
sets-append (x ∷ xs) ys l i j e = sets-append xs ys (set l i x) (suc i) j (omega arith)

pub puts-after : {s s' bytes : List ℕ} {i x : ℕ} → Puts (set s i x) (i + 1) bytes s' → Puts s i (x ∷ bytes) s'
puts-after {s} {s'} {bytes} {i} {x} p = let next : i + 1 ≡ suc i = omega arith in record { is = p.is ∙ ap (λ (j : ℕ). sets (set s i x) j bytes) next }

pub puts-after-two : {s s' bytes : List ℕ} {i x y : ℕ} → Puts (set (set s i x) (i + 1) y) (i + 2) bytes s' → Puts s i (x ∷ y ∷ bytes) s'
puts-after-two {s} {s'} {bytes} {i} {x} {y} p =
    let one : i + 1 ≡ suc i = omega arith in
    let two : i + 2 ≡ suc (suc i) = omega arith in
    record { is = p.is ∙ (rw (one, two) refl) }

-- bytes that are copied to a part of the list
pub puts-part : (s bytes b : List ℕ) (i k : ℕ) → b ≡ bytes → k ≡ length bytes → i + k ≤ length s → Puts s i bytes (put_mid i k s b)
puts-part s bytes b i k e h room = record { is = rw (e, h) (ap (λ (l : List ℕ). take i s ++ (bytes ++ l)) (drop-drop (length bytes) i s) ∙ sym (append_assoc (take i s) bytes (drop (i + length bytes) s)) ∙ sym (sets-eq bytes s i (omega arith))) }

-- bytes, and then those after them
pub puts-append : {s s' s'' xs ys : List ℕ} {i j : ℕ} → j ≡ i + length xs → Puts s i xs s' → Puts s' j ys s'' → Puts s i (xs ++ ys) s''
puts-append {s} {s'} {s''} {xs} {ys} {i} {j} e p q = record { is = q.is ∙ ap (λ (l : List ℕ). sets l j ys) p.is ∙ sets-append xs ys s i j e }

-- a reference, and then those after it
pub puts-ref : {s s' s'' : List ℕ} {i j : ℕ} (len r : ℕ) (rs : List ℕ) → j ≡ i + len → Puts s i (number_bytes len r) s' → Puts s' j (refs_bytes len rs) s'' → Puts s i (refs_bytes len (r ∷ rs)) s''
puts-ref {s} {s'} {s''} {i} {j} len r rs e p q = puts-append (e ∙ ap (λ (n : ℕ). i + n) (sym (number-length len r))) p q

-- no reference more
pub puts-end : {s : List ℕ} {i : ℕ} (len : ℕ) → Puts s i (refs_bytes len []) s
puts-end len = record { is = refl }

module _ (len : ℕ) where
  pub none : (s : List ℕ) (i : ℕ) (e : Entry) (size : ℕ) → length (encode len e) ≡ size → length s - i < size → Writes len s i e s None
  unfolding written_list written_answer has_room
  none s i e size q h = let f = lt-leb (i + length (encode len e)) (length s) (omega arith) in record { list = rw f; says = rw f }

  pub put : (s : List ℕ) (i : ℕ) (e : Entry) {s' : List ℕ} (size : ℕ) → length (encode len e) ≡ size → i + size ≤ length s → Puts s i (encode len e) s' → Writes len s i e s' (Some size)
  unfolding written_list written_answer has_room
  put s i e size q h p = let f = le-leb (i + length (encode len e)) (length s) (omega arith) in record { list = rw (p.is, f); says = rw (f, q) }

  -- what is put where there is room is read back, with its length: the writer and the reader agree
  pub read-put : (s s' : List ℕ) (i : ℕ) (e : Entry) → Formed len e → i + length (encode len e) ≤ length s → Puts s i (encode len e) s' → read_entry len (drop i s') ≡ Some (e, length (encode len e))
  read-put s s' i e f room p =
      let rest : List ℕ = drop (i + length (encode len e)) s in
      let at : drop i s' ≡ encode len e ++ rest =
      ap (drop i) (p.is ∙ sets-eq (encode len e) s i room ∙ append_assoc (take i s) (encode len e) rest) ∙ drop_at (take i s) (encode len e ++ rest) i (length-take-le i s (omega arith))
      in
      ap (read_entry len) at ∙ read_back len e f rest

  -- and so is what is written
  pub read-written : (s s' : List ℕ) (i n : ℕ) (e : Entry) → Formed len e → Writes len s i e s' (Some n) → read_entry len (drop i s') ≡ Some (e, n)
  unfolding written_list written_answer has_room
  read-written s s' i n e f w = go (has_room len s i e) refl w.list w.says
    where
      go : (b : Bool) → has_room len s i e ≡ b → s' ≡ cond b (sets s i (encode len e)) s → Some n ≡ cond b (Some (length (encode len e))) None → read_entry len (drop i s') ≡ Some (e, n)
      go true h l a = read-put s s' i e f (leb-true _ _ h) (record { is = l }) ∙ let q : length (encode len e) ≡ n = cc in ap (λ (m : ℕ). Some (e, m)) q
      go false h l a = let z : ◌≡◌ {A = ℕ} 0 1 = cc in absurd (omega arith)

-- where there is room, the bytes stand
pub in-room : {len : ℕ} {s s' : List ℕ} {i : ℕ} {e : Entry} {r : Option ℕ} → Writes len s i e s' r → i + length (encode len e) ≤ length s → s' ≡ sets s i (encode len e)
unfolding written_list has_room
in-room {len} {s} {s'} {i} {e} w h = rw (w.list, le-leb (i + length (encode len e)) (length s) h)
