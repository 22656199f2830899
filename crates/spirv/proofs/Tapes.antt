-- The buffer of words: words after words, and the words of an instruction.
use Rattle.std.proofs.Common.{◌≡◌, ℕ, zero, suc, ◌+◌, ◌*◌, ◌%◌, ◌^◌, ◌<◌, ◌≤◌, Bool, List, [], ◌∷◌, ◌++◌, map, length, get_or, take, drop, set, sym, refl, ap, ◌∙◌, append-nil, arith, length-append, length-drop, length-set, drop_of_length-le, length-take-le, drop-cons, get_or-take}
use lib.Seq.{sets, sets-eq}
use Rattle.spirv.specs.Instr.{instr, words_of, all_words}
use Rattle.spirv.specs.declared.given.Constant.{Constant}
use Rattle.spirv.specs.declared.page.Tape.{Tape}
use Rattle.spirv.specs.declared.page.Page.{Page}
use Rattle.spirv.specs.Writer.{Given, const_instr, const_instrs, Made, Stores, Opens, Closes, instrs_by}
use Rattle.spirv.specs.Page.{constant, part, settled, put_one, puts, taken, laid, wrote}

pub puts_then : (t : Tape) (xs ys : List ℕ) → puts (puts t xs) ys ≡ puts t (xs ++ ys)
unfolding puts
puts_then t [] ys = refl
puts_then t (x ∷ xs) ys = puts_then (put_one t x) xs ys

pub puts-two : (t u v : Tape) (xs ys : List ℕ) → v ≡ puts u ys → u ≡ puts t xs → v ≡ puts t (xs ++ ys)
puts-two t u v xs ys p q = p ∙ ap (λ (z : Tape). puts z ys) q ∙ puts_then t xs ys

-- what is left to be put after place i
pub puts-next : (t : Tape) (ws : List ℕ) (i : ℕ) → i < length ws → puts (put_one t (get_or ws i 0)) (drop (i + 1) ws) ≡ puts t (drop i ws)
unfolding puts
puts-next t ws i l =
    let up : i + 1 ≡ suc i = omega arith in
    rw (up, drop-cons ws i 0 l)

pub puts-end : (t : Tape) (ws : List ℕ) (i : ℕ) → length ws ≤ i → puts t (drop i ws) ≡ t
unfolding puts
puts-end t ws i l = rw (drop_of_length-le ws l)

-- an instruction: its first word, then its operands in two parts
pub instr-put : (t u v w : Tape) (op h : ℕ) (xs ys : List ℕ) → h ≡ (1 + length xs + length ys) * 65536 + op → u ≡ put_one t h → v ≡ puts u xs → w ≡ puts v ys → w ≡ puts t (words_of (instr op (xs ++ ys)))
unfolding puts words_of
instr-put t u v w op h xs ys e f g k =
    let n : h ≡ suc (length (xs ++ ys)) * 65536 + op = omega (arith, e, length-append xs ys) in
    puts-two u v w xs ys k g ∙ ap (λ (z : Tape). puts z (xs ++ ys)) (f ∙ ap (put_one t) n)

-- a word is the same below 2 ^ 32, wrapped at 2 ^ 64 or not
wrapped : (n : ℕ) → (n + 1) % 18446744073709551616 % 4294967296 ≡ suc n % 4294967296
wrapped n = omega arith

labels-same : (t : Tape) (n c : ℕ)
    → puts t (196855 ∷ ((n + 1) % 2 ^ 64) ∷ 0 ∷ 262394 ∷ c ∷ n ∷ ((n + 1) % 2 ^ 64) ∷ 131320 ∷ n ∷ [])
    ≡ puts t (196855 ∷ suc n ∷ 0 ∷ 262394 ∷ c ∷ n ∷ suc n ∷ 131320 ∷ n ∷ [])
unfolding puts put_one
labels-same t n c = rw (wrapped n)

module _ (p : Page) where
  -- an instruction that makes a value
  pub made-page : (op t : ℕ) (bs xs : List ℕ) (s : Bool) (u : Tape) → u ≡ puts p.words (words_of (instr op (t ∷ p.next ∷ bs ++ xs))) → taken (record p { words = u }) s ≡ wrote p (Made op t (bs ++ xs) s)
  unfolding wrote laid all_words instrs_by
  made-page op t bs xs s u h =
      ap (λ (z : Tape). taken (record p { words = z }) s) (h ∙ ap (puts p.words) (sym (append-nil (words_of (instr op (t ∷ p.next ∷ bs ++ xs))))))

  pub store-page : (u : Tape) (a v : ℕ) → u ≡ puts p.words (words_of (instr 62 (a ∷ v ∷ []))) → record p { words = u } ≡ wrote p (Stores a v)
  unfolding wrote laid all_words instrs_by words_of
  store-page u a v h = ap (λ (z : Tape). record p { words = z }) h

  pub close-page : (u v : Tape) → u ≡ puts p.words (words_of (instr 249 (p.merge ∷ []))) → v ≡ puts u (words_of (instr 248 (p.merge ∷ []))) → record p { words = v } ≡ wrote p Closes
  unfolding wrote laid all_words instrs_by words_of
  close-page u v f g = ap (λ (z : Tape). record p { words = z }) (puts-two _ _ _ _ _ g f)

  pub open-page : (u v w : Tape) (c : ℕ) → u ≡ puts p.words (words_of (instr 247 (((p.next + 1) % 2 ^ 64) ∷ 0 ∷ []))) → v ≡ puts u (words_of (instr 250 (c ∷ p.next ∷ ((p.next + 1) % 2 ^ 64) ∷ []))) → w ≡ puts v (words_of (instr 248 (p.next ∷ [])))
      → record p { next = (p.next + 2) % 2 ^ 64; merge = (p.next + 1) % 2 ^ 64; words = w } ≡ wrote p (Opens c)
  unfolding wrote laid all_words instrs_by words_of
  open-page u v w c f g h =
      ap (λ (z : Tape). record p { next = (p.next + 2) % 2 ^ 64; merge = (p.next + 1) % 2 ^ 64; words = z }) (puts-two _ _ _ _ _ h (puts-two _ _ _ _ _ g f) ∙ labels-same p.words p.next c)

-- ---- the list of constants
module _ (g : Given) (ks : List Constant) where
  -- those from place i on
  abbrev pub consts_at : ℕ → ℕ → List ℕ
  consts_at id i = all_words (const_instrs g id (map constant (drop i ks)))

  pub consts-next : (id i : ℕ) (d : Constant) → i < length ks → (t u whole : Tape) → puts t (consts_at id i) ≡ whole → u ≡ puts t (words_of (const_instr g id (constant (get_or ks i d)))) → puts u (consts_at (id + 1) (i + 1)) ≡ whole
  unfolding const_instrs all_words
  consts-next id i d l t u whole h p =
      let a : i + 1 ≡ suc i = omega arith in
      let b : id + 1 ≡ suc id = omega arith in
      let m : drop i ks ≡ get_or ks i d ∷ drop (suc i) ks = drop-cons ks i d l in
      rw (a, b) (ap (λ (z : Tape). puts z (all_words (const_instrs g (suc id) (map constant (drop (suc i) ks))))) p
      ∙ puts_then t (words_of (const_instr g id (constant (get_or ks i d)))) (all_words (const_instrs g (suc id) (map constant (drop (suc i) ks))))
      ∙ (rw m at h))

  pub consts-end : (id i : ℕ) → length ks ≤ i → (t whole : Tape) → puts t (consts_at id i) ≡ whole → t ≡ whole
  unfolding const_instrs all_words puts
  consts-end id i l t whole h = rw (drop_of_length-le ks l) at h

-- ---- the words are copied

-- the words ws go to place at on: those from the i-th on are left
module _ (ws out₀ : List ℕ) (at : ℕ) where
  abbrev pub Copied : List ℕ → ℕ → Type 0
  Copied out i = (length out ≡ length out₀) × (sets out (at + i) (drop i ws) ≡ sets out₀ at ws)

  pub copy_begin : Copied out₀ 0
  copy_begin = let z : at + 0 ≡ at = omega arith in (refl, rw z)

  pub copy-next : (out : List ℕ) (i x : ℕ) → i < length ws → x ≡ get_or ws i 0 → Copied out i → Copied (set out (at + i) x) (i + 1)
  copy-next out i x l p h =
      let up : i + 1 ≡ suc i = omega arith in
      let on : at + suc i ≡ suc (at + i) = omega arith in
      let there : drop i ws ≡ get_or ws i 0 ∷ drop (suc i) ws = drop-cons ws i 0 l in
      (length-set out (at + i) x ∙ h.0, rw (up, on, p) (rw there at h.1))

  pub copy-end : (out : List ℕ) (i : ℕ) → length ws ≤ i → Copied out i → out ≡ sets out₀ at ws
  copy-end out i l h = rw (drop_of_length-le ws l) at h.1

pub length-map : (f : ℕ → ℕ) (xs : List ℕ) → length (map f xs) ≡ length xs
length-map f [] = refl
length-map f (x ∷ xs) = ap suc (length-map f xs)

get_d_map : (f : ℕ → ℕ) (xs : List ℕ) (i : ℕ) → i < length xs → get_or (map f xs) i 0 ≡ f (get_or xs i 0)
get_d_map f [] i l = absurd (omega arith)
get_d_map f (x ∷ xs) zero l = refl
get_d_map f (x ∷ xs) (suc i) l = get_d_map f xs i (omega arith)

pub settled_at : (first : ℕ) (buf : List ℕ) (n i : ℕ) → i < n → n ≤ length buf → get_or (map (settled first) (take n buf)) i 0 ≡ settled first (get_or buf i 0)
settled_at first buf n i l m = let k = length-take-le n buf m in get_d_map (settled first) (take n buf) i (omega arith) ∙ ap (settled first) (get_or-take n buf i 0 l)

pub settled-length : (first : ℕ) (buf : List ℕ) (n : ℕ) → n ≤ length buf → length (map (settled first) (take n buf)) ≡ n
settled-length first buf n h = length-map (settled first) (take n buf) ∙ length-take-le n buf h

pub copied-part : (new out buf : List ℕ) (at n : ℕ) → new ≡ take n (drop at buf) → n ≤ length out → at + n ≤ length buf → new ++ drop n out ≡ sets out 0 (part buf at n)
unfolding part
copied-part new out buf at n e l m =
    let k : length (take n (drop at buf)) ≡ n = length-take-le n (drop at buf) (rw length-drop (omega arith)) in
    let z : 0 + length (take n (drop at buf)) ≡ n = omega (arith, k) in
    rw e (sym (sets-eq (take n (drop at buf)) out 0 (omega (arith, k)) ∙ ap (λ (j : ℕ). take n (drop at buf) ++ drop j out) z))
