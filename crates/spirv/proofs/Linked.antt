-- What the code's writing comes to, entry after entry, given all constants: the words of the strip's body, its next id, and whether it clashes.
use Rattle.std.proofs.Common.{◌≡◌, ℕ, zero, suc, ◌+◌, ◌*◌, ◌%◌, ◌^◌, ◌<◌, ◌≤◌, Bool, true, false, cond, not, ◌&&◌, ◌||◌, eqb, ltb, List, [], ◌∷◌, ◌++◌, map, length, get_or, set, sym, refl, ap, ◌∙◌, ap₂, true≢false, append_assoc, append-nil, arith, length-set, get_or-set_other, get_or-set_same, ltb-true, eqb-true}
use mathlib.Core.Bool.{false≢true}
use borrow.Author.Tests.{eqb-false}
use Rattle.strip.specs.declared.reader.Entry.{Entry}
use Rattle.strip.specs.declared.reader.Entry.TheVariants as Of
use Rattle.strip.specs.Format.{format_of}
use Rattle.strip.specs.Entry.{kind_of, refs_of}
use Rattle.strip.specs.Shape.{all, makes}
use Rattle.strip.proofs.Tests.{and_left, and_right}
use Rattle.spirv.specs.declared.plan.Name.{Name}
use Rattle.spirv.specs.Opcodes.{op_of}
use Rattle.spirv.specs.Instr.{Instr, words_of, all_words}
use Rattle.spirv.specs.Writer.{Given, lent, type_id, name, name_at, Plan, Silent, Known, Made, Stores, Opens, Closes, planned, first_sign, sign_of, operation, casting, plan_of, Midway, midway, instrs_by, after, stepped, body_from, last_from, clashes, clash_from}
use Rattle.spirv.specs.declared.page.Tape.{Tape}
use Rattle.spirv.specs.declared.page.Page.{Page}
use Rattle.spirv.specs.Page.{look_of, puts, named, laid, wrote, clashed, entered}
use Rattle.spirv.proofs.Tapes.{puts_then}
use Rattle.spirv.proofs.Typing.{named-there}
use Rattle.spirv.proofs.Naming.{naming, Names, plan-names}
use Rattle.spirv.proofs.Entries.{Fair}
use Rattle.spirv.proofs.Simulation.{FairFrom}

-- ---- a plan, and 17, look only at the entry's references
module _ (look look' : ℕ → Name) where
  abbrev pub Same : List ℕ → Type 0
  Same [] = Unit {0}
  Same (r ∷ rs) = (look r ≡ look' r) × Same rs

  first-same : (ks rs : List ℕ) → Same rs → first_sign look ks rs ≡ first_sign look' ks rs
  unfolding first_sign
  first-same [] rs h = refl
  first-same (k ∷ ks) [] h = refl
  first-same (k ∷ ks) (r ∷ rs) h = rw (h.0, first-same ks rs h.1)

  ids-same : (rs : List ℕ) → Same rs → map (λ r. (look r).id) rs ≡ map (λ r. (look' r).id) rs
  ids-same [] h = refl
  ids-same (r ∷ rs) h = rw h.0 (ap (λ (l : List ℕ). (look' r).id ∷ l) (ids-same rs h.1))

  operation-same : (g : Given) (k : ℕ) (rs : List ℕ) → Same rs → operation g look k rs ≡ operation g look' k rs
  unfolding operation sign_of
  operation-same g k rs h =
      ap₂ (λ (s : Bool) (xs : List ℕ). planned (lent g 4) (op_of k) (type_id g (format_of k).result s) xs s) (ap (λ (s : Bool). eqb (format_of k).result 1 && s) (first-same (format_of k).operands rs h)) (ids-same rs h)

  pub plan-same : (g : Given) (e : Entry) → Same (refs_of e) → plan_of g look e ≡ plan_of g look' e
  unfolding plan_of refs_of casting
  plan-same g (Of.Bare k) h = refl
  plan-same g (Of.Word w) h = refl
  plan-same g (Of.Cell k n) h = refl
  plan-same g (Of.Store k n r) h = rw h.0
  plan-same g (Of.One k a) h = rw (h.0, operation-same g k (a ∷ []) h)
  plan-same g (Of.Two k a b) h = operation-same g k (a ∷ b ∷ []) h
  plan-same g (Of.Three k a b c) h = operation-same g k (a ∷ b ∷ c ∷ []) h
  plan-same g (Of.Four k a b c d) h = rw (operation-same g k (a ∷ b ∷ c ∷ d ∷ []) h, h.0, h.1.0, h.1.1.0, h.1.1.1.0)

  pub clash-same : (g : Given) (e : Entry) → Same (refs_of e) → clashes g look e ≡ clashes g look' e
  unfolding clashes refs_of
  clash-same g (Of.Bare k) h = refl
  clash-same g (Of.Word w) h = refl
  clash-same g (Of.Cell k n) h = refl
  clash-same g (Of.Store k n r) h = rw h.0
  clash-same g (Of.One k a) h = refl
  clash-same g (Of.Two k a b) h = refl
  clash-same g (Of.Three k a b c) h = rw (h.1.0, h.1.1.0)
  clash-same g (Of.Four k a b c d) h = rw (h.0, h.1.0)

  same-below : (n : ℕ) → ((r : ℕ) → r < n → look r ≡ look' r) → (rs : List ℕ) → all (λ r. ltb r n) rs ≡ true → Same rs
  same-below n h [] p = tt
  same-below n h (r ∷ rs) p = (h r (ltb-true r n (and_left (ltb r n) _ p)), same-below n h rs (and_right (ltb r n) _ p))

-- ---- the page beside the writer's point
pub record Like (m : Midway) (p : Page) : Type 0 where
  pub next : p.next ≡ m.next
  pub merge : p.merge ≡ m.merge
  pub values : p.values ≡ length m.names
  pub names : (r : ℕ) → r < length m.names → look_of p.names r ≡ name_at m.names r
  pub full : length p.names ≡ 64

length-snoc : (ns : List Name) (x : Name) → length (ns ++ (x ∷ [])) ≡ suc (length ns)
length-snoc [] x = refl
length-snoc (n ∷ ns) x = ap suc (length-snoc ns x)

name-old : (ns : List Name) (x : Name) (r : ℕ) → r < length ns → name_at (ns ++ (x ∷ [])) r ≡ name_at ns r
unfolding name_at
name-old [] x r l = absurd (omega arith)
name-old (n ∷ ns) x zero l = refl
name-old (n ∷ ns) x (suc r) l = name-old ns x r (omega arith)

name_new : (ns : List Name) (x : Name) → name_at (ns ++ (x ∷ [])) (length ns) ≡ x
unfolding name_at
name_new [] x = refl
name_new (n ∷ ns) x = name_new ns x

-- one name more
module _ (m : Midway) (p : Page) (x : Name) (k : Like m p) (s : length m.names < 64) where
  at-end : length m.names % 64 ≡ length m.names
  at-end = omega arith

  named-at : (r : ℕ) → r < suc (length m.names) → look_of (set p.names (length m.names) x) r ≡ name_at (m.names ++ (x ∷ [])) r
  named-at r h =
      let low : r % 64 ≡ r = omega arith in
      rw low (go (eqb r (length m.names)) refl)
    where
      go : (b : Bool) → eqb r (length m.names) ≡ b → get_or (set p.names (length m.names) x) r (name 0 false) ≡ name_at (m.names ++ (x ∷ [])) r
      go true e =
          let is = eqb-true r (length m.names) e in
          let a = k.full in
          rw (is, get_or-set_same p.names (length m.names) x (name 0 false) (omega arith)) (sym (name_new m.names x))
      go false e =
          let ne = eqb-false r (length m.names) e in
          let below : r < length m.names = omega (arith, ne) in
          let low : r % 64 ≡ r = omega arith in
          let old : get_or p.names r (name 0 false) ≡ name_at m.names r = rw low at (k.names r below) in
          rw (get_or-set_other p.names (length m.names) r x (name 0 false) ne) (old ∙ sym (name-old m.names x r below))

  like-named : (n n' j j' : ℕ) (t : Tape) → n' ≡ n → j' ≡ j
      → Like (midway n (m.names ++ (x ∷ [])) j) (named (record p { next = n'; merge = j'; words = t }) x)
  unfolding named
  like-named n n' j j' t a b =
      let v = k.values in
      let u : p.values % 64 ≡ length m.names = rw v at-end in
      let more : p.values % 64 + 1 ≡ suc (length m.names) = omega arith in
      record {
        next = a;
        merge = b;
        values = more ∙ sym (length-snoc m.names x);
        names = λ r h. rw u (named-at r (rw (length-snoc m.names x) at h));
        full = length-set p.names (p.values % 64) x ∙ k.full;
      }

-- the words of a plan need the next id and the merge label alone
instrs-same : (m : Midway) (i l : ℕ) → i ≡ m.next → l ≡ m.merge → (plan : Plan) → instrs_by (midway i [] l) plan ≡ instrs_by m plan
unfolding instrs_by
instrs-same m i l a b Silent = refl
instrs-same m i l a b (Known x) = refl
instrs-same m i l a b (Made op t xs s) = rw a
instrs-same m i l a b (Stores p v) = refl
instrs-same m i l a b (Opens c) = rw a
instrs-same m i l a b Closes = rw b

-- a plan on both sides
module _ (m : Midway) (p : Page) (k : Like m p) (s : length m.names < 64) (h : m.next + 2 < 2 ^ 64) where
  laid-words : (plan : Plan) → puts p.words (all_words (instrs_by (midway p.next [] p.merge) plan)) ≡ puts p.words (all_words (instrs_by m plan))
  laid-words plan = ap (λ (is : List Instr). puts p.words (all_words is)) (instrs-same m p.next p.merge k.next k.merge plan)

  wrote-words : (plan : Plan) → (wrote p plan).words ≡ puts p.words (all_words (instrs_by m plan))
  unfolding wrote named laid instrs_by all_words puts
  wrote-words Silent = refl
  wrote-words (Known x) = refl
  wrote-words (Made op t xs b) = laid-words (Made op t xs b)
  wrote-words (Stores a v) = laid-words (Stores a v)
  wrote-words (Opens c) = laid-words (Opens c)
  wrote-words Closes = laid-words Closes

  wrote-clash : (plan : Plan) → (wrote p plan).clash ≡ p.clash
  unfolding wrote named laid
  wrote-clash Silent = refl
  wrote-clash (Known x) = refl
  wrote-clash (Made op t xs b) = refl
  wrote-clash (Stores a v) = refl
  wrote-clash (Opens c) = refl
  wrote-clash Closes = refl

  wrote-like : (plan : Plan) → Like (after m plan) (wrote p plan)
  unfolding wrote after laid
  wrote-like Silent = k
  wrote-like (Known x) = like-named m p x k s m.next p.next m.merge p.merge p.words k.next k.merge
  wrote-like (Made op t xs b) =
      let n = k.next in
      let up : (p.next + 1) % 2 ^ 64 ≡ suc m.next = rw n (omega arith) in
      rw n (like-named m p (name m.next b) k s (suc m.next) ((m.next + 1) % 2 ^ 64) m.merge p.merge _ (rw n at up) k.merge)
  wrote-like (Stores a v) = record { next = k.next; merge = k.merge; values = k.values; names = k.names; full = k.full }
  wrote-like (Opens c) =
      let n = k.next in
      let one : (p.next + 1) % 2 ^ 64 ≡ suc m.next = rw n (omega arith) in
      let two : (p.next + 2) % 2 ^ 64 ≡ suc (suc m.next) = rw n (omega arith) in
      record { next = two; merge = one; values = k.values; names = k.names; full = k.full }
  wrote-like Closes = record { next = k.next; merge = k.merge; values = k.values; names = k.names; full = k.full }

-- 17 changes nothing but itself
clashed-like : (m : Midway) (p : Page) (b : Bool) → Like m p → Like m (clashed b p)
unfolding clashed
clashed-like m p true k = record { next = k.next; merge = k.merge; values = k.values; names = k.names; full = k.full }
clashed-like m p false k = k

clashed-words : (p : Page) (b : Bool) → (clashed b p).words ≡ p.words
unfolding clashed
clashed-words p true = refl
clashed-words p false = refl

clashed-met : (p : Page) (a b : Bool) → p.clash ≡ a → (clashed b p).clash ≡ a || b
unfolding clashed
clashed-met p true true h = refl
clashed-met p true false h = h
clashed-met p false true h = refl
clashed-met p false false h = h

-- an entry's references are known alike on both sides, and it leads to the same place
pub refs-same : (g : Given) (before : List ℕ) (m : Midway) (p : Page) → Like m p → length m.names ≡ length before → (e : Entry) → Fair g before e → Same (look_of p.names) (name_at m.names) (refs_of e)
refs-same g before m p k l e f =
    same-below (look_of p.names) (name_at m.names) (length m.names) k.names (refs_of e) (named-there before (length m.names) (sym l) (format_of (kind_of e)).operands (refs_of e) f.refs)

pub entry-like : (g : Given) (m : Midway) (p : Page) → Like m p → length m.names < 64 → m.next + 2 < 2 ^ 64 → (e : Entry) → Same (look_of p.names) (name_at m.names) (refs_of e) → Like (stepped g m e) (entered g p e)
unfolding entered
entry-like g m p k s h e refs =
    rw (plan-same (look_of p.names) (name_at m.names) g e refs)
    (clashed-like (after m (plan_of g (name_at m.names) e)) (wrote p (plan_of g (name_at m.names) e)) (clashes g (look_of p.names) e) (wrote-like m p k s h (plan_of g (name_at m.names) e)))

-- ---- as many names as the shape test counts values
pub names-grow : (m : Midway) (plan : Plan) (k : ℕ) (before : List ℕ) → Names k plan → length m.names ≡ length before → length (after m plan).names ≡ length (before ++ cond (eqb (format_of k).result 0) [] ((format_of k).result ∷ []))
unfolding after naming
names-grow m plan k before h l = go plan (eqb (format_of k).result 0) h
  where
    length_last : (xs : List ℕ) (y : ℕ) → length (xs ++ (y ∷ [])) ≡ suc (length xs)
    length_last [] y = refl
    length_last (x ∷ xs) y = ap suc (length_last xs y)

    none_more : length m.names ≡ length (before ++ [])
    none_more = rw (append-nil before) l

    one_more : (x : Name) (j : ℕ) → length (m.names ++ (x ∷ [])) ≡ length (before ++ (j ∷ []))
    one_more x j = length-snoc m.names x ∙ ap suc l ∙ sym (length_last before j)

    go : (plan : Plan) (b : Bool) → naming plan ≡ not b → length (after m plan).names ≡ length (before ++ cond b [] ((format_of k).result ∷ []))
    go Silent true h = none_more
    go Silent false h = absurd (false≢true h)
    go (Known x) true h = absurd (true≢false h)
    go (Known x) false h = one_more x _
    go (Made op t xs s) true h = absurd (true≢false h)
    go (Made op t xs s) false h = one_more _ _
    go (Stores p v) true h = none_more
    go (Stores p v) false h = absurd (false≢true h)
    go (Opens c) true h = none_more
    go (Opens c) false h = absurd (false≢true h)
    go Closes true h = none_more
    go Closes false h = absurd (false≢true h)

pub next_grows : (m : Midway) (plan : Plan) → (m.next ≤ (after m plan).next) × ((after m plan).next ≤ m.next + 2)
unfolding after
next_grows m Silent = (omega arith, omega arith)
next_grows m (Known x) = (omega arith, omega arith)
next_grows m (Made op t xs s) = (omega arith, omega arith)
next_grows m (Stores p v) = (omega arith, omega arith)
next_grows m (Opens c) = (omega arith, omega arith)
next_grows m Closes = (omega arith, omega arith)

pub names-le : (m : Midway) (plan : Plan) → length (after m plan).names ≤ suc (length m.names)
unfolding after
names-le m Silent = omega arith
names-le m (Known x) = let h = length-snoc m.names x in omega arith
names-le m (Made op t xs s) = let h = length-snoc m.names (name m.next s) in omega arith
names-le m (Stores p v) = omega arith
names-le m (Opens c) = omega arith
names-le m Closes = omega arith

pub words_append : (is js : List Instr) → all_words (is ++ js) ≡ all_words is ++ all_words js
unfolding all_words
words_append [] js = refl
words_append (i ∷ is) js = ap (λ (l : List ℕ). words_of i ++ l) (words_append is js) ∙ sym (append_assoc (words_of i) (all_words is) (all_words js))

-- ---- all entries
module _ (g : Given) where
  unfoldable pub entered_all : Page → List Entry → Page
  entered_all p [] = p
  entered_all p (e ∷ es) = entered_all (entered g p e) es

  pub record Links (p q : Page) (m : Midway) (es : List Entry) : Type 0 where
    pub words : q.words ≡ puts p.words (all_words (body_from g m es))
    pub next : q.next ≡ (last_from g m es).next
    pub clash : q.clash ≡ p.clash || clash_from g m es

  or_assoc : (a b c : Bool) → (a || b) || c ≡ a || (b || c)
  or_assoc true b c = refl
  or_assoc false b c = refl

  or-none : (a : Bool) → a ≡ a || false
  or-none true = refl
  or-none false = refl

  pub linked : (cs : List ℕ) (es : List Entry) (before : List ℕ) (m : Midway) (p : Page) → Like m p → FairFrom g cs before es → length m.names ≡ length before → length m.names + length es ≤ 64 → m.next + 2 * length es < 2 ^ 64
      → Links p (entered_all p es) m es
  unfolding entered_all body_from last_from clash_from all_words puts makes entered
  linked cs [] before m p k f l c n = record { words = refl; next = k.next; clash = or-none p.clash }
  linked cs (e ∷ es) before m p k f l c n =
      let room : length m.names < 64 = omega arith in
      let look : ℕ → Name = look_of p.names in
      let plan : Plan = plan_of g (name_at m.names) e in
      let bad : Bool = clashes g (name_at m.names) e in
      let there = named-there before (length m.names) (sym l) (format_of (kind_of e)).operands (refs_of e) f.0.refs in
      let refs = same-below look (name_at m.names) (length m.names) k.names (refs_of e) there in
      let up = next_grows m plan in
      let most = names-le m plan in
      let q : Page = clashed bad (wrote p plan) in
      let is : entered g p e ≡ q = ap₂ (λ (b : Bool) (z : Plan). clashed b (wrote p z)) (clash-same look (name_at m.names) g e refs) (plan-same look (name_at m.names) g e refs) in
      let ih = linked cs es (before ++ makes e) (after m plan) q (clashed-like (after m plan) (wrote p plan) bad (wrote-like m p k room (omega arith) plan)) f.1 (names-grow m plan (kind_of e) before (plan-names g (name_at m.names) e f.0.body) l) (omega arith) (omega arith) in
      record {
        words = ap (λ (z : Page). (entered_all z es).words) is
            ∙ ih.words
            ∙ ap (λ (t : Tape). puts t (all_words (body_from g (after m plan) es))) (clashed-words (wrote p plan) bad ∙ wrote-words m p k room (omega arith) plan)
            ∙ puts_then p.words (all_words (instrs_by m plan)) (all_words (body_from g (after m plan) es))
            ∙ ap (puts p.words) (sym (words_append (instrs_by m plan) (body_from g (after m plan) es)));
        next = ap (λ (z : Page). (entered_all z es).next) is ∙ ih.next;
        clash = ap (λ (z : Page). (entered_all z es).clash) is
            ∙ ih.clash
            ∙ ap (λ (b : Bool). b || clash_from g (after m plan) es) (clashed-met (wrote p plan) p.clash bad (wrote-clash m p k room (omega arith) plan))
            ∙ or_assoc p.clash bad (clash_from g (after m plan) es);
      }
