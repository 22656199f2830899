-- Along a strip's body, for what is to be shown of its instructions alone: an entry opens the block, closes it, ends the strip, or does none of them.
use Rattle.std.proofs.Common.{◌≡◌, ℕ, Bool, true, false, cond, not, ◌&&◌, ◌||◌, eqb, List, [], ◌∷◌, ◌++◌, sym, refl, ap, ◌∙◌, subst, eqb-true}
use mathlib.Core.Bool.{xor, false≢true}
use borrow.Author.Tests.{not-true}
use Rattle.strip.specs.declared.reader.Entry.{Entry}
use Rattle.strip.specs.declared.reader.Entry.TheVariants as Of
use Rattle.strip.specs.Format.{format_of}
use Rattle.strip.specs.Entry.{kind_of, body_of, Each, Formed, wide}
use Rattle.strip.specs.Shape.{all, is_open, is_close, is_end, end_alone}
use Rattle.strip.proofs.Tests.{among, and_left, and_right}
use Rattle.strip.proofs.Table.{body_number}
use Rattle.evaluation.proofs.Laws.{cond-all}
use Rattle.spirv.specs.declared.opcodes.Op.{Op}
use Rattle.spirv.specs.declared.opcodes.Op.TheVariants.{Core, Glsl}
use Rattle.spirv.specs.declared.plan.Name.{Name}
use Rattle.spirv.specs.Instr.{Instr, instr}
use Rattle.spirv.specs.Opcodes.{Row, rows, lookup, op_of}
use Rattle.spirv.specs.Valid.{declares}
use Rattle.spirv.specs.Writer.{Const, Given, lent, const_instr, name_at, id_at, Plan, Silent, Known, Made, Stores, Opens, Closes, planned, operation, casting, plan_of, Midway, instrs_by, after, stepped, body_from, last_from}
use Rattle.spirv.proofs.Keys.{kinds_of, kind-among}

-- ---- open, close and end
abbrev pub nothing_left : List Entry → Bool
nothing_left [] = true
nothing_left (e ∷ es) = false

-- blocks in order, in a block or before one
unfoldable pub blocks : Bool → List Entry → Bool
blocks i [] = false
blocks i (e ∷ es) = cond (is_open e) (not i && blocks true es) (cond (is_close e) (i && end_alone es) (cond (is_end e) (not i && nothing_left es) (blocks i es)))

wrong-kind : (k j : ℕ) (e : Entry) → (format_of k).body ≡ body_of e → eqb k j ≡ true → among (kinds_of (body_number (body_of e))) j ≡ true
wrong-kind k j e b p = rw (eqb-true k j p) at (kind-among k e b)

pub open_is : (e : Entry) → (format_of (kind_of e)).body ≡ body_of e → is_open e ≡ true → (a : ℕ) × (e ≡ Of.One 100 a)
unfolding kind_of body_of body_number
open_is (Of.Bare k) b p = absurd (false≢true (wrong-kind k 100 (Of.Bare k) b p))
open_is (Of.Word w) b p = absurd (false≢true p)
open_is (Of.Cell k n) b p = absurd (false≢true (wrong-kind k 100 (Of.Cell k n) b p))
open_is (Of.Store k n r) b p = absurd (false≢true (wrong-kind k 100 (Of.Store k n r) b p))
open_is (Of.One k a) b p = (a, ap (λ (j : ℕ). Of.One j a) (eqb-true k 100 p))
open_is (Of.Two k x y) b p = absurd (false≢true (wrong-kind k 100 (Of.Two k x y) b p))
open_is (Of.Three k x y z) b p = absurd (false≢true (wrong-kind k 100 (Of.Three k x y z) b p))
open_is (Of.Four k x y z u) b p = absurd (false≢true (wrong-kind k 100 (Of.Four k x y z u) b p))

-- a bare kind
pub bare-is : (j : ℕ) → eqb j 101 || eqb j 255 ≡ true → (e : Entry) → (format_of (kind_of e)).body ≡ body_of e → eqb (kind_of e) j ≡ true → e ≡ Of.Bare j
unfolding kind_of body_of body_number
bare-is j h e b p = go (eqb j 101) refl h e b p
  where
    no : (n : ℕ) → among (kinds_of n) 101 ≡ false → among (kinds_of n) 255 ≡ false → among (kinds_of n) j ≡ true → ⊥
    no n x y z = pick (eqb j 101) refl h
      where
        pick : (t : Bool) → eqb j 101 ≡ t → t || eqb j 255 ≡ true → ⊥
        pick true q r = false≢true (sym x ∙ (rw (eqb-true j 101 q) at z))
        pick false q r = false≢true (sym y ∙ (rw (eqb-true j 255 r) at z))

    go : (t : Bool) → eqb j 101 ≡ t → t || eqb j 255 ≡ true → (e : Entry) → (format_of (kind_of e)).body ≡ body_of e → eqb (kind_of e) j ≡ true → e ≡ Of.Bare j
    go t q r (Of.Bare k) b p = ap Of.Bare (eqb-true k j p)
    go t q r (Of.Word w) b p = absurd (no 2 refl refl (wrong-kind 1 j (Of.Word w) b p))
    go t q r (Of.Cell k n) b p = absurd (no 3 refl refl (wrong-kind k j (Of.Cell k n) b p))
    go t q r (Of.Store k n a) b p = absurd (no 4 refl refl (wrong-kind k j (Of.Store k n a) b p))
    go t q r (Of.One k a) b p = absurd (no 5 refl refl (wrong-kind k j (Of.One k a) b p))
    go t q r (Of.Two k x y) b p = absurd (no 6 refl refl (wrong-kind k j (Of.Two k x y) b p))
    go t q r (Of.Three k x y z) b p = absurd (no 7 refl refl (wrong-kind k j (Of.Three k x y z) b p))
    go t q r (Of.Four k x y z u) b p = absurd (no 8 refl refl (wrong-kind k j (Of.Four k x y z u) b p))

-- ---- opcodes that make a value in a block
unfoldable calm_code : ℕ → Bool
calm_code n = not (declares n) && (not (eqb n 62) && (not (eqb n 247) && (not (eqb n 248) && (not (eqb n 249) && not (eqb n 250)))))

pub record Calm (n : ℕ) : Type 0 where
  pub constant : declares n ≡ false
  pub store : eqb n 62 ≡ false
  pub merge : eqb n 247 ≡ false
  pub label : eqb n 248 ≡ false
  pub branch : eqb n 249 ≡ false
  pub conditional : eqb n 250 ≡ false

calm-is : (n : ℕ) → calm_code n ≡ true → Calm n
unfolding calm_code
calm-is n h =
    let h1 = and_right (not (declares n)) _ h in
    let h2 = and_right (not (eqb n 62)) _ h1 in
    let h3 = and_right (not (eqb n 247)) _ h2 in
    let h4 = and_right (not (eqb n 248)) _ h3 in
    record {
      constant = not-true (declares n) (and_left (not (declares n)) _ h);
      store = not-true (eqb n 62) (and_left (not (eqb n 62)) _ h1);
      merge = not-true (eqb n 247) (and_left (not (eqb n 247)) _ h2);
      label = not-true (eqb n 248) (and_left (not (eqb n 248)) _ h3);
      branch = not-true (eqb n 249) (and_left (not (eqb n 249)) _ h4);
      conditional = not-true (eqb n 250) (and_right (not (eqb n 249)) _ h4);
    }

unfoldable calm_op : Op → Bool
calm_op (Core n) = calm_code n
calm_op (Glsl n) = true

calm-all : (rs : List Row) → all (λ r. calm_op r.op) rs ≡ true → (k : ℕ) → calm_op (lookup rs k) ≡ true
unfolding calm_op calm_code
calm-all [] h k = refl
calm-all (r ∷ rs) h k = cond-all (λ (o : Op). calm_op o ≡ true) (eqb k r.kind) r.op (lookup rs k) (and_left (calm_op r.op) _ h) (calm-all rs (and_right (calm_op r.op) _ h) k)

calm-op : (k : ℕ) → calm_op (op_of k) ≡ true
unfolding op_of calm_op calm_code
calm-op k = calm-all rows refl k

-- ---- plans that neither open nor close
abbrev pub Straight : Plan → Type 0
Straight Silent = Unit {0}
Straight (Known n) = Unit {0}
Straight (Made op t xs b) = Calm op
Straight (Stores p v) = Unit {0}
Straight (Opens c) = ⊥
Straight Closes = ⊥

straight-op : (l : ℕ) (op : Op) (t : ℕ) (xs : List ℕ) (b : Bool) → calm_op op ≡ true → Straight (planned l op t xs b)
unfolding planned calm_op calm_code
straight-op l (Core n) t xs b h = calm-is n h
straight-op l (Glsl n) t xs b h = calm-is 12 refl

pub straight : (g : Given) (ns : ℕ → Name) (e : Entry) → is_open e ≡ false → is_close e ≡ false → Straight (plan_of g ns e)
unfolding plan_of operation casting kind_of calm_code
straight g ns (Of.Bare k) o c = cond-all Straight (eqb k 2 || eqb k 3) _ _ tt (rw c tt)
straight g ns (Of.Word w) o c = tt
straight g ns (Of.Cell k n) o c = cond-all Straight (eqb k 10) _ _ tt (cond-all Straight (eqb k 110) _ _ tt (calm-is 61 refl))
straight g ns (Of.Store k n r) o c = tt
straight g ns (Of.One k a) o c =
    cond-all Straight (eqb k 12) _ _ (calm-is 61 refl)
    (rw o (cond-all Straight (eqb k 23 || eqb k 24) _ _ (cond-all Straight (xor (eqb k 23) (ns a).signed) _ _ (straight-op (lent g 4) (op_of k) _ _ _ (calm-op k)) tt) (straight-op (lent g 4) (op_of k) _ _ _ (calm-op k))))
straight g ns (Of.Two k a b) o c = straight-op (lent g 4) (op_of k) _ _ _ (calm-op k)
straight g ns (Of.Three k a b d) o c = straight-op (lent g 4) (op_of k) _ _ _ (calm-op k)
straight g ns (Of.Four k a b d f) o c = cond-all Straight (eqb k 11) _ _ (calm-is 65 refl) (straight-op (lent g 4) (op_of k) _ _ _ (calm-op k))

-- ---- one constant, by its kind
pub const-all : (g : Given) (i : ℕ) (k : Const) (P : Instr → Type 0) → P (instr 43 (lent g 0 ∷ i ∷ k.bits ∷ [])) → P (instr 41 (lent g 2 ∷ i ∷ [])) → P (instr 42 (lent g 2 ∷ i ∷ [])) → P (const_instr g i k)
const-all g i k P w t f = cond-all P (eqb k.kind 1) _ _ w (cond-all P (eqb k.kind 2) _ _ t f)

-- ---- one entry, before the others
abbrev pub Bodied : Entry → Type 0
Bodied e = (format_of (kind_of e)).body ≡ body_of e

pub bodied : (es : List Entry) → Each (Formed wide) es → Each Bodied es
bodied [] f = tt
bodied (e ∷ es) f = (f.0.body, bodied es f.1)

-- by cases: an open, the close, the end, another entry
pub by_turn : (Q : Bool → Entry → List Entry → Type 0)
    → ((a : ℕ) (es : List Entry) → blocks true es ≡ true → Q false (Of.One 100 a) es)
    → Q true (Of.Bare 101) (Of.Bare 255 ∷ [])
    → Q false (Of.Bare 255) []
    → ((i : Bool) (e : Entry) (es : List Entry) → is_open e ≡ false → is_close e ≡ false → blocks i es ≡ true → Q i e es)
    → (i : Bool) (e : Entry) (es : List Entry) → Each Bodied (e ∷ es) → blocks i (e ∷ es) ≡ true → Q i e es
unfolding blocks
by_turn Q opens closes ends goes i e es f h = go i (is_open e) refl (is_close e) refl (is_end e) refl h
  where
    last : (es : List Entry) → Each Bodied es → end_alone es ≡ true → Q true (Of.Bare 101) es
    last [] f h = absurd (false≢true h)
    last (d ∷ []) f h = subst (λ (d : Entry). Q true (Of.Bare 101) (d ∷ [])) (sym (bare-is 255 refl d f.0 h)) closes
    last (d ∷ c ∷ es) f h = absurd (false≢true h)

    none : (es : List Entry) → nothing_left es ≡ true → Q false (Of.Bare 255) es
    none [] h = ends
    none (d ∷ es) h = absurd (false≢true h)

    go : (i : Bool) (x : Bool) → is_open e ≡ x → (y : Bool) → is_close e ≡ y → (z : Bool) → is_end e ≡ z
        → cond x (not i && blocks true es) (cond y (i && end_alone es) (cond z (not i && nothing_left es) (blocks i es))) ≡ true → Q i e es
    go true true x y q z r h = absurd (false≢true h)
    go false true x y q z r h = let o = open_is e f.0 x in subst (λ (d : Entry). Q false d es) (sym o.1) (opens o.0 es h)
    go true false x true q z r h = subst (λ (d : Entry). Q true d es) (sym (bare-is 101 refl e f.0 q)) (last es f.1 h)
    go false false x true q z r h = absurd (false≢true h)
    go true false x false q true r h = absurd (false≢true h)
    go false false x false q true r h = subst (λ (d : Entry). Q false d es) (sym (bare-is 255 refl e f.0 r)) (none es h)
    go i false x false q false r h = goes i e es x q h

-- in the block, the merge label is still to be made
abbrev pub waiting : Bool → Midway → List ℕ
waiting true w = w.merge ∷ []
waiting false w = []

-- ---- all entries: what holds of each plan's instructions before those of the others. i: in the block; from the first midway to the second
module _ (g : Given) (P : Bool → Midway → List Instr → Midway → Type 0)
    (ended : (w : Midway) → P false w [] w)
    (closed : (w : Midway) → P true w (instrs_by w Closes) w)
    (opened : (w : Midway) (c : ℕ) (is : List Instr) (l : Midway) → P true (after w (Opens c)) is l → P false w (instrs_by w (Opens c) ++ is) l)
    (gone : (i : Bool) (w : Midway) (p : Plan) (is : List Instr) (l : Midway) → Straight p → P i (after w p) is l → P i w (instrs_by w p ++ is) l) where
  abbrev Rest : List Entry → Type 0
  Rest es = (i : Bool) → blocks i es ≡ true → (w : Midway) → P i w (body_from g w es) (last_from g w es)

  abbrev Here : Bool → Entry → List Entry → Type 0
  Here i e es = Rest es → (w : Midway) → P i w (body_from g w (e ∷ es)) (last_from g w (e ∷ es))

  here : (i : Bool) (e : Entry) (es : List Entry) → Each Bodied (e ∷ es) → blocks i (e ∷ es) ≡ true → Here i e es
  unfolding body_from last_from plan_of instrs_by after
  here i e es f h = by_turn Here (λ a es b k w. opened w (id_at w.names a) (body_from g _ es) _ (k true b _)) (λ k w. closed w) (λ k w. ended w)
      (λ i e es o c b k w. gone i w (plan_of g (name_at w.names) e) (body_from g _ es) _ (straight g (name_at w.names) e o c) (k i b (stepped g w e))) i e es f h

  pub walk : (es : List Entry) → Each Bodied es → Rest es
  unfolding blocks
  walk [] f i b w = absurd (false≢true b)
  walk (e ∷ es) f i b w = here i e es f b (walk es f.1) w
