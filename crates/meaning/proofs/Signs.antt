-- No strip of a translation is refused with 17 (02, #105). Code is checked by what is known of its levels: which are signed words, which are the
-- constant 0. What checked code builds never clashes, and every arm passes the check.
use mathlib.Core.Path.{◌≡◌, refl, sym, ap, ◌∙◌}
use mathlib.Core.Bool.{Bool, true, false, cond, not, ◌&&◌, ◌||◌, xor, false≢true}
use mathlib.Core.List.{List, [], ◌∷◌, ◌++◌, map}
use Prim.Native.Nat.{ℕ, zero, suc, ◌+◌, ◌<◌}
use native.Mathlib.Omega.{arith}
use lib.Dec.{eqb, ltb}
use lib.ListN.{length, get_or, take, length-append, get_or-append}
use lib.Seq.{get_or-append_seam}
use borrow.Author.Tests.{ltb-true, eqb-true, eq-eqb, not-true}
use Rattle.strip.specs.declared.reader.Entry.{Entry}
use Rattle.strip.specs.declared.reader.Entry.TheVariants as Of
use Rattle.strip.specs.Format.{format_of, word}
use Rattle.strip.specs.Entry.{refs_of, Each}
use Rattle.strip.specs.Shape.{all}
use Rattle.strip.proofs.Tests.{and_left, and_right}
use Rattle.evaluation.proofs.Laws.{cond-all}
use Rattle.translation.specs.Insn.{Insn}
use Rattle.translation.specs.Code.{Code, ret, op, act, call, mark, ite, renamed, at, ats, Built, prefixed, build}
use Rattle.translation.specs.Helpers.{r, set, logical_not_if, predicate, p, setp, b2u, cbuf_at, cbuf_imm, src_b, src_bc, inot, ineg, carry_flag, signed_overflow, set_cc, set_cc_if, set_sum_cc, add_with_flags, carry_flag_sum, carry_one_sum, carry_sum, saturate_add, bool_op, less_than, less_than_equal, greater_than, greater_than_equal, int_cmp, cc_flags, cc_case, cc_test, shifted, shift_fill, shift_end, shift, lop3_row, lop3_rows, lop3, extract, field, half16, half_select, video_operand, int_source, clamp_high, saturate_by, saturate_int}
use Rattle.translation.specs.Arms.{mov, mov32i, sel, setp_both, set_truth, csetp, set_word, set_either, icompare, pcombine, prepared, iadd_words, iadd, iadd32i, iadd3_shift, iadd3_words, iadd3_fetch, iadd3, iscadd, xmad_shift, xmad_alter, xmad_merge, xmad_product, xmad_words, xmad_bc, xmad_fetch, xmad, minimum, maximum, imnmx, icmp_words, icmp_bc, icmp, lop_word, lop_test, lop_predicate, lop, lop32i, lop3_arm, shl, reverse_if, shr, use_field, field_at_b, bfe, bfi_words, bfi_bc, bfi, vmnmx_b, vmnmx_mixed, vmnmx_first, min_or_max, vmnmx_word, vmnmx_saturate, vmnmx_insert, vmnmx_merge, vmnmx_words, vmnmx, absolute, saturate_if, i2i, find_msb, flo_shift, flo, popc, note_unless, store_cell, r2p_turn, r2p_turns, r2p, load_cell, p2r_turn, p2r_turns, p2r, shf_amount, shf_select, shf_word, shf_words, shf, lea_b, lea_join, lea_word, lea, arm_of}
use Rattle.translation.specs.Strip.{guard, guard_not, never_runs, block, guarded, entries_of, insn_of, decision}
use Rattle.translation.specs.Turn.{strip_at}
use Rattle.std.specs.Prelude.{Ok}
use Rattle.translation.proofs.Typed.{gives_value, gives_none, within, closed, length_last}
use Rattle.translation.proofs.Arms.{arm-sized, guard-sized}
use Rattle.translation.proofs.Shape.{strip-shape, strip-decodes, accepted-strip}
use Rattle.spirv.specs.declared.plan.Name.{Name}
use Rattle.spirv.specs.declared.opcodes.Op.{Op}
use Rattle.spirv.specs.declared.opcodes.Op.TheVariants.{Core, Glsl}
use Rattle.spirv.specs.Opcodes.{op_of}
use Rattle.spirv.specs.Instr.{all_words}
use Rattle.spirv.specs.Writer.{Const, const, const_of, listed, Given, lent, slots_at, cells_at, type_id, const_id, name, name_at, Plan, Silent, Known, Made, Stores, Opens, Closes, first_sign, sign_of, planned, operation, casting, plan_of, Midway, after, stepped, last_from, const_instrs, given_of, start_of, strip_words, next_id, clashes, clash_from, table_ok, ids_ok, Written, Words, Refused, fitting, strip_answer, written}
use Rattle.spirv.proofs.Constants.{all_listed}

-- ---- the check, on code alone

-- what is known of a level: whether it is a signed word, and whether it is the constant 0
pub record Level : Type 0 where
  pub signed : Bool
  pub zero : Bool

abbrev pub level : Bool → Bool → Level
level s z = record { signed = s; zero = z }

unfoldable pub level_at : List Level → ℕ → Level
level_at ls l = get_or ls l (level false false)

abbrev pub levels_at : List Level → List ℕ → List Level
levels_at ls [] = []
levels_at ls (a ∷ rs) = level_at ls a ∷ levels_at ls rs

-- levels as the writer looks names up: their signs
abbrev pub signs : List Level → ℕ → Name
signs ls l = name 0 (level_at ls l).signed

-- the value that an entry makes
unfoldable pub valued : List Level → Entry → Level
valued ls (Of.Bare k) = level false false
valued ls (Of.Word w) = level false (eqb w 0)
valued ls (Of.Cell k n) = level false false
valued ls (Of.Store k n a) = level false false
valued ls (Of.One k a) = level (cond (eqb k 12) false (cond (eqb k 23 || eqb k 24) (eqb k 23) (sign_of (signs ls) k (a ∷ [])))) false
valued ls (Of.Two k a b) = level (sign_of (signs ls) k (a ∷ b ∷ [])) false
valued ls (Of.Three k a b c) = level (sign_of (signs ls) k (a ∷ b ∷ c ∷ [])) false
valued ls (Of.Four k a b c d) = level (cond (eqb k 11) false (sign_of (signs ls) k (a ∷ b ∷ c ∷ d ∷ []))) false

-- an entry that does not clash: `clashes` of the writer, on levels
unfoldable pub agrees : List Level → Entry → Bool
agrees ls (Of.Bare k) = true
agrees ls (Of.Word w) = true
agrees ls (Of.Cell k n) = true
agrees ls (Of.Store k n a) = not (eqb k 7 && (level_at ls a).signed)
agrees ls (Of.One k a) = true
agrees ls (Of.Two k a b) = true
agrees ls (Of.Three k a b c) = not (eqb k 90 && xor (level_at ls b).signed (level_at ls c).signed)
agrees ls (Of.Four k a b c d) = cond (eqb k 11) (level_at ls b).zero (not (eqb k 93 && xor (level_at ls a).signed (level_at ls b).signed))

-- the value that code hands back, by its arguments
unfoldable pub value_of : List Level → Code → Level
value_of ls (ret l) = level_at ls l
value_of ls (op e k) = value_of (ls ++ (valued ls e ∷ [])) k
value_of ls (act e k) = value_of ls k
value_of ls (call c args k) = value_of (ls ++ (value_of (levels_at ls args) c ∷ [])) k
value_of ls (mark s n k) = value_of ls k
value_of ls (ite b c d) = level (value_of ls c).signed ((value_of ls c).zero && (value_of ls d).zero)

-- no entry clashes, and two branches give words of one sign
unfoldable pub steady : List Level → Code → Bool
steady ls (ret l) = true
steady ls (op e k) = agrees ls e && steady (ls ++ (valued ls e ∷ [])) k
steady ls (act e k) = agrees ls e && steady ls k
steady ls (call c args k) = steady (levels_at ls args) c && steady (ls ++ (value_of (levels_at ls args) c ∷ [])) k
steady ls (mark s n k) = steady ls k
steady ls (ite b c d) = steady ls c && (steady ls d && not (xor (value_of ls c).signed (value_of ls d).signed))

-- ---- every arm and the guard pass it

pub arm-steady : (k : ℕ) (i : Insn) → steady [] (arm_of k i) ≡ true
unfolding mov mov32i sel setp_both set_truth csetp set_word set_either icompare pcombine prepared iadd_words iadd iadd32i iadd3_shift iadd3_words iadd3_fetch iadd3 iscadd xmad_shift xmad_alter xmad_merge xmad_product xmad_words xmad_bc xmad_fetch xmad minimum maximum imnmx icmp_words icmp_bc icmp lop_word lop_test lop_predicate lop lop32i lop3_arm shl reverse_if shr use_field field_at_b bfe bfi_words bfi_bc bfi vmnmx_b vmnmx_mixed vmnmx_first min_or_max vmnmx_word vmnmx_saturate vmnmx_insert vmnmx_merge vmnmx_words vmnmx absolute saturate_if i2i find_msb flo_shift flo popc note_unless store_cell r2p_turn r2p_turns r2p load_cell p2r_turn p2r_turns p2r shf_amount shf_select shf_word shf_words shf lea_b lea_join lea_word lea arm_of r set logical_not_if predicate p setp b2u cbuf_at cbuf_imm src_b src_bc inot ineg carry_flag signed_overflow set_cc set_cc_if set_sum_cc add_with_flags carry_flag_sum carry_one_sum carry_sum saturate_add bool_op less_than less_than_equal greater_than greater_than_equal int_cmp cc_flags cc_case cc_test shifted shift_fill shift_end shift lop3_row lop3_rows lop3 extract field half16 half_select video_operand int_source clamp_high saturate_by saturate_int level_at valued agrees value_of steady sign_of first_sign format_of xor
arm-steady k i = refl

pub guard-steady : (k : ℕ) (n : Bool) → steady [] (p k n) ≡ true
unfolding p predicate logical_not_if level_at valued agrees value_of steady sign_of first_sign format_of xor
guard-steady k n = refl

-- ---- truths and lists

xor_same : (a b : Bool) → xor a b ≡ false → b ≡ a
unfolding xor
xor_same true true h = refl
xor_same true false h = sym h
xor_same false true h = h
xor_same false false h = refl

all_split : {A : Type 0} (f : A → Bool) (xs ys : List A) → all f (xs ++ ys) ≡ true → (all f xs ≡ true) × (all f ys ≡ true)
all_split f [] ys h = (refl, h)
all_split f (x ∷ xs) ys h = let s = all_split f xs ys (and_right (f x) _ h) in (rw (and_left (f x) _ h) s.0, s.1)

-- the first word's sign is the same where the signs looked up are
first_alike : (f : ℕ → ℕ) (look known : ℕ → Name) (ks rs : List ℕ) → Each (λ r. (look (f r)).signed ≡ (known r).signed) rs → first_sign look ks (map f rs) ≡ first_sign known ks rs
unfolding first_sign
first_alike f look known [] rs h = refl
first_alike f look known (k ∷ ks) [] h = refl
first_alike f look known (k ∷ ks) (a ∷ rs) h = rw (h.0, first_alike f look known ks rs h.1) refl

sign-alike : (f : ℕ → ℕ) (look known : ℕ → Name) (k : ℕ) (rs : List ℕ) → Each (λ r. (look (f r)).signed ≡ (known r).signed) rs → sign_of look k (map f rs) ≡ sign_of known k rs
unfolding sign_of
sign-alike f look known k rs h = ap (λ (b : Bool). eqb (format_of k).result word && b) (first_alike f look known (format_of k).operands rs h)

-- ---- names as levels say

module _ (g : Given) where
  abbrev zero_const : Const
  zero_const = const 1 0

  -- a name that is as its level says: only what is the constant 0 needs to be known of ids
  pub record Like (x : Level) (n : Name) : Type 0 where
    pub sign : n.signed ≡ x.signed
    pub zero-id : x.zero ≡ true → (listed g.constants zero_const ≡ true) × (n.id ≡ const_id g zero_const)

  -- reference a names such a value
  abbrev pub Is : List Name → Level → ℕ → Type 0
  Is ns x a = (a < length ns) × Like x (name_at ns a)

  is-more : (ns more : List Name) (x : Level) (a : ℕ) → Is ns x a → Is (ns ++ more) x a
  unfolding name_at
  is-more ns more x a h =
      let l : a < length ns = h.0 in
      (rw (length-append ns more) (omega arith), rw (get_or-append ns more (name 0 false) a l) h.1)

  is_last : (ns : List Name) (x : Level) (n : Name) → Like x n → Is (ns ++ (n ∷ [])) x (length ns)
  unfolding name_at
  is_last ns x n h = (rw (length-append ns (n ∷ [])) (omega arith), rw (get_or-append_seam ns n [] (name 0 false)) h)

  -- what levels stand for
  abbrev pub Stand : List Name → List Level → List ℕ → Type 0
  Stand ns [] [] = Unit {0}
  Stand ns [] (a ∷ rs) = ⊥
  Stand ns (x ∷ ls) [] = ⊥
  Stand ns (x ∷ ls) (a ∷ rs) = Is ns x a × Stand ns ls rs

  -- later values keep it
  abbrev Keeps : List Name → List Name → Type 0
  Keeps ns ms = (x : Level) (a : ℕ) → Is ns x a → Is ms x a

  stand-more : (ns ms : List Name) → Keeps ns ms → (ls : List Level) (rs : List ℕ) → Stand ns ls rs → Stand ms ls rs
  stand-more ns ms k [] [] s = tt
  stand-more ns ms k [] (a ∷ rs) s = s
  stand-more ns ms k (x ∷ ls) [] s = s
  stand-more ns ms k (x ∷ ls) (a ∷ rs) s = (k x a s.0, stand-more ns ms k ls rs s.1)

  stand-last : (ns : List Name) (ls : List Level) (rs : List ℕ) (x : Level) (a : ℕ) → Stand ns ls rs → Is ns x a → Stand ns (ls ++ (x ∷ [])) (rs ++ (a ∷ []))
  stand-last ns [] [] x a s h = (h, tt)
  stand-last ns [] (b ∷ rs) x a s h = absurd s
  stand-last ns (y ∷ ls) [] x a s h = absurd s
  stand-last ns (y ∷ ls) (b ∷ rs) x a s h = (s.0, stand-last ns ls rs x a s.1 h)

  stand-at : (ns : List Name) (ls : List Level) (rs : List ℕ) → Stand ns ls rs → (l : ℕ) → l < length ls → Is ns (level_at ls l) (at rs l)
  unfolding level_at
  stand-at ns [] rs s l h = absurd (omega arith)
  stand-at ns (x ∷ ls) [] s l h = absurd s
  stand-at ns (x ∷ ls) (a ∷ rs) s zero h = s.0
  stand-at ns (x ∷ ls) (a ∷ rs) s (suc l) h = stand-at ns ls rs s.1 l (omega arith)

  stand-ats : (ns : List Name) (ls : List Level) (rs : List ℕ) → Stand ns ls rs → (args : List ℕ) → within (length ls) args ≡ true → Stand ns (levels_at ls args) (ats rs args)
  stand-ats ns ls rs s [] h = tt
  stand-ats ns ls rs s (l ∷ args) h =
      (stand-at ns ls rs s l (ltb-true l (length ls) (and_left (ltb l (length ls)) _ h)), stand-ats ns ls rs s args (and_right (ltb l (length ls)) _ h))

  -- ---- plans

  -- a plan that names a value as a level says
  abbrev Pushes : Plan → Level → Type 0
  Pushes Silent x = ⊥
  Pushes (Known n) x = Like x n
  Pushes (Made o t xs s) x = (s ≡ x.signed) × (x.zero ≡ false)
  Pushes (Stores b v) x = ⊥
  Pushes (Opens c) x = ⊥
  Pushes Closes x = ⊥

  -- one that names none
  abbrev Quiet : Plan → Type 0
  Quiet Silent = Unit {0}
  Quiet (Known n) = ⊥
  Quiet (Made o t xs s) = ⊥
  Quiet (Stores b v) = Unit {0}
  Quiet (Opens c) = Unit {0}
  Quiet Closes = Unit {0}

  record Named (m : Midway) (q : Plan) (x : Level) : Type 0 where
    new : Name
    names : (after m q).names ≡ m.names ++ (new ∷ [])
    like : Like x new

  never-zero : (x : Level) (n : Name) → n.signed ≡ x.signed → x.zero ≡ false → Like x n
  never-zero x n s z = record { sign = s; zero-id = λ t. absurd (false≢true (sym z ∙ t)) }

  pushed : (m : Midway) (q : Plan) (x : Level) → Pushes q x → Named m q x
  unfolding after
  pushed m Silent x h = absurd h
  pushed m (Known n) x h = record { new = n; names = refl; like = h }
  pushed m (Made o t xs s) x h = record { new = name m.next s; names = refl; like = never-zero x (name m.next s) h.0 h.1 }
  pushed m (Stores b v) x h = absurd h
  pushed m (Opens c) x h = absurd h
  pushed m Closes x h = absurd h

  quiet-names : (m : Midway) (q : Plan) → Quiet q → (after m q).names ≡ m.names
  unfolding after
  quiet-names m Silent h = refl
  quiet-names m (Known n) h = absurd h
  quiet-names m (Made o t xs s) h = absurd h
  quiet-names m (Stores b v) h = refl
  quiet-names m (Opens c) h = refl
  quiet-names m Closes h = refl

  planned-pushes : (l : ℕ) (o : Op) (t : ℕ) (xs : List ℕ) (s : Bool) (x : Level) → s ≡ x.signed → x.zero ≡ false → Pushes (planned l o t xs s) x
  unfolding planned
  planned-pushes l (Core n) t xs s x p z = (p, z)
  planned-pushes l (Glsl n) t xs s x p z = (p, z)

  -- ---- entries

  module _ (ns : List Name) (ls : List Level) (rs : List ℕ) (s : Stand ns ls rs) where
    like_at : (l : ℕ) → ltb l (length ls) ≡ true → Like (level_at ls l) (name_at ns (at rs l))
    like_at l h = (stand-at ns ls rs s l (ltb-true l (length ls) h)).1

    signs-at : (args : List ℕ) → within (length ls) args ≡ true → Each (λ l. (name_at ns (at rs l)).signed ≡ (signs ls l).signed) args
    signs-at [] h = tt
    signs-at (l ∷ args) h = ((like_at l (and_left (ltb l (length ls)) _ h)).sign, signs-at args (and_right (ltb l (length ls)) _ h))

    operation-pushes : (k : ℕ) (args : List ℕ) → within (length ls) args ≡ true → Pushes (operation g (name_at ns) k (map (at rs) args)) (level (sign_of (signs ls) k args) false)
    unfolding operation
    operation-pushes k args h = planned-pushes _ (op_of k) _ _ _ _ (sign-alike (at rs) (name_at ns) (signs ls) k args (signs-at args h)) refl

    casting-pushes : (k a : ℕ) → Pushes (casting g (name_at ns) k a) (level (eqb k 23) false)
    unfolding casting
    casting-pushes k a = go (xor (eqb k 23) (name_at ns a).signed) refl
      where
        go : (b : Bool) → xor (eqb k 23) (name_at ns a).signed ≡ b
            → Pushes (cond b (planned (lent g 4) (op_of k) (type_id g 1 (eqb k 23)) ((name_at ns a).id ∷ []) (eqb k 23)) (Known (name_at ns a))) (level (eqb k 23) false)
        go true e = planned-pushes _ (op_of k) _ _ _ _ refl refl
        go false e = never-zero _ _ (xor_same (eqb k 23) (name_at ns a).signed e) refl

    one-pushes : (k a : ℕ) → eqb k 100 ≡ false → within (length ls) (a ∷ []) ≡ true → Pushes (plan_of g (name_at ns) (Of.One k (at rs a))) (valued ls (Of.One k a))
    unfolding plan_of valued
    one-pushes k a n h = rw n (go (eqb k 12) (eqb k 23 || eqb k 24))
      where
        go : (x y : Bool)
            → Pushes (cond x (Made 61 (type_id g 1 false) ((name_at ns (at rs a)).id ∷ []) false) (cond y (casting g (name_at ns) k (at rs a)) (operation g (name_at ns) k (at rs a ∷ []))))
            (level (cond x false (cond y (eqb k 23) (sign_of (signs ls) k (a ∷ [])))) false)
        go true y = (refl, refl)
        go false true = casting-pushes k (at rs a)
        go false false = operation-pushes k (a ∷ []) h

    cell-pushes : (k n : ℕ) → eqb k 110 ≡ false → Pushes (plan_of g (name_at ns) (Of.Cell k n)) (level false false)
    unfolding plan_of
    cell-pushes k n h = rw h (go (eqb k 10))
      where
        go : (b : Bool) → Pushes (cond b (Known (name (lent g (slots_at + n)) false)) (Made 61 (type_id g (format_of k).result false) (lent g (cells_at k + n) ∷ []) false)) (level false false)
        go true = never-zero _ _ refl refl
        go false = (refl, refl)

    four-pushes : (k a b c d : ℕ) → within (length ls) (a ∷ b ∷ c ∷ d ∷ []) ≡ true → Pushes (plan_of g (name_at ns) (Of.Four k (at rs a) (at rs b) (at rs c) (at rs d))) (valued ls (Of.Four k a b c d))
    unfolding plan_of valued
    four-pushes k a b c d h = go (eqb k 11)
      where
        go : (x : Bool)
            → Pushes (cond x (Made 65 (type_id g 4 false) ((name_at ns (at rs a)).id ∷ (name_at ns (at rs b)).id ∷ (name_at ns (at rs c)).id ∷ (name_at ns (at rs d)).id ∷ []) false) (operation g (name_at ns) k (at rs a ∷ at rs b ∷ at rs c ∷ at rs d ∷ [])))
            (level (cond x false (sign_of (signs ls) k (a ∷ b ∷ c ∷ d ∷ []))) false)
        go true = (refl, refl)
        go false = operation-pushes k (a ∷ b ∷ c ∷ d ∷ []) h

    word-like : (w : ℕ) → all (listed g.constants) (const 1 w ∷ []) ≡ true → Like (level false (eqb w 0)) (name (const_id g (const 1 w)) false)
    word-like w h = record {
      sign = refl;
      zero-id = λ t.
          let e : w ≡ 0 = eqb-true w 0 t in
          (rw (← e) (and_left (listed g.constants (const 1 w)) _ h), ap (λ (v : ℕ). const_id g (const 1 v)) e);
    }

    -- an entry that makes a value makes it as its level says
    pushes : (e : Entry) → gives_value e ≡ true → within (length ls) (refs_of e) ≡ true → all (listed g.constants) (const_of (renamed (at rs) e)) ≡ true
        → Pushes (plan_of g (name_at ns) (renamed (at rs) e)) (valued ls e)
    unfolding plan_of valued const_of refs_of
    pushes (Of.Bare k) v h c = rw v (never-zero _ _ refl refl)
    pushes (Of.Word w) v h c = word-like w c
    pushes (Of.Cell k n) v h c = cell-pushes k n (not-true (eqb k 110) v)
    pushes (Of.Store k n a) v h c = absurd (false≢true v)
    pushes (Of.One k a) v h c = one-pushes k a (not-true (eqb k 100) v) h
    pushes (Of.Two k a b) v h c = operation-pushes k (a ∷ b ∷ []) h
    pushes (Of.Three k a b d) v h c = operation-pushes k (a ∷ b ∷ d ∷ []) h
    pushes (Of.Four k a b d e) v h c = four-pushes k a b d e h

    -- a store or a note makes none
    quiet : (e : Entry) → gives_none e ≡ true → Quiet (plan_of g (name_at ns) (renamed (at rs) e))
    unfolding plan_of
    quiet (Of.Bare k) v = absurd (false≢true v)
    quiet (Of.Word w) v = absurd (false≢true v)
    quiet (Of.Cell k n) v = rw (eqb-true k 110 v) tt
    quiet (Of.Store k n a) v = tt
    quiet (Of.One k a) v = absurd (false≢true v)
    quiet (Of.Two k a b) v = absurd (false≢true v)
    quiet (Of.Three k a b d) v = absurd (false≢true v)
    quiet (Of.Four k a b d e) v = absurd (false≢true v)

    -- an entry that agrees does not clash
    four-agrees : (k a b c d : ℕ) → within (length ls) (a ∷ b ∷ c ∷ d ∷ []) ≡ true → agrees ls (Of.Four k a b c d) ≡ true → clashes g (name_at ns) (Of.Four k (at rs a) (at rs b) (at rs c) (at rs d)) ≡ false
    unfolding clashes agrees
    four-agrees k a b c d h t =
        let la = like_at a (and_left (ltb a (length ls)) _ h) in
        let lb = like_at b (and_left (ltb b (length ls)) _ (and_right (ltb a (length ls)) _ h)) in
        go la lb (eqb k 11) t
      where
        go : Like (level_at ls a) (name_at ns (at rs a)) → Like (level_at ls b) (name_at ns (at rs b)) → (x : Bool) → cond x (level_at ls b).zero (not (eqb k 93 && xor (level_at ls a).signed (level_at ls b).signed)) ≡ true
            → cond x (not (listed g.constants zero_const && eqb (name_at ns (at rs b)).id (const_id g zero_const))) (eqb k 93 && xor (name_at ns (at rs a)).signed (name_at ns (at rs b)).signed) ≡ false
        go la lb true t = let z = lb.zero-id t in rw (z.0, eq-eqb (name_at ns (at rs b)).id (const_id g zero_const) z.1) refl
        go la lb false t = rw (la.sign, lb.sign) (not-true _ t)

    no-clash : (e : Entry) → within (length ls) (refs_of e) ≡ true → agrees ls e ≡ true → clashes g (name_at ns) (renamed (at rs) e) ≡ false
    unfolding clashes agrees refs_of
    no-clash (Of.Bare k) h t = refl
    no-clash (Of.Word w) h t = refl
    no-clash (Of.Cell k n) h t = refl
    no-clash (Of.Store k n a) h t = rw (like_at a (and_left (ltb a (length ls)) _ h)).sign (not-true _ t)
    no-clash (Of.One k a) h t = refl
    no-clash (Of.Two k a b) h t = refl
    no-clash (Of.Three k a b c) h t =
        let i = and_right (ltb a (length ls)) _ h in
        rw ((like_at b (and_left (ltb b (length ls)) _ i)).sign, (like_at c (and_left (ltb c (length ls)) _ (and_right (ltb b (length ls)) _ i))).sign) (not-true _ t)
    no-clash (Of.Four k a b c d) h t = four-agrees k a b c d h t

  -- ---- code

  -- the constant that an entry is, is listed
  abbrev const_listed : Entry → Bool
  const_listed e = all (listed g.constants) (const_of e)

  abbrev consts_listed : List Entry → Bool
  consts_listed = all const_listed

  last-append : (es fs : List Entry) (m : Midway) → last_from g m (es ++ fs) ≡ last_from g (last_from g m es) fs
  unfolding last_from
  last-append [] fs m = refl
  last-append (e ∷ es) fs m = last-append es fs (stepped g m e)

  clash-append : (es fs : List Entry) (m : Midway) → clash_from g m es ≡ false → clash_from g (last_from g m es) fs ≡ false → clash_from g m (es ++ fs) ≡ false
  unfolding clash_from last_from
  clash-append [] fs m h i = i
  clash-append (e ∷ es) fs m h i = go (clashes g (name_at m.names) e) h (λ j. clash-append es fs (stepped g m e) j i)
    where
      go : (b : Bool) → b || clash_from g (stepped g m e) es ≡ false → (clash_from g (stepped g m e) es ≡ false → clash_from g (stepped g m e) (es ++ fs) ≡ false) → b || clash_from g (stepped g m e) (es ++ fs) ≡ false
      go true h k = h
      go false h k = k h

  -- what checked code builds from m on
  pub record Sound (ls : List Level) (c : Code) (m : Midway) (b : Built) : Type 0 where
    pub clear : clash_from g m b.entries ≡ false
    pub next : b.next ≡ length (last_from g m b.entries).names
    pub keeps : Keeps m.names (last_from g m b.entries).names
    pub result : Is (last_from g m b.entries).names (value_of ls c) b.result

  -- an entry in front
  front : (m : Midway) (e : Entry) (ls more : List Level) (c k : Code) (b : Built) → clashes g (name_at m.names) e ≡ false → Keeps m.names (stepped g m e).names → value_of more k ≡ value_of ls c → Sound more k (stepped g m e) b
      → Sound ls c m (prefixed (e ∷ []) b)
  unfolding clash_from last_from
  front m e ls more c k b h i q x = record {
    clear = rw h x.clear;
    next = x.next;
    keeps = λ y a z. x.keeps y a (i y a z);
    result = rw (← q) x.result;
  }

  -- code, and then what follows it
  joined : (m : Midway) (args ls more : List Level) (c k w : Code) (b d : Built) → value_of more k ≡ value_of ls w → Sound args c m b → Sound more k (last_from g m b.entries) d → Sound ls w m (prefixed b.entries d)
  joined m args ls more c k w b d q x y =
      let j = last-append b.entries d.entries m in
      record {
        clear = clash-append b.entries d.entries m x.clear y.clear;
        next = y.next ∙ ap (λ (v : Midway). length v.names) (sym j);
        keeps = λ z a u. rw j (y.keeps z a (x.keeps z a u));
        result = rw (j, ← q) y.result;
      }

  -- of a branch, whose value is known as far as the branches' values agree
  branch : (c k : Code) (ls : List Level) (m : Midway) (b : Built) → (value_of ls c).signed ≡ (value_of ls k).signed → ((value_of ls k).zero ≡ true → (value_of ls c).zero ≡ true) → Sound ls c m b → Sound ls k m b
  branch c k ls m b p q x = record {
    clear = x.clear;
    next = x.next;
    keeps = x.keeps;
    result = (x.result.0, record { sign = x.result.1.sign ∙ p; zero-id = λ t. x.result.1.zero-id (q t) });
  }

  levels-length : (ls : List Level) (args : List ℕ) → length (levels_at ls args) ≡ length args
  levels-length ls [] = refl
  levels-length ls (l ∷ args) = ap suc (levels-length ls args)

  pub sound : (c : Code) (m : Midway) (ls : List Level) (rs : List ℕ) → Stand m.names ls rs → closed (length ls) c ≡ true → steady ls c ≡ true → consts_listed (build c rs (length m.names)).entries ≡ true
      → Sound ls c m (build c rs (length m.names))
  unfolding build closed steady value_of last_from clash_from
  sound (ret l) m ls rs s h t u = record {
    clear = refl;
    next = refl;
    keeps = λ x a z. z;
    result = stand-at m.names ls rs s l (ltb-true l (length ls) h);
  }
  sound (op e k) m ls rs s h t u =
      let ns = m.names in
      let f = renamed (at rs) e in
      let v = valued ls e in
      let w = and_left (within (length ls) (refs_of e)) _ (and_right (gives_value e) _ h) in
      let z = and_right (within (length ls) (refs_of e)) _ (and_right (gives_value e) _ h) in
      let c = no-clash ns ls rs s e w (and_left (agrees ls e) _ t) in
      let n = pushed m (plan_of g (name_at ns) f) v (pushes ns ls rs s e (and_left (gives_value e) _ h) w (and_left (const_listed f) _ u)) in
      let more : List Name = ns ++ (n.new ∷ []) in
      let kept : Keeps ns more = is-more ns (n.new ∷ []) in
      let d : length (stepped g m f).names ≡ suc (length ns) = rw n.names (length_last ns n.new) in
      let stand : Stand (stepped g m f).names (ls ++ (v ∷ [])) (rs ++ (length ns ∷ [])) = rw n.names (stand-last more ls rs v (length ns) (stand-more ns more kept ls rs s) (is_last ns v n.new n.like)) in
      let x = sound k (stepped g m f) (ls ++ (v ∷ [])) (rs ++ (length ns ∷ [])) stand (rw (length_last ls v) z) (and_right (agrees ls e) _ t) (rw d (and_right (const_listed f) _ u)) in
      front m f ls (ls ++ (v ∷ [])) (op e k) k (build k (rs ++ (length ns ∷ [])) (suc (length ns))) c (rw n.names kept) refl (rw d at x)
  sound (act e k) m ls rs s h t u =
      let ns = m.names in
      let f = renamed (at rs) e in
      let w = and_left (within (length ls) (refs_of e)) _ (and_right (gives_none e) _ h) in
      let z = and_right (within (length ls) (refs_of e)) _ (and_right (gives_none e) _ h) in
      let c = no-clash ns ls rs s e w (and_left (agrees ls e) _ t) in
      let n : (stepped g m f).names ≡ ns = quiet-names m (plan_of g (name_at ns) f) (quiet ns ls rs s e (and_left (gives_none e) _ h)) in
      let x = sound k (stepped g m f) ls rs (rw n s) z (and_right (agrees ls e) _ t) (rw n (and_right (const_listed f) _ u)) in
      front m f ls ls (act e k) k (build k rs (length ns)) c (rw n (λ y a i. i)) refl (rw (ap length n) at x)
  sound (call c args k) m ls rs s h t u =
      let ns = m.names in
      let b = build c (ats rs args) (length ns) in
      let d = build k (rs ++ (b.result ∷ [])) b.next in
      let v = value_of (levels_at ls args) c in
      let w = and_left (within (length ls) args) _ h in
      let z = and_right (within (length ls) args) _ h in
      let parts = all_split const_listed b.entries d.entries u in
      let x = sound c m (levels_at ls args) (ats rs args) (stand-ats ns ls rs s args w) (rw (levels-length ls args) (and_left (closed (length args) c) _ z)) (and_left (steady (levels_at ls args) c) _ t) parts.0 in
      let m' = last_from g m b.entries in
      let stand : Stand m'.names (ls ++ (v ∷ [])) (rs ++ (b.result ∷ [])) = stand-last m'.names ls rs v b.result (stand-more ns m'.names x.keeps ls rs s) x.result in
      let y = sound k m' (ls ++ (v ∷ [])) (rs ++ (b.result ∷ [])) stand (rw (length_last ls v) (and_right (closed (length args) c) _ z)) (and_right (steady (levels_at ls args) c) _ t) (rw (← x.next) parts.1) in
      joined m (levels_at ls args) ls (ls ++ (v ∷ [])) c k (call c args k) b d refl x (rw x.next y)
  sound (mark a n k) m ls rs s h t u = branch k (mark a n k) ls m _ refl (λ q. q) (sound k m ls rs s h t u)
  sound (ite true c d) m ls rs s h t u =
      branch c (ite true c d) ls m _ refl (and_left (value_of ls c).zero _) (sound c m ls rs s (and_left (closed (length ls) c) _ h) (and_left (steady ls c) _ t) u)
  sound (ite false c d) m ls rs s h t u =
      let i = and_right (steady ls c) _ t in
      branch d (ite false c d) ls m _ (xor_same (value_of ls c).signed (value_of ls d).signed (not-true _ (and_right (steady ls d) _ i))) (and_right (value_of ls c).zero _)
      (sound d m ls rs s (and_right (closed (length ls) c) _ h) (and_left (steady ls d) _ i) u)

  -- ---- strips

  arm-sound : (k : ℕ) (i : Insn) (m : Midway) → consts_listed (build (arm_of k i) [] (length m.names)).entries ≡ true → Sound [] (arm_of k i) m (build (arm_of k i) [] (length m.names))
  arm-sound k i m u = sound (arm_of k i) m [] [] tt (arm-sized k i).closed (arm-steady k i) u

  -- the end clashes with nothing
  end-clear : (es : List Entry) (m : Midway) → clash_from g m es ≡ false → clash_from g m (es ++ (Of.Bare 255 ∷ [])) ≡ false
  unfolding clash_from clashes
  end-clear es m h = clash-append es (Of.Bare 255 ∷ []) m h refl

  block-clear : (k : ℕ) (i : Insn) → consts_listed (block (build (p (guard i) (guard_not i)) [] 0) (arm_of k i)) ≡ true → clash_from g (start_of g) (block (build (p (guard i) (guard_not i)) [] 0) (arm_of k i)) ≡ false
  unfolding clash_from clashes plan_of after const_of
  block-clear k i u =
      let c = build (p (guard i) (guard_not i)) [] 0 in
      let d = build (arm_of k i) [] c.next in
      let parts = all_split const_listed c.entries (Of.One 100 c.result ∷ (d.entries ++ (Of.Bare 101 ∷ []))) u in
      let x = sound (p (guard i) (guard_not i)) (start_of g) [] [] tt (guard-sized (guard i) (guard_not i)).closed (guard-steady (guard i) (guard_not i)) parts.0 in
      let m = stepped g (last_from g (start_of g) c.entries) (Of.One 100 c.result) in
      let n : c.next ≡ length m.names = x.next in
      let v = (all_split const_listed d.entries (Of.Bare 101 ∷ []) parts.1).0 in
      let y = arm-sound k i m (rw (← n) v) in
      clash-append c.entries (Of.One 100 c.result ∷ (d.entries ++ (Of.Bare 101 ∷ []))) (start_of g) x.clear (clash-append d.entries (Of.Bare 101 ∷ []) m (rw n y.clear) refl)

  -- what a strip has before its end
  abbrev before-end : ℕ → Insn → Bool → Bool → List Entry
  before-end k i dead always = cond dead [] (cond always (build (arm_of k i) [] 0).entries (block (build (p (guard i) (guard_not i)) [] 0) (arm_of k i)))

  strip-clear : (k : ℕ) (i : Insn) → consts_listed (entries_of k i) ≡ true → clash_from g (start_of g) (entries_of k i) ≡ false
  unfolding entries_of guarded clash_from
  strip-clear k i u = end-clear (before-end k i dead always) (start_of g) (go dead always (all_split const_listed (before-end k i dead always) (Of.Bare 255 ∷ []) u).0)
    where
      dead : Bool
      dead = never_runs i

      always : Bool
      always = eqb (guard i) 7

      go : (d a : Bool) → consts_listed (before-end k i d a) ≡ true → clash_from g (start_of g) (before-end k i d a) ≡ false
      go true a u = refl
      go false true u = (arm-sound k i (start_of g) u).clear
      go false false u = block-clear k i u

-- the entries of every kind and word never clash, whatever the table and the bound
pub never-clashes : (k : ℕ) (i : Insn) (table : List ℕ) (bound : ℕ) → clash_from (given_of table bound (entries_of k i)) (start_of (given_of table bound (entries_of k i))) (entries_of k i) ≡ false
unfolding given_of
never-clashes k i table bound = strip-clear (given_of table bound (entries_of k i)) k i (all_listed (entries_of k i))

-- ---- bytes

-- words, or refused with 10 or 11
unfoldable late_refusal : Written → Bool
late_refusal (Words ws n next) = true
late_refusal (Refused n) = eqb n 10 || eqb n 11

ids-late : late_refusal (Refused 10) ≡ true
unfolding late_refusal
ids-late = refl

fitting-late : (ws : List ℕ) (n next room : ℕ) → late_refusal (fitting ws n next room) ≡ true
unfolding late_refusal
fitting-late ws n next room = cond-all (λ (a : Written). late_refusal a ≡ true) (ltb room (length ws)) (Refused 11) (Words ws n next) refl refl

strip-late : (l : List ℕ) (bound : ℕ) (table : List ℕ) (room : ℕ) → late_refusal (written (strip_at l) bound table room) ≡ true
unfolding written strip_answer
strip-late l bound table room =
    let k = get_or l 0 0 in
    let i = insn_of l in
    let es = entries_of k i in
    let g = given_of table bound es in
    rw (strip-shape k i, strip-decodes k i, never-clashes k i table bound)
    (cond-all (λ (a : Written). late_refusal a ≡ true) (table_ok table bound && ids_ok table bound es) _ _
    (fitting-late (strip_words table bound es) (length (all_words (const_instrs g bound g.constants))) (next_id table bound es) room) ids-late)

-- The strip of a record, whatever its bytes are, is refused with 10 (ids) and 11 (room) alone.
pub refused-10-or-11 : (l : List ℕ) (bound : ℕ) (table : List ℕ) (room r : ℕ) → written (strip_at l) bound table room ≡ Refused r → eqb r 10 || eqb r 11 ≡ true
unfolding late_refusal
refused-10-or-11 l bound table room r h = sym (ap late_refusal h) ∙ strip-late l bound table room

pub never-17 : (l : List ℕ) (bound : ℕ) (table : List ℕ) (room : ℕ) → written (strip_at l) bound table room ≡ Refused 17 → ⊥
never-17 l bound table room h = false≢true (refused-10-or-11 l bound table room 17 h)

-- the same of what an accepted translation leaves in its room
pub translated-never-17 : (l m out : List ℕ) (n : ℕ) → (decision l m out).outcome ≡ Ok n → (bound : ℕ) (table : List ℕ) (room : ℕ) → written (take n (decision l m out).out) bound table room ≡ Refused 17 → ⊥
translated-never-17 l m out n h bound table room e = never-17 l bound table room (rw (accepted-strip l m out n h) at e)
