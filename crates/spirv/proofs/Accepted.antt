-- The theorems of #105, of whatever bytes, bound, table and room are accepted: reading the words ends as evaluating the bytes does, the words are valid,
-- and they make the ids from the bound to the free one that is handed back.
use Rattle.std.specs.Prelude.{Ok, Err}
use Rattle.evaluation.specs.Machine.{Outcome}
use Rattle.std.proofs.Common.{◌≡◌, ℕ, Bool, true, false, cond, ◌&&◌, eqb, ltb, leb, List, [], ◌∷◌, length, sym, refl, ap, ◌∙◌, arith}
use mathlib.Core.Option.{some}
use mathlib.Core.Bool.{false≢true}
use Rattle.strip.specs.declared.reader.Entry.{Entry}
use Rattle.strip.specs.Entry.{Each, Formed, wide}
use Rattle.strip.specs.Shape.{all, count, strip_ok, decode, shape_ok}
use Rattle.strip.proofs.Tests.{and_left}
use Rattle.strip.proofs.Encode.{Bytes}
use Rattle.strip.proofs.Run.{Strip, shape-strips}
use Rattle.evaluation.specs.declared.state.State.{State}
use Rattle.evaluation.specs.declared.machine.Refusal.TheVariants.{BadShape, UndefinedValue, NoConstant}
use Rattle.evaluation.specs.Machine.{begun, entries_from, strips_from, evaluated}
use Rattle.evaluation.proofs.Flat.{evaluated-strips}
use Rattle.spirv.specs.Instr.{all_words}
use Rattle.spirv.specs.Claim.{stop_of, Agree, EndsOn, EndsAs}
use Rattle.spirv.specs.Lent.{lent_env, lent_sorts}
use Rattle.spirv.specs.Reading.{Broken, meaning}
use Rattle.spirv.specs.Valid.{valid, made_by}
use Rattle.spirv.specs.Writer.{Given, given_of, start_of, const_instrs, strip_words, next_id, clash_from, table_ok, ids_ok, Written, Words, Refused, strip_answer, only_strip, written}
use Rattle.spirv.proofs.Refusals.{entries-meet}
use Rattle.spirv.proofs.Theorem.{strip-reads, one-strip, accepts, the_words, strip-accepted}
use Rattle.spirv.proofs.WellTyped.{strip-valid}
use Rattle.spirv.proofs.Ids.{strip-ids}

-- the free id
unfoldable pub the_next : Written → ℕ
the_next (Words ws n next) = next
the_next (Refused r) = 0

next-is : (table : List ℕ) (bound room : ℕ) (es : List Entry) → accepts (strip_answer table bound room es) ≡ true → the_next (strip_answer table bound room es) ≡ next_id table bound es
unfolding strip_answer accepts the_next
next-is table bound room es h = go (clash_from g (start_of g) es) (table_ok table bound && ids_ok table bound es) (ltb room (length (strip_words table bound es))) h
  where
    g : Given
    g = given_of table bound es

    answer : Bool → Bool → Bool → Written
    answer a b c = cond a (Refused 17) (cond b (cond c (Refused 11) (Words (strip_words table bound es) (length (all_words (const_instrs g bound g.constants))) (next_id table bound es))) (Refused 10))

    go : (a b c : Bool) → accepts (answer a b c) ≡ true → the_next (answer a b c) ≡ next_id table bound es
    go true b c h = absurd (false≢true h)
    go false false c h = absurd (false≢true h)
    go false true true h = absurd (false≢true h)
    go false true false h = refl

module _ (run : List ℕ) (bytes : Bytes run) (bound : ℕ) (table : List ℕ) (room : ℕ) (ok : accepts (written run bound table room) ≡ true) where
  -- one strip, in order, and its answer
  abbrev pub One : Type 0
  One = (es : List Entry) × Each (Formed wide) es × (strip_ok es ≡ true) × (written run bound table room ≡ strip_answer table bound room es) × (decode wide run ≡ some (es ∷ [])) × (shape_ok wide run ≡ true)

  pub one : One
  unfolding written accepts
  one = go (shape_ok wide run) refl
    where
      strips : (ss : List (List Entry)) → written run bound table room ≡ only_strip (strip_answer table bound room) (some ss) → Each (Strip wide) ss → all strip_ok ss ≡ true → decode wide run ≡ some ss → shape_ok wide run ≡ true → One
      strips [] p e k d s = absurd (false≢true (sym (ap accepts p) ∙ ok))
      strips (es ∷ []) p e k d s = (es, e.0.formed, and_left (strip_ok es) _ k, p, d, s)
      strips (es ∷ ds ∷ ss) p e k d s = absurd (false≢true (sym (ap accepts p) ∙ ok))

      go : (b : Bool) → shape_ok wide run ≡ b → One
      go true p = let z = shape-strips wide run bytes p in strips z.0 (rw (p, z.1)) z.3 z.4 z.1 p
      go false p = let is : written run bound table room ≡ Refused 7 = rw p in absurd (false≢true (sym (ap accepts is) ∙ ok))

  -- the only strip of the bytes
  abbrev pub the_strip : List Entry
  the_strip = one.0

  pub decoded : decode wide run ≡ some (the_strip ∷ [])
  decoded = one.4

  abbrev pub words : List ℕ
  words = the_words (written run bound table room)

  its-answer : accepts (strip_answer table bound room the_strip) ≡ true
  its-answer = sym (ap accepts one.3) ∙ ok

  words_are : words ≡ strip_words table bound the_strip
  words_are = ap the_words one.3 ∙ (strip-accepted table bound room the_strip its-answer).words

  -- From every state and over every lent list reading ends where the strip's evaluation does: in the same state; at an undefined value at the same store,
  -- branch or address; at the same address that lacks a constant. `stop_of` is that instruction and those after it.
  pub written_at : (s : State) (cs : List ℕ)
      → Agree (meaning words (lent_env table) s cs) (entries_from cs (begun s) the_strip) (stop_of (given_of table bound the_strip) cs (start_of (given_of table bound the_strip)) (begun s) the_strip)
  written_at s cs = rw words_are (strip-reads table bound the_strip s cs one.1 one.2 (strip-accepted table bound room the_strip its-answer).lents)

  -- the same beside the evaluation of the bytes
  pub written-reads : (s : State) (cs : List ℕ) → EndsAs (meaning words (lent_env table) s cs) (evaluated wide run s cs)
  unfolding strips_from
  written-reads s cs =
      rw (evaluated-strips s cs wide run (the_strip ∷ []) decoded one.5) (one-strip s (entries_from cs (begun s) the_strip) _ _ (entries-meet cs the_strip (begun s)) (written_at s cs))

  -- so no invalid instruction is ever met
  pub never-broken : (s : State) (cs : List ℕ) → meaning words (lent_env table) s cs ≡ Broken → ⊥
  never-broken s cs b = go (evaluated wide run s cs).outcome (written-reads s cs)
    where
      go : (o : Outcome) → EndsOn o (evaluated wide run s cs).state (meaning words (lent_env table) s cs) → ⊥
      go (Ok u) h = let z : ◌≡◌ {A = ℕ} 0 1 = cc in absurd (omega arith)
      go (Err BadShape) h = h
      go (Err UndefinedValue) h = let e = h.2 in let z : ◌≡◌ {A = ℕ} 0 1 = cc in absurd (omega arith)
      go (Err (NoConstant slot vec comp)) h = let e = h.2 in let z : ◌≡◌ {A = ℕ} 0 1 = cc in absurd (omega arith)

  pub written-valid : valid (lent_sorts table) words ≡ true
  written-valid =
      let a = strip-accepted table bound room the_strip its-answer in
      ap (valid (lent_sorts table)) words_are ∙ strip-valid table bound the_strip one.1 one.2 a.lents a.signs

  pub written-ids : (i : ℕ) → count (λ j. eqb j i) (made_by words) ≡ cond (leb bound i && ltb i (the_next (written run bound table room))) 1 0
  written-ids i = rw (words_are, one.3, next-is table bound room the_strip its-answer) (strip-ids table bound the_strip one.1 one.2 i)
