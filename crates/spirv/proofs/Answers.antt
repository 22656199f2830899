-- What the code answers is the definition's answer.
use Rattle.std.proofs.Common.{◌≡◌, ℕ, suc, ◌+◌, ◌-◌, ◌*◌, ◌%◌, ◌^◌, ◌<◌, ◌≤◌, Bool, true, false, cond, ◌&&◌, ◌||◌, eqb, ltb, leb, List, [], ◌∷◌, ◌++◌, map, length, get_or, take, drop, set, replicate, sym, refl, ap, ◌∙◌, subst, ap₂, true≢false, append_assoc, append-nil, arith, length-append, length-set, take-suc-set, ltb-true, le-ltb, lt-ltb, eqb-true, leb-true}
use mathlib.Core.List.{map-append}
use mathlib.Core.Option.{Option, none, some}
use mathlib.Core.Bool.{false≢true}
use lib.ListN.{length-replicate}
use lib.Seq.{sets, length-sets, sets-eq}
use Rattle.strip.specs.declared.reader.Entry.{Entry}
use Rattle.strip.specs.Entry.{wide, reads_from, Each, Formed}
use Rattle.strip.specs.Shape.{all, names, decode, shape_ok, strip_ok, run_bytes}
use Rattle.strip.specs.Pass.{fresh}
use Rattle.strip.proofs.Tests.{and_left, and_right}
use Rattle.strip.proofs.Encode.{Bytes}
use Rattle.strip.proofs.Run.{Strip, at-most-64, shape-strips}
use Rattle.spirv.specs.declared.plan.Name.{Name}
use Rattle.spirv.specs.declared.page.Tape.{Tape}
use Rattle.spirv.specs.declared.page.Page.{Page}
use Rattle.spirv.specs.Instr.{Instr, words_of, all_words}
use Rattle.spirv.specs.Writer.{Const, listed, place_of, constants_of, Given, given, given_of, lent, const_id, name, Midway, midway, start_of, const_instrs, body_from, instrs_of_strip, strip_words, last_from, next_id, clash_from, id_limit, lent_ok, table_ok, ids_ok, Written, Words, Refused, strip_answer, only_strip, written}
use Rattle.spirv.specs.Answer.{accepted, refused, placed, answer}
use Rattle.spirv.specs.Page.{survey_from, tape, put_one, puts, first_id, blank, part, settled, entered_part_from}
use Rattle.spirv.proofs.Constants.{all_listed}
use Rattle.spirv.proofs.Listed.{listed-place}
use Rattle.spirv.proofs.Tapes.{length-map}
use Rattle.spirv.proofs.Surveys.{surveyed-none, surveyed-some}
use Rattle.spirv.proofs.Shaped.{shaped-fair}
use Rattle.spirv.proofs.Simulation.{FairFrom}
use Rattle.spirv.proofs.Linked.{Like, entered_all, Links, linked, words_append}
use Rattle.spirv.proofs.Bounds.{strip-sized, last-above, last-below, InstrOf, body-fits, strip-consts-fit, lents-low}
use Rattle.spirv.proofs.Moved.{moved, stays, moves, moved_instr, moved_midway, body-moves}
use Rattle.spirv.proofs.OnePass.{part-is}
use Rattle.spirv.proofs.Bodies.{reads-entries}

zero-on : (n : ℕ) → 0 + n ≡ n
zero-on n = omega arith

-- ---- the buffer
pub puts-at : (ws : List ℕ) (t : Tape) → t.at + length ws ≤ 512 → (puts t ws).at ≡ t.at + length ws
unfolding puts put_one
puts-at [] t l = omega arith
puts-at (w ∷ ws) t l = let h = puts-at ws (put_one t w) (omega arith) in omega arith

pub puts-full : (ws : List ℕ) (t : Tape) → length (puts t ws).buf ≡ length t.buf
unfolding puts put_one
puts-full [] t = refl
puts-full (w ∷ ws) t = puts-full ws (put_one t w) ∙ length-set t.buf (t.at % 512) (w % 4294967296)

-- a word of the buffer
abbrev low : ℕ → ℕ
low w = w % 4294967296

puts-take : (ws : List ℕ) (t : Tape) → length t.buf ≡ 512 → t.at + length ws ≤ 512 → take (t.at + length ws) (puts t ws).buf ≡ take t.at t.buf ++ map low ws
unfolding puts put_one
puts-take [] t f l = let z : t.at + 0 ≡ t.at = omega arith in rw z (sym (append-nil (take t.at t.buf)))
puts-take (w ∷ ws) t f l =
    let in-room : t.at % 512 ≡ t.at = omega arith in
    let up : t.at + 1 ≡ suc t.at = omega arith in
    let n : t.at + suc (length ws) ≡ t.at % 512 + 1 + length ws = omega arith in
    let step : take (t.at % 512 + 1) (set t.buf (t.at % 512) (low w)) ≡ take t.at t.buf ++ (low w ∷ []) = rw (in-room, up) (take-suc-set t.buf t.at (low w) (omega arith)) in
    rw n (puts-take ws (put_one t w) (length-set t.buf (t.at % 512) (low w) ∙ f) (omega arith) ∙ ap (λ (l : List ℕ). l ++ map low ws) step ∙ append_assoc (take t.at t.buf) (low w ∷ []) (map low ws))

-- what stands before a place, and from there on
cut_at : (ps qs xs : List ℕ) → take (length ps + length qs) xs ≡ ps ++ qs → (take (length ps) xs ≡ ps) × (part xs (length ps) (length qs) ≡ qs)
unfolding part
cut_at [] qs xs h = (refl, ap (λ (n : ℕ). take n xs) (sym (zero-on (length qs))) ∙ h)
cut_at (p ∷ ps) qs [] h = absurd (nil h)
  where
    nil : (take (suc (length ps) + length qs) [] ≡ p ∷ ps ++ qs) → ⊥
    nil h = let n : suc (length ps) + length qs ≡ suc (length ps + length qs) = omega arith in let z : ◌≡◌ {A = ℕ} 0 (suc (length (ps ++ qs))) = ap length (rw n at h) in absurd (omega arith)
cut_at (p ∷ ps) qs (x ∷ xs) h =
    let n : suc (length ps) + length qs ≡ suc (length ps + length qs) = omega arith in
    let h' : x ∷ take (length ps + length qs) xs ≡ p ∷ ps ++ qs = rw n at h in
    let tail : take (length ps + length qs) xs ≡ ps ++ qs = cc in
    let head : x ≡ p = cc in
    let ih = cut_at ps qs xs tail in
    (rw head (ap (λ (l : List ℕ). p ∷ l) ih.0), ih.1)

low_same : (ws : List ℕ) → Each (λ (w : ℕ). w < 4294967296) ws → map low ws ≡ ws
low_same [] h = refl
low_same (w ∷ ws) h = let l : w < 4294967296 = h.0 in let e : low w ≡ w = omega arith in rw (e, low_same ws h.1)

sets_then : (xs ys l : List ℕ) (i : ℕ) → sets (sets l i xs) (i + length xs) ys ≡ sets l i (xs ++ ys)
sets_then [] ys l i = let z : i + 0 ≡ i = omega arith in rw z
sets_then (x ∷ xs) ys l i = let z : i + suc (length xs) ≡ suc i + length xs = omega arith in rw z (sets_then xs ys (set l i x) (suc i))

pub and-no-left : (a b : Bool) → a ≡ false → a && b ≡ false
and-no-left false b p = refl
and-no-left true b p = absurd (true≢false p)

pub and-no-right : (a b : Bool) → b ≡ false → a && b ≡ false
and-no-right true false p = refl
and-no-right false false p = refl
and-no-right a true p = absurd (true≢false p)

pub and_yes : (a b : Bool) → a ≡ true → b ≡ true → a && b ≡ true
and_yes true true p q = refl
and_yes false b p q = absurd (false≢true p)
and_yes true false p q = absurd (false≢true q)

-- ---- ids that were counted from first_id on
module _ (first : ℕ) where
  -- the word that the code makes of an id is the id
  abbrev Settles : ℕ → Type 0
  Settles w = settled (first % 4294967296) (low w) ≡ moved first_id first w

  settles-low : (w : ℕ) → w < 2147483648 → Settles w
  unfolding settled
  settles-low w h = let e : low w ≡ w = omega arith in rw (stays first_id first w (omega arith), e, lt-ltb w 2147483648 h)

  settles-new : (w : ℕ) → first_id ≤ w → first + (w - first_id) < 4294967296 → w < first_id + 2147483648 → Settles w
  unfolding settled
  settles-new w a b c =
      let e : low w ≡ 2147483648 + (w - first_id) = omega arith in
      rw (moves first_id first w a, e, le-ltb (2147483648 + (w - first_id)) 2147483648 (omega arith)) (omega arith)

  settle-operands : (ws : List ℕ) → Each Settles ws → map (settled (first % 4294967296)) (map low ws) ≡ map (moved first_id first) ws
  settle-operands [] h = refl
  settle-operands (w ∷ ws) h = rw (h.0, settle-operands ws h.1)

  settle-words : (is : List Instr) → Each (InstrOf Settles (λ w h. settles-low w (omega arith))) is → map (settled (first % 4294967296)) (map low (all_words is)) ≡ all_words (map (moved_instr first_id first) is)
  unfolding all_words words_of
  settle-words [] h = refl
  settle-words (i ∷ is) h =
      let a : i.op < 65536 = h.0.0 in
      let b : length i.operands ≤ 8 = h.0.1.0 in
      let w : ℕ = suc (length i.operands) * 65536 + i.op in
      let l : suc (length (map (moved first_id first) i.operands)) ≡ suc (length i.operands) = ap suc (length-map (moved first_id first) i.operands) in
      rw (map-append low i.operands (all_words is), map-append (settled (first % 4294967296)) (map low i.operands) (map low (all_words is)), settle-operands i.operands h.0.1.1, settle-words is h.1, settles-low w (omega arith), stays first_id first w (omega arith), l)

-- ---- the answer

-- no strip in order, or more than one
pub refused-7 : (run : List ℕ) (bound : ℕ) (table out : List ℕ) → survey_from fresh [] (reads_from wide 0 run) ≡ none → refused 7 out ≡ answer run bound table out
unfolding answer written placed
refused-7 run bound table out p = go (shape_ok wide run) refl (decode wide run) refl
  where
    go : (s : Bool) → shape_ok wide run ≡ s → (o : Option (List (List Entry))) → decode wide run ≡ o → refused 7 out ≡ placed (cond s (only_strip (strip_answer table bound (length out)) o) (Refused 7)) out
    go false h o d = refl
    go true h none d = refl
    go true h (some []) d = refl
    go true h (some (es ∷ [])) d = absurd (surveyed-none run p es d h)
    go true h (some (es ∷ ds ∷ ss)) d = refl

-- what is given is the table, the bound and the constants
pub put-is : (t : List ℕ) (b : ℕ) (g : Given) (u w : Tape) → g ≡ given t b g.constants → w ≡ puts u (all_words (const_instrs g g.bound g.constants)) → w ≡ puts u (all_words (const_instrs (given t b g.constants) b g.constants))
put-is t b g u w e h = h ∙ ap (λ (i : Given). puts u (all_words (const_instrs i i.bound g.constants))) e

-- what the pass leaves of a strip in order: its constants and a page, which was blank
pub record Done (run : List ℕ) (bound : ℕ) (table : List ℕ) (l : List Const) (q : Page) : Type 0 where
  pub bytes : Bytes run
  pub bound-fits : bound < 2 ^ 32
  pub table_fits : (j : ℕ) → get_or table j 0 < 2 ^ 32
  pub few : length l ≤ 64
  pub whole : survey_from fresh [] (reads_from wide 0 run) ≡ some l
  pub last : q ≡ entered_part_from table bound [] blank (reads_from wide 0 run)

module _ (run : List ℕ) (bound : ℕ) (table out : List ℕ) (l : List Const) (q : Page) (d : Done run bound table l q) where
  abbrev s : survey_from fresh [] (reads_from wide 0 run) ≡ some l
  s = d.whole

  abbrev es : List Entry
  es = (surveyed-some run l s).0

  decoded : decode wide run ≡ some (es ∷ [])
  decoded = (surveyed-some run l s).1

  ok : shape_ok wide run ≡ true
  ok = (surveyed-some run l s).2

  -- the strip is in order
  in_order : Each (Formed wide) es × (strip_ok es ≡ true)
  in_order = go (shape-strips wide run d.bytes ok)
    where
      go : ((ss : List (List Entry)) × (decode wide run ≡ some ss) × (run ≡ run_bytes wide ss) × Each (Strip wide) ss × (all strip_ok ss ≡ true)) → Each (Formed wide) es × (strip_ok es ≡ true)
      go z =
          let same : some z.0 ≡ some (es ∷ []) = sym z.1 ∙ decoded in
          let is : z.0 ≡ es ∷ [] = cc in
          let e : Each (Strip wide) (es ∷ []) = rw is at z.3 in
          let k : all strip_ok (es ∷ []) ≡ true = rw is at z.4 in
          (e.0.formed, and_left (strip_ok es) _ k)

  abbrev g : Given
  g = given table bound l

  given_is : given_of table bound es ≡ g
  unfolding given_of
  given_is = ap (given table bound) (sym (surveyed-some run l s).3)

  answered : answer run bound table out ≡ placed (strip_answer table bound (length out) es) out
  unfolding answer written
  answered = rw (ok, decoded)

  -- all words, of which the constants' come first
  words_are : strip_words table bound es ≡ all_words (const_instrs g bound l) ++ all_words (body_from g (start_of g) es)
  unfolding strip_words instrs_of_strip
  words_are = rw given_is (words_append (const_instrs g bound l) (body_from g (start_of g) es))

  abbrev p : Page
  p = blank

  abbrev start : Midway
  start = midway first_id [] 0

  abbrev first : ℕ
  first = bound + length l

  fair : FairFrom g [] [] es
  fair = shaped-fair g [] es in_order.0 in_order.1 (rw (← (surveyed-some run l s).3) at (all_listed es))

  like : Like start p
  unfolding decode names
  like = record { next = refl; merge = refl; values = refl; names = λ r h. absurd (omega arith); full = length-replicate {A = Name} 64 (name 0 false) }

  page-is : q ≡ entered_all g p es
  unfolding decode names
  page-is =
      let most = at-most-64 es in_order.1 in
      d.last
      ∙ reads-entries table bound (reads_from wide 0 run) es decoded [] p
      ∙ part-is table bound first_id l [] (omega (arith, d.few)) es [] [] start p like fair (sym (surveyed-some run l s).3) refl (omega arith) (omega arith) (omega arith) (λ r h. let z = ltb-true r 0 (and_left (ltb r 0) _ h) in absurd (omega arith))

  links : Links g p q start es
  unfolding decode names
  links =
      let most = at-most-64 es in_order.1 in
      subst (λ (x : Page). Links g p x start es) (sym page-is) (linked g [] es [] start p like fair refl (omega arith) (omega arith))

  -- a listed constant's id
  const-low : (k : Const) → listed l k ≡ true → const_id g k < first
  unfolding const_id
  const-low k h = let m = ltb-true (place_of l k) (length l) (sym (listed-place l k) ∙ h) in omega (arith, m)

  start_is : start_of g ≡ moved_midway first_id first start
  start_is =
      let y : first + (first_id - first_id) ≡ first = omega arith in
      rw (moves first_id first first_id (omega arith), stays first_id first 0 (omega arith), y)

  moving : (body_from g (moved_midway first_id first start) es ≡ map (moved_instr first_id first) (body_from g start es)) × (last_from g (moved_midway first_id first start) es ≡ moved_midway first_id first (last_from g start es)) × (clash_from g (moved_midway first_id first start) es ≡ clash_from g start es)
  moving = body-moves first_id first g [] (omega arith) (λ j. omega (arith, d.table_fits j)) (λ k h. let m = const-low k h in (omega arith, m)) es [] start fair (omega arith)

  abbrev next : ℕ
  next = first + (q.next - first_id)

  next-is : next ≡ next_id table bound es
  unfolding next_id
  next-is =
      let up = last-above g es start in
      ap (λ (k : ℕ). first + (k - first_id)) links.next ∙ sym (moves first_id first (last_from g start es).next up) ∙ ap (λ (m : Midway). m.next) (sym moving.1) ∙ ap (λ (m : Midway). (last_from g m es).next) (sym start_is) ∙ ap (λ (h : Given). (last_from h (start_of h) es).next) (sym given_is)

  clash : q.clash ≡ clash_from (given_of table bound es) (start_of (given_of table bound es)) es
  clash = links.clash ∙ sym moving.2 ∙ ap (λ (m : Midway). clash_from g m es) (sym start_is) ∙ ap (λ (h : Given). clash_from h (start_of h) es) (sym given_is)

  pub next-begins : first_id ≤ q.next
  next-begins = rw links.next (last-above g es start)

  pub next-ends : q.next ≤ first_id + 128
  next-ends = rw links.next (omega (arith, last-below g es start, at-most-64 es in_order.1))

  abbrev verdict : Bool → Bool → Bool → Written
  verdict c t r = cond c (Refused 17) (cond t (cond r (Refused 11) (Words (strip_words table bound es) (length (all_words (const_instrs (given_of table bound es) bound (constants_of es)))) (next_id table bound es))) (Refused 10))

  verdict-is : (c t r : Bool) → clash_from (given_of table bound es) (start_of (given_of table bound es)) es ≡ c → table_ok table bound && ids_ok table bound es ≡ t → ltb (length out) (length (strip_words table bound es)) ≡ r → placed (verdict c t r) out ≡ answer run bound table out
  unfolding strip_answer given_of
  verdict-is c t r x y z = sym (answered ∙ ap (λ (w : Written). placed w out) (rw (x, y, z)))

  pub refused-17 : q.clash ≡ true → refused 17 out ≡ answer run bound table out
  unfolding placed
  refused-17 h = verdict-is true (table_ok table bound && ids_ok table bound es) (ltb (length out) (length (strip_words table bound es))) (sym clash ∙ h) refl refl

  module _ (signs-agree : q.clash ≡ false) where
    no-clash : clash_from (given_of table bound es) (start_of (given_of table bound es)) es ≡ false
    no-clash = sym clash ∙ signs-agree

    pub refused-10 : table_ok table bound && (leb next (suc id_limit) || eqb next bound) ≡ false → refused 10 out ≡ answer run bound table out
    unfolding placed ids_ok
    refused-10 h = verdict-is false false (ltb (length out) (length (strip_words table bound es))) no-clash (rw next-is at h) refl

    module _ (ids-in-order : table_ok table bound && (leb next (suc id_limit) || eqb next bound) ≡ true) where
      both_ok : table_ok table bound && ids_ok table bound es ≡ true
      unfolding ids_ok
      both_ok = rw next-is at ids-in-order

      -- a new id
      new-low : (i : ℕ) → bound ≤ i → i < next → i ≤ id_limit
      new-low i u v = go (leb next (suc id_limit)) refl (and_right (table_ok table bound) _ ids-in-order)
        where
          go : (b : Bool) → leb next (suc id_limit) ≡ b → b || eqb next bound ≡ true → i ≤ id_limit
          go true x h = let l = leb-true next (suc id_limit) x in omega arith
          go false x h = let e = eqb-true next bound h in absurd (omega arith)

      lents : (j : ℕ) → get_or table j 0 ≤ id_limit
      unfolding table_ok
      lents = lents-low table bound (and_left (all (lent_ok bound) table) _ (and_right (eqb (length table) 303) _ (and_left (table_ok table bound) _ ids-in-order)))

      -- the list of constants, the words as they were counted, and as they are
      abbrev constants : List ℕ
      constants = all_words (const_instrs g bound l)

      abbrev counted : List ℕ
      counted = all_words (body_from g start es)

      abbrev body : List ℕ
      body = all_words (body_from g (start_of g) es)

      settled-body : map (settled (first % 4294967296)) (map low counted) ≡ body
      unfolding const_id
      settled-body =
          settle-words first (body_from g start es)
          (body-fits (Settles first) (λ w h. settles-low first w (omega arith)) g (λ j. settles-low first (lent g j) (omega (arith, lents j))) (λ k h. let m = const-low k h in settles-low first (const_id g k) (omega (arith, new-low (const_id g k) (omega arith) (omega arith)))) [] q.next es [] start fair
          (record { names = tt; merge = settles-low first 0 (omega arith); new = λ i u v. let m = new-low (first + (i - first_id)) (omega arith) (omega arith) in settles-new first i u (omega arith) (omega arith) }) (omega (arith, links.next)))
          ∙ ap all_words (sym moving.0) ∙ ap (λ (m : Midway). all_words (body_from g m es)) (sym start_is)

      counted-length : length counted ≡ length body
      counted-length = sym (length-map low counted) ∙ sym (length-map (settled (first % 4294967296)) (map low counted)) ∙ ap length settled-body

      whole_length : length (strip_words table bound es) ≡ length constants + length body
      whole_length = ap length words_are ∙ length-append constants body

      sized : length constants + length counted ≤ 448
      sized = omega (arith, strip-sized table bound es in_order.0 in_order.1, whole_length, counted-length)

      at-is : q.words.at ≡ length counted
      at-is = ap (λ (t : Tape). t.at) links.words ∙ puts-at counted (tape (replicate 512 0) 0) (omega (arith, sized)) ∙ zero-on (length counted)

      body-words : take q.words.at q.words.buf ≡ map low counted
      body-words = ap₂ (λ (k : ℕ) (m : List ℕ). take k m) (at-is ∙ sym (zero-on (length counted))) (ap (λ (t : Tape). t.buf) links.words) ∙ puts-take counted (tape (replicate 512 0) 0) (length-replicate {A = ℕ} 512 0) (omega (arith, sized))

      full-buf : length q.words.buf ≡ 512
      full-buf = ap (λ (t : Tape). length t.buf) links.words ∙ puts-full counted (tape (replicate 512 0) 0) ∙ length-replicate {A = ℕ} 512 0

      -- then the list of constants is put after them
      module _ (w : Tape) (put : w ≡ puts q.words constants) where
        end_is : w.at ≡ length constants + length counted
        end_is = ap (λ (t : Tape). t.at) put ∙ puts-at constants q.words (omega (arith, sized, at-is)) ∙ sum at-is
          where
            sum : q.words.at ≡ length counted → q.words.at + length constants ≡ length constants + length counted
            sum h = omega arith

        pub room-of-buffer : (q.words.at ≤ w.at) × ((w.at ≤ 512) × (length w.buf ≡ 512))
        room-of-buffer = (omega (arith, end_is, at-is), (omega (arith, end_is, sized), ap (λ (t : Tape). length t.buf) put ∙ puts-full constants q.words ∙ full-buf))

        both-parts : (take q.words.at w.buf ≡ map low counted) × (part w.buf q.words.at (w.at - q.words.at) ≡ constants)
        both-parts =
            let k : q.words.at ≡ length (map low counted) = at-is ∙ sym (length-map low counted) in
            let m : w.at - q.words.at ≡ length constants = omega (arith, end_is, at-is) in
            let fit : map low constants ≡ constants = subst (λ (ks : List Const). map low (all_words (const_instrs g bound ks)) ≡ all_words (const_instrs g bound ks)) (sym (surveyed-some run l s).3) (low_same _ (strip-consts-fit g (λ j. omega (arith, lents j)) es in_order.0 bound (λ j u v. omega (arith, new-low j u (omega (arith, v, ap length (surveyed-some run l s).3, next-begins)))))) in
            let h : take (length (map low counted) + length constants) w.buf ≡ map low counted ++ constants =
            ap (λ (x : ℕ). take (x + length constants) w.buf) (sym k) ∙ (ap (λ (t : Tape). take (q.words.at + length constants) t.buf) put ∙ puts-take constants q.words full-buf (omega (arith, sized, at-is)) ∙ ap₂ (λ (x y : List ℕ). x ++ y) body-words fit) in
            let cut = cut_at (map low counted) constants w.buf h in
            (ap (λ (x : ℕ). take x w.buf) k ∙ cut.0, ap₂ (part w.buf) k m ∙ cut.1)

        pub refused-11 : length out < w.at → refused 11 out ≡ answer run bound table out
        unfolding placed
        refused-11 h = verdict-is false true true no-clash both_ok (lt-ltb (length out) (length (strip_words table bound es)) (omega (arith, h, end_is, whole_length, counted-length)))

        constants-are : w.at - q.words.at ≡ length (all_words (const_instrs (given_of table bound es) bound (constants_of es)))
        constants-are = minus ∙ ap₂ (λ (h : Given) (ks : List Const). length (all_words (const_instrs h bound ks))) (sym given_is) (surveyed-some run l s).3
          where
            minus : w.at - q.words.at ≡ length constants
            minus = omega (arith, end_is, at-is)

        -- and both are copied, first the list of constants
        module _ (out₁ : List ℕ) (copied : out₁ ≡ sets out 0 (part w.buf q.words.at (w.at - q.words.at))) where
          pub copied-length : length out₁ ≡ length out
          copied-length = ap length copied ∙ length-sets out 0 (part w.buf q.words.at (w.at - q.words.at))

          pub accepts : (f : ℕ) → f ≡ first → (out₂ : List ℕ) → out₂ ≡ sets out₁ (w.at - q.words.at) (map (settled (f % 4294967296)) (take q.words.at w.buf)) → w.at ≤ length out → accepted w.at (w.at - q.words.at) (f + (q.next - first_id)) out₂ ≡ answer run bound table out
          unfolding placed
          accepts f is out₂ settled-too h =
              let m : w.at - q.words.at ≡ 0 + length constants = omega (arith, end_is, at-is) in
              let e : w.at ≡ length (strip_words table bound es) = omega (arith, end_is, whole_length, counted-length) in
              let z : 0 + length (strip_words table bound es) ≡ length (strip_words table bound es) = omega arith in
              let whole : out₂ ≡ strip_words table bound es ++ drop (length (strip_words table bound es)) out =
              rw (settled-too, copied, is, both-parts.0, both-parts.1, settled-body, m) (sets_then constants body out 0 ∙ ap (sets out 0) (sym words_are) ∙ sets-eq (strip_words table bound es) out 0 (omega arith) ∙ ap (λ (k : ℕ). strip_words table bound es ++ drop k out) z) in
              rw (whole, is, constants-are, e, next-is)
              (verdict-is false true false no-clash both_ok (le-ltb (length out) (length (strip_words table bound es)) (omega arith)))
