-- How the code keeps what it writes: names and constants in arrays, words in a buffer; and its pass over the bytes. That it comes to specs/Writer.antt is
-- proved, so a reader need not believe this page.
use Rattle.std.specs.Prelude.{◌≡◌, ℕ, ◌+◌, ◌-◌, ◌*◌, ◌/◌, ◌%◌, ◌^◌, ◌≤◌, Bool, true, false, cond, ◌&&◌, List, [], ◌∷◌, length, take, drop, replicate, ◌==◌, nat_lt, slice_index_or, slice_set, Result, Ok, Err, Some, None}
use Rattle.std.proofs.Math.Option.{Option, none, some}
use Rattle.strip.specs.declared.reader.Entry.{Entry}
use Rattle.strip.specs.declared.shape.Shape.{Shape}
use Rattle.strip.specs.Entry.{Read, wide, reads_from}
use Rattle.strip.specs.Shape.{is_end}
use Rattle.strip.specs.Pass as Shape
use Rattle.spirv.specs.declared.plan.Name.{Name}
use Rattle.spirv.specs.declared.given.Constant.{Constant}
use Rattle.spirv.specs.declared.given.Constant.TheVariants as Of
use Rattle.spirv.specs.declared.page.Tape.{Tape}
use Rattle.spirv.specs.declared.page.Page.{Page}
use Rattle.spirv.specs.declared.answer.Refusal.{Refusal}
use Rattle.spirv.specs.declared.answer.Refusal.TheVariants.{BadShape}
use Rattle.spirv.specs.Instr.{all_words}
use Rattle.spirv.specs.Writer.{Const, const, const_of, with_new, Given, given, name, Plan, Silent, Known, Made, Stores, Opens, Closes, midway, instrs_by, plan_of, clashes}

-- ---- the shape, and the list of constants

-- a constant as the code has it
abbrev pub constant : Constant → Const
constant (Of.Word w) = const 1 w
constant Of.True = const 2 0
constant Of.False = const 3 0

-- with the constant that an entry is, if it is one, in the list
abbrev pub noted : Given → Entry → Given
noted g e = given g.table g.bound (with_new g.constants (const_of e))

-- the constants of one strip; none where it is not well-formed, or not the only one
abbrev pub ending : List Const → List Read → Option (List Const)
ending ks [] = some ks
ending ks (r ∷ rs) = none

unfoldable pub survey_from : Shape → List Const → List Read → Option (List Const)
survey_from g ks [] = none
survey_from g ks (Some (e, n) ∷ rs) =
    cond ((Shape.stepped g e).left == 0) none
    (cond (is_end e) (ending (with_new ks (const_of e)) rs) (survey_from (Shape.stepped g e) (with_new ks (const_of e)) rs))
survey_from g ks (None ∷ rs) = none

-- ---- the table

-- each number is above the one before it
unfoldable pub rising : ℕ → List ℕ → Bool
rising last [] = true
rising last (x ∷ xs) = nat_lt last x && rising x xs

-- the bucket in which an id is looked for
unfoldable pub bucket_of : ℕ → ℕ
bucket_of x = x * 2654435769 / 4194304 % 1024

-- ---- the words

-- names in an array
abbrev pub look_of : List Name → ℕ → Name
look_of names r = slice_index_or names (r % 64) (name 0 false)

-- a buffer of 512 words, and where the next one goes
abbrev pub tape : List ℕ → ℕ → Tape
tape l i = record { buf = l; at = i }

unfoldable pub put_one : Tape → ℕ → Tape
put_one t w = tape (slice_set t.buf (t.at % 512) (w % 4294967296)) (t.at % 512 + 1)

unfoldable pub puts : Tape → List ℕ → Tape
puts t [] = t
puts t (w ∷ ws) = puts (put_one t w) ws

-- one value more
unfoldable pub named : Page → Name → Page
named p x = record p { values = p.values % 64 + 1; names = slice_set p.names (p.values % 64) x }

-- one value more, whose id is the next one
abbrev pub taken : Page → Bool → Page
taken p s = named (record p { next = (p.next + 1) % 2 ^ 64 }) (name p.next s)

-- the plan's words, with the next id and the merge label moved on
unfoldable pub laid : Page → ℕ → ℕ → Plan → Page
laid p next merge plan = record p { next = next; merge = merge; words = puts p.words (all_words (instrs_by (midway p.next [] p.merge) plan)) }

unfoldable pub wrote : Page → Plan → Page
wrote p Silent = p
wrote p (Known x) = named p x
wrote p (Made op t xs s) = named (laid p ((p.next + 1) % 2 ^ 64) p.merge (Made op t xs s)) (name p.next s)
wrote p (Stores a v) = laid p p.next p.merge (Stores a v)
wrote p (Opens c) = laid p ((p.next + 2) % 2 ^ 64) ((p.next + 1) % 2 ^ 64) (Opens c)
wrote p Closes = laid p p.next p.merge Closes

-- 17 is met, or not
unfoldable pub clashed : Bool → Page → Page
clashed b p = cond b (record p { clash = true }) p

-- an entry
unfoldable pub entered : Given → Page → Entry → Page
entered g p e = clashed (clashes g (look_of p.names) e) (wrote p (plan_of g (look_of p.names) e))

-- the ids of the body are counted from here on until it is known how many constants there are: 2 ^ 40 + 2 ^ 31, above all others
abbrev pub first_id : ℕ
first_id = 1101659111424

-- before the first entry
abbrev pub blank : Page
blank = record { next = first_id; merge = 0; values = 0; names = replicate 64 (name 0 false); words = tape (replicate 512 0) 0; clash = false }

-- entry after entry, as they are read, each with the constants so far
unfoldable pub entered_part_from : List ℕ → ℕ → List Const → Page → List Read → Page
entered_part_from table bound l p [] = p
entered_part_from table bound l p (Some (e, n) ∷ rs) = entered_part_from table bound (with_new l (const_of e)) (entered (given table bound (with_new l (const_of e))) p e) rs
entered_part_from table bound l p (None ∷ rs) = p

-- What the pass finds: the bytes are one strip in order, and then its constants are listed and its words written; or they are not.
abbrev pub Passes : List ℕ → Given → Page → Result (Unit {0}) Refusal → Given → Page → Type 0
Passes run g p (Ok u) h q =
    (survey_from Shape.fresh [] (reads_from wide 0 run) ≡ some h.constants) × (h ≡ given g.table g.bound h.constants) × (length h.constants ≤ 64) × (q ≡ entered_part_from g.table g.bound [] p (reads_from wide 0 run))
Passes run g p (Err r) h q = (survey_from Shape.fresh [] (reads_from wide 0 run) ≡ none) × (r ≡ BadShape)

-- n words from a place on
unfoldable pub part : List ℕ → ℕ → ℕ → List ℕ
part buf at n = take n (drop at buf)

-- a word of the body, where its ids begin at `first`
unfoldable pub settled : ℕ → ℕ → ℕ
settled first w = cond (nat_lt w 2147483648) w ((w - 2147483648 + first) % 4294967296)
