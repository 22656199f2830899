-- What the SPIR-V specification calls invalid is refused by the check: an example for each rule, beside one that is valid. 1: the unsigned type,
-- 2: the type of truths, 3: a variable of words, 4: of truths.
use Rattle.std.proofs.Common.{◌≡◌, ℕ, Bool, true, cond, not, ◌&&◌, eqb, List, [], ◌∷◌, refl}
use Rattle.strip.specs.Shape.{all}
use Rattle.spirv.specs.Instr.{Instr, instr, words_of, all_words, instrs_from}
use Rattle.spirv.specs.Reading.{labels}
use Rattle.spirv.specs.Valid.{Sort, Unnamed, TypeIs, Variable, type_number, value_type, pointee, rule_of, fit_all, rule_ok, result, check_const, check_truth, check_load, check_store, check_op, check_core, check_merge, check_branch, check_jump, check_label, checked, valid_from, results_of, structured_from, until, since, scoped, laid_out, valid}

sorts : ℕ → Sort
sorts i = cond (eqb i 1) (TypeIs 0) (cond (eqb i 2) (TypeIs 2) (cond (eqb i 3) (Variable 0) (cond (eqb i 4) (Variable 2) Unnamed)))

abbrev passes : List Instr → Bool
passes is = valid sorts (all_words is)

abbrev word : Instr
word = instr 43 (1 ∷ 10 ∷ 7 ∷ [])

abbrev truth : Instr
truth = instr 61 (2 ∷ 11 ∷ 4 ∷ [])

abbrev merge : Instr
merge = instr 247 (13 ∷ 0 ∷ [])

abbrev select : Instr
select = instr 250 (11 ∷ 12 ∷ 13 ∷ [])

abbrev block : Instr
block = instr 248 (12 ∷ [])

abbrev sum : Instr
sum = instr 128 (1 ∷ 14 ∷ 10 ∷ 10 ∷ [])

abbrev store : Instr
store = instr 62 (3 ∷ 14 ∷ [])

abbrev keep : Instr
keep = instr 62 (4 ∷ 11 ∷ [])

abbrev leave : Instr
leave = instr 249 (13 ∷ [])

abbrev join : Instr
join = instr 248 (13 ∷ [])

abbrev valids : List (List Instr)
valids =
    []
    ∷ (word ∷ truth ∷ merge ∷ select ∷ block ∷ sum ∷ store ∷ leave ∷ join ∷ [])
    ∷ (word ∷ sum ∷ store ∷ truth ∷ merge ∷ select ∷ block ∷ store ∷ leave ∷ join ∷ store ∷ [])
    ∷ []

abbrev invalids : List (List Instr)
invalids =
    (word ∷ word ∷ [])  -- an id made twice
    ∷ (word ∷ instr 61 (1 ∷ 3 ∷ 3 ∷ []) ∷ [])  -- an id that stands for a lent thing
    ∷ (truth ∷ merge ∷ select ∷ block ∷ leave ∷ join ∷ instr 61 (1 ∷ 12 ∷ 3 ∷ []) ∷ [])  -- an id that is a label
    ∷ (truth ∷ merge ∷ instr 250 (11 ∷ 13 ∷ 13 ∷ []) ∷ join ∷ leave ∷ join ∷ [])  -- a label made twice
    ∷ (sum ∷ [])  -- ids used before they are made
    ∷ (word ∷ store ∷ sum ∷ [])
    ∷ (merge ∷ select ∷ block ∷ leave ∷ join ∷ truth ∷ [])
    ∷ (word ∷ truth ∷ merge ∷ select ∷ block ∷ sum ∷ leave ∷ join ∷ store ∷ [])  -- one that is made only where the block runs
    ∷ (truth ∷ merge ∷ select ∷ block ∷ instr 62 (4 ∷ 12 ∷ []) ∷ leave ∷ join ∷ [])  -- a label as a value
    ∷ (word ∷ instr 62 (4 ∷ 10 ∷ []) ∷ [])  -- a word stored where truths are
    ∷ (word ∷ merge ∷ instr 250 (10 ∷ 12 ∷ 13 ∷ []) ∷ block ∷ leave ∷ join ∷ [])  -- a word as a condition
    ∷ (truth ∷ merge ∷ select ∷ block ∷ instr 249 (15 ∷ []) ∷ join ∷ [])  -- branches to no label
    ∷ (truth ∷ merge ∷ select ∷ block ∷ leave ∷ [])
    ∷ (truth ∷ merge ∷ instr 250 (11 ∷ 12 ∷ 15 ∷ []) ∷ block ∷ leave ∷ join ∷ [])
    ∷ (truth ∷ merge ∷ instr 250 (11 ∷ 15 ∷ 13 ∷ []) ∷ block ∷ leave ∷ join ∷ [])
    ∷ (truth ∷ instr 247 (15 ∷ 0 ∷ []) ∷ select ∷ block ∷ leave ∷ join ∷ [])  -- a merge block that there is not
    ∷ (truth ∷ merge ∷ select ∷ block ∷ [])  -- a block whose end is missing
    ∷ (truth ∷ select ∷ block ∷ leave ∷ join ∷ [])  -- OpBranchConditional without a merge
    ∷ (truth ∷ merge ∷ [])  -- a merge without it
    ∷ (truth ∷ merge ∷ keep ∷ select ∷ block ∷ leave ∷ join ∷ [])
    ∷ (block ∷ [])  -- a label in a block
    ∷ (truth ∷ merge ∷ select ∷ block ∷ leave ∷ keep ∷ join ∷ [])  -- an instruction after a branch
    ∷ (truth ∷ word ∷ [])  -- a constant in the function
    ∷ (instr 43 (1 ∷ 10 ∷ []) ∷ [])  -- other lengths
    ∷ (instr 43 (1 ∷ 10 ∷ 7 ∷ 7 ∷ []) ∷ [])
    ∷ (word ∷ instr 128 (1 ∷ 14 ∷ 10 ∷ []) ∷ [])
    ∷ (word ∷ instr 128 (1 ∷ 14 ∷ 10 ∷ 10 ∷ 10 ∷ []) ∷ [])
    ∷ (truth ∷ instr 247 (13 ∷ []) ∷ select ∷ block ∷ leave ∷ join ∷ [])
    ∷ (truth ∷ merge ∷ instr 250 (11 ∷ 12 ∷ 13 ∷ 1 ∷ 1 ∷ []) ∷ block ∷ leave ∷ join ∷ [])
    ∷ (truth ∷ merge ∷ select ∷ instr 248 (12 ∷ 12 ∷ []) ∷ leave ∷ join ∷ [])
    ∷ (truth ∷ merge ∷ select ∷ block ∷ instr 249 (13 ∷ 13 ∷ []) ∷ join ∷ [])
    ∷ (instr 0 (1 ∷ 10 ∷ []) ∷ [])  -- no instruction of these
    ∷ []

passing : all passes valids && all (λ is. not (passes is)) invalids ≡ true
unfolding sorts valid valid_from checked check_const check_truth check_load check_store check_op check_core check_merge check_branch check_jump check_label result type_number value_type pointee rule_of fit_all rule_ok results_of structured_from until since scoped laid_out labels all_words words_of instrs_from
passing = refl

-- words that are cut, and a count of 0
cut : not (valid sorts (262187 ∷ 1 ∷ 10 ∷ [])) && not (valid sorts (0 ∷ [])) ≡ true
unfolding valid instrs_from
cut = refl
