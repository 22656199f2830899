-- What the lent ids name: the declarations of the module that the words go into.
use Rattle.std.specs.Prelude.{ℕ, suc, ◌-◌, cond, List, [], ◌∷◌, ◌==◌, nat_lt}
use Rattle.evaluation.specs.declared.value.Value.TheVariants.{Slot}
use Rattle.spirv.specs.Reading.{Thing, Nothing, Types, Imported, Register, Predicate, Flag, Holds, Env}
use Rattle.spirv.specs.Valid.{Sort, Unnamed, TypeIs, SetIs, Variable, Block, Sorts}

-- what stands at place j of the table: three types and the pointer type, the import, 255 registers, 7 predicates, 4 flags, 32 slots
unfoldable pub role_of : ℕ → Thing
role_of j =
    cond (nat_lt j 4) (Types j)
    (cond (j == 4) Imported
    (cond (nat_lt j 260) (Register (j - 5))
    (cond (nat_lt j 267) (Predicate (j - 260))
    (cond (nat_lt j 271) (Flag (j - 267))
    (cond (nat_lt j 303) (Holds (Slot (j - 271))) Nothing)))))

-- the place of an id in the table; after its end where it has none
unfoldable pub where_in : List ℕ → ℕ → ℕ
where_in [] i = 0
where_in (x ∷ xs) i = cond (x == i) 0 (suc (where_in xs i))

unfoldable pub lent_env : List ℕ → Env
lent_env table i = role_of (where_in table i)

-- what each stands for in the check of types: registers are variables of words, predicates and flags of truths; the values are the slots
unfoldable pub sort_of : Thing → Sort
sort_of Nothing = Unnamed
sort_of (Types n) = TypeIs n
sort_of Imported = SetIs
sort_of (Register n) = Variable 0
sort_of (Predicate n) = Variable 2
sort_of (Flag n) = Variable 2
sort_of (Holds v) = Block

unfoldable pub lent_sorts : List ℕ → Sorts
lent_sorts table i = sort_of (lent_env table i)
