-- The words of an accepted strip have the types that the specification asks for: here 17 is needed.
use Rattle.std.proofs.Common.{◌≡◌, ℕ, Bool, true, false, cond, ◌&&◌, eqb, List, [], ◌∷◌, refl, true≢false}
use mathlib.Core.Bool.{xor}
use Rattle.strip.specs.Format.{format_of}
use Rattle.strip.proofs.Tests.{among}
use Rattle.spirv.specs.declared.opcodes.Op.{Op}
use Rattle.spirv.specs.declared.opcodes.Op.TheVariants.{Core, Glsl}
use Rattle.spirv.specs.Opcodes.{op_of}
use Rattle.spirv.specs.Valid.{Rule, core_rules, glsl_rules, rule_of, fit_all, rule_ok}
use Rattle.spirv.proofs.Keys.{keys, kinds_of}

-- the type of a value of this kind, signed or not
unfoldable pub num_of : ℕ → Bool → ℕ
num_of k s = cond (eqb k 2) 2 (cond (eqb k 4) 3 (cond s 1 0))

unfoldable pub numbers : List ℕ → List Bool → List ℕ
numbers [] ss = []
numbers (k ∷ ks) [] = num_of k false ∷ numbers ks []
numbers (k ∷ ks) (s ∷ ss) = num_of k s ∷ numbers ks ss

unfoldable pub sign_in : List ℕ → List Bool → Bool
sign_in [] ss = false
sign_in (k ∷ ks) [] = false
sign_in (k ∷ ks) (s ∷ ss) = cond (eqb k 1) s (sign_in ks ss)

-- the sign of what kind k makes of operands of these signs
abbrev pub op_sign : ℕ → List Bool → Bool
op_sign k ss = eqb (format_of k).result 1 && sign_in (format_of k).operands ss

unfoldable pub op_rule : Op → Rule
op_rule (Core n) = rule_of core_rules n
op_rule (Glsl n) = rule_of glsl_rules n

-- an operation on operands of these signs keeps its rule
unfoldable pub ok_op : ℕ → List Bool → Bool
ok_op k ss = rule_ok (op_rule (op_of k)) (num_of (format_of k).result (op_sign k ss)) (numbers (format_of k).operands ss)

both : (f : Bool → Bool) → f true ≡ true → f false ≡ true → (a : Bool) → f a ≡ true
both f x y true = x
both f x y false = y

all2 : (f : Bool → Bool → Bool) → f true true ≡ true → f true false ≡ true → f false true ≡ true → f false false ≡ true → (a b : Bool) → f a b ≡ true
all2 f w x y z true true = w
all2 f w x y z true false = x
all2 f w x y z false true = y
all2 f w x y z false false = z

-- one line for each kind
abbrev One : ℕ → Type 0
One k = (a : Bool) → ok_op k (a ∷ []) ≡ true

pub one-rule : (k : ℕ) → among (20 ∷ 21 ∷ 22 ∷ 25 ∷ 26 ∷ 27 ∷ 80 ∷ []) k ≡ true → One k
unfolding ok_op op_rule op_of format_of sign_in numbers num_of rule_of rule_ok fit_all
one-rule k h = keys One (20 ∷ 21 ∷ 22 ∷ 25 ∷ 26 ∷ 27 ∷ 80 ∷ []) k h (both (λ a. ok_op 20 (a ∷ [])) refl refl, (both (λ a. ok_op 21 (a ∷ [])) refl refl, (both (λ a. ok_op 22 (a ∷ [])) refl refl, (both (λ a. ok_op 25 (a ∷ [])) refl refl, (both (λ a. ok_op 26 (a ∷ [])) refl refl, (both (λ a. ok_op 27 (a ∷ [])) refl refl, (both (λ a. ok_op 80 (a ∷ [])) refl refl, tt)))))))

abbrev Two : ℕ → Type 0
Two k = (a b : Bool) → ok_op k (a ∷ b ∷ []) ≡ true

pub two-rule : (k : ℕ) → among (kinds_of 6) k ≡ true → Two k
unfolding ok_op op_rule op_of format_of sign_in numbers num_of rule_of rule_ok fit_all
two-rule k h = keys Two (kinds_of 6) k h (all2 (λ a b. ok_op 40 (a ∷ b ∷ [])) refl refl refl refl, (all2 (λ a b. ok_op 41 (a ∷ b ∷ [])) refl refl refl refl, (all2 (λ a b. ok_op 42 (a ∷ b ∷ [])) refl refl refl refl, (all2 (λ a b. ok_op 43 (a ∷ b ∷ [])) refl refl refl refl, (all2 (λ a b. ok_op 44 (a ∷ b ∷ [])) refl refl refl refl, (all2 (λ a b. ok_op 45 (a ∷ b ∷ [])) refl refl refl refl, (all2 (λ a b. ok_op 46 (a ∷ b ∷ [])) refl refl refl refl, (all2 (λ a b. ok_op 47 (a ∷ b ∷ [])) refl refl refl refl, (all2 (λ a b. ok_op 48 (a ∷ b ∷ [])) refl refl refl refl, (all2 (λ a b. ok_op 49 (a ∷ b ∷ [])) refl refl refl refl, (all2 (λ a b. ok_op 50 (a ∷ b ∷ [])) refl refl refl refl, (all2 (λ a b. ok_op 51 (a ∷ b ∷ [])) refl refl refl refl, (all2 (λ a b. ok_op 52 (a ∷ b ∷ [])) refl refl refl refl, (all2 (λ a b. ok_op 60 (a ∷ b ∷ [])) refl refl refl refl, (all2 (λ a b. ok_op 61 (a ∷ b ∷ [])) refl refl refl refl, (all2 (λ a b. ok_op 62 (a ∷ b ∷ [])) refl refl refl refl, (all2 (λ a b. ok_op 63 (a ∷ b ∷ [])) refl refl refl refl, (all2 (λ a b. ok_op 64 (a ∷ b ∷ [])) refl refl refl refl, (all2 (λ a b. ok_op 65 (a ∷ b ∷ [])) refl refl refl refl, (all2 (λ a b. ok_op 66 (a ∷ b ∷ [])) refl refl refl refl, (all2 (λ a b. ok_op 67 (a ∷ b ∷ [])) refl refl refl refl, (all2 (λ a b. ok_op 68 (a ∷ b ∷ [])) refl refl refl refl, (all2 (λ a b. ok_op 69 (a ∷ b ∷ [])) refl refl refl refl, (all2 (λ a b. ok_op 81 (a ∷ b ∷ [])) refl refl refl refl, (all2 (λ a b. ok_op 82 (a ∷ b ∷ [])) refl refl refl refl, (all2 (λ a b. ok_op 83 (a ∷ b ∷ [])) refl refl refl refl, tt))))))))))))))))))))))))))

-- select: the two words have one sign
abbrev Three : ℕ → Type 0
Three k = (a b c : Bool) → eqb k 90 && xor b c ≡ false → ok_op k (a ∷ b ∷ c ∷ []) ≡ true

pub three-rule : (k : ℕ) → among (90 ∷ 91 ∷ 92 ∷ []) k ≡ true → Three k
unfolding ok_op op_rule op_of format_of sign_in numbers num_of rule_of rule_ok fit_all xor
three-rule k h = keys Three (90 ∷ 91 ∷ 92 ∷ []) k h (select, ((λ a b c p. extract-u a b c), ((λ a b c p. extract-s a b c), tt)))
  where
    select : (a b c : Bool) → eqb 90 90 && xor b c ≡ false → ok_op 90 (a ∷ b ∷ c ∷ []) ≡ true
    select true true true p = refl
    select true true false p = absurd (true≢false p)
    select true false true p = absurd (true≢false p)
    select true false false p = refl
    select false true true p = refl
    select false true false p = absurd (true≢false p)
    select false false true p = absurd (true≢false p)
    select false false false p = refl

    extract-u : (a b c : Bool) → ok_op 91 (a ∷ b ∷ c ∷ []) ≡ true
    extract-u true b c = all2 (λ b c. ok_op 91 (true ∷ b ∷ c ∷ [])) refl refl refl refl b c
    extract-u false b c = all2 (λ b c. ok_op 91 (false ∷ b ∷ c ∷ [])) refl refl refl refl b c

    extract-s : (a b c : Bool) → ok_op 92 (a ∷ b ∷ c ∷ []) ≡ true
    extract-s true b c = all2 (λ b c. ok_op 92 (true ∷ b ∷ c ∷ [])) refl refl refl refl b c
    extract-s false b c = all2 (λ b c. ok_op 92 (false ∷ b ∷ c ∷ [])) refl refl refl refl b c

-- insert: base and insert have one sign
pub insert-rule : (a b c d : Bool) → xor a b ≡ false → ok_op 93 (a ∷ b ∷ c ∷ d ∷ []) ≡ true
unfolding ok_op op_rule op_of format_of sign_in numbers num_of rule_of rule_ok fit_all xor
insert-rule true false c d p = absurd (true≢false p)
insert-rule false true c d p = absurd (true≢false p)
insert-rule true true c d p = all2 (λ c d. ok_op 93 (true ∷ true ∷ c ∷ d ∷ [])) refl refl refl refl c d
insert-rule false false c d p = all2 (λ c d. ok_op 93 (false ∷ false ∷ c ∷ d ∷ [])) refl refl refl refl c d
