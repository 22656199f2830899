-- Each operation's opcode means what the operation is: one line for each kind.
use Rattle.std.proofs.Common.{◌≡◌, ℕ, Bool, true, false, cond, not, ◌&&◌, eqb, ltb, List, [], ◌∷◌, refl}
use mathlib.Core.Option.{Option, some}
use borrow.Author.Tests.{not-true}
use Rattle.strip.proofs.Tests.{among, and_left, and_right}
use Rattle.evaluation.specs.declared.value.Value.{Value}
use Rattle.evaluation.specs.Word.{unary_word, binary_word, compare_word, logic_truth, extract_word, insert_word}
use Rattle.evaluation.specs.Value.{unary, negated, binary, compared, logic, two, chosen, extracted, three, inserted_value}
use Rattle.strip.specs.Shape.{all}
use Rattle.spirv.specs.declared.opcodes.Op.{Op}
use Rattle.spirv.specs.declared.opcodes.Op.TheVariants.{Core, Glsl}
use Rattle.spirv.specs.Opcodes.{Row, rows, lookup, op_of}
use Rattle.spirv.specs.Reading.{one_op, two_op, three_op, four_op, core_op, one_glsl, two_glsl, glsl_op}
use Rattle.spirv.proofs.Keys.{keys}

-- what an operation makes of values
unfoldable pub value_op : Op → List Value → Option Value
value_op (Core n) vs = core_op n vs
value_op (Glsl n) vs = glsl_op n vs

abbrev OneIs : ℕ → Type 0
OneIs k = (a : Value) → value_op (op_of k) (a ∷ []) ≡ some (unary k a)

pub one-is : (k : ℕ) → among (20 ∷ 21 ∷ 22 ∷ 23 ∷ 24 ∷ 25 ∷ 26 ∷ 27 ∷ []) k ≡ true → OneIs k
unfolding value_op op_of core_op one_op glsl_op one_glsl unary unary_word
one-is k h = keys OneIs (20 ∷ 21 ∷ 22 ∷ 23 ∷ 24 ∷ 25 ∷ 26 ∷ 27 ∷ []) k h ((λ a. refl), ((λ a. refl), ((λ a. refl), ((λ a. refl), ((λ a. refl), ((λ a. refl), ((λ a. refl), ((λ a. refl), tt))))))))

pub not_is : (a : Value) → value_op (op_of 80) (a ∷ []) ≡ some (negated a)
unfolding value_op op_of core_op one_op negated
not_is a = refl

abbrev TwoIs : ℕ → Type 0
TwoIs k = (a b : Value) → value_op (op_of k) (a ∷ b ∷ []) ≡ some (two k a b)

abbrev twos : List ℕ
twos = 40 ∷ 41 ∷ 42 ∷ 43 ∷ 44 ∷ 45 ∷ 46 ∷ 47 ∷ 48 ∷ 49 ∷ 50 ∷ 51 ∷ 52 ∷ 60 ∷ 61 ∷ 62 ∷ 63 ∷ 64 ∷ 65 ∷ 66 ∷ 67 ∷ 68 ∷ 69 ∷ 81 ∷ 82 ∷ 83 ∷ []

pub two_is : (k : ℕ) → among twos k ≡ true → TwoIs k
unfolding value_op op_of core_op two_op glsl_op two_glsl two binary compared logic binary_word compare_word logic_truth
two_is k h = keys TwoIs twos k h (
  (λ a b. refl),
  (
    (λ a b. refl),
    (
      (λ a b. refl),
      (
        (λ a b. refl),
        (
          (λ a b. refl),
          (
            (λ a b. refl),
            (
              (λ a b. refl),
              (
                (λ a b. refl),
                (
                  (λ a b. refl),
                  (
                    (λ a b. refl),
                    (
                      (λ a b. refl),
                      (
                        (λ a b. refl),
                        (
                          (λ a b. refl),
                          (
                            (λ a b. refl),
                            (
                              (λ a b. refl),
                              (
                                (λ a b. refl),
                                (
                                  (λ a b. refl),
                                  (
                                    (λ a b. refl),
                                    ((λ a b. refl), ((λ a b. refl), ((λ a b. refl), ((λ a b. refl), ((λ a b. refl), ((λ a b. refl), ((λ a b. refl), ((λ a b. refl), tt)))))))),
                                  ),
                                ),
                              ),
                            ),
                          ),
                        ),
                      ),
                    ),
                  ),
                ),
              ),
            ),
          ),
        ),
      ),
    ),
  ),
)

abbrev ThreeIs : ℕ → Type 0
ThreeIs k = (a b c : Value) → value_op (op_of k) (a ∷ b ∷ c ∷ []) ≡ some (three k a b c)

pub three-is : (k : ℕ) → among (90 ∷ 91 ∷ 92 ∷ []) k ≡ true → ThreeIs k
unfolding value_op op_of core_op three_op three chosen extracted extract_word
three-is k h = keys ThreeIs (90 ∷ 91 ∷ 92 ∷ []) k h ((λ a b c. refl), ((λ a b c. refl), ((λ a b c. refl), tt)))

pub four_is : (a b c d : Value) → value_op (op_of 93) (a ∷ b ∷ c ∷ d ∷ []) ≡ some (inserted_value a b c d)
unfolding value_op op_of core_op four_op inserted_value insert_word
four_is a b c d = refl

-- no opcode of the table is one that reading takes for something else than an operation
unfoldable pub plain : Op → Bool
plain (Core n) =
    not (eqb n 43) && (not (eqb n 41) && (not (eqb n 42) && (not (eqb n 61) && (not (eqb n 62) && (not (eqb n 65) && (not (eqb n 12) && (not (eqb n 247) && (not (eqb n 250) && (not (eqb n 249) && ltb n 65536)))))))))
plain (Glsl n) = true

plain-all : (rs : List Row) → all (λ r. plain r.op) rs ≡ true → (k : ℕ) → plain (lookup rs k) ≡ true
unfolding plain
plain-all [] h k = refl
plain-all (r ∷ rs) h k = go (eqb k r.kind) (and_left (plain r.op) _ h) (plain-all rs (and_right (plain r.op) _ h) k)
  where
    go : (b : Bool) → plain r.op ≡ true → plain (lookup rs k) ≡ true → plain (cond b r.op (lookup rs k)) ≡ true
    go true x y = x
    go false x y = y

pub plain_op : (k : ℕ) → plain (op_of k) ≡ true
unfolding op_of plain
plain_op k = plain-all rows refl k

-- what that says of an opcode
pub record Plain (n : ℕ) : Type 0 where
  pub const : eqb n 43 ≡ false
  pub yes : eqb n 41 ≡ false
  pub no : eqb n 42 ≡ false
  pub load : eqb n 61 ≡ false
  pub store : eqb n 62 ≡ false
  pub chain : eqb n 65 ≡ false
  pub extended : eqb n 12 ≡ false
  pub merge : eqb n 247 ≡ false
  pub choice : eqb n 250 ≡ false
  pub branch : eqb n 249 ≡ false
  pub half : ltb n 65536 ≡ true

pub plain-is : (n : ℕ) → plain (Core n) ≡ true → Plain n
unfolding plain
plain-is n p =
    let p0 = and_right (not (eqb n 43)) _ p in
    let p1 = and_right (not (eqb n 41)) _ p0 in
    let p2 = and_right (not (eqb n 42)) _ p1 in
    let p3 = and_right (not (eqb n 61)) _ p2 in
    let p4 = and_right (not (eqb n 62)) _ p3 in
    let p5 = and_right (not (eqb n 65)) _ p4 in
    let p6 = and_right (not (eqb n 12)) _ p5 in
    let p7 = and_right (not (eqb n 247)) _ p6 in
    let p8 = and_right (not (eqb n 250)) _ p7 in
    let p9 = and_right (not (eqb n 249)) _ p8 in
    record {
      const = not-true (eqb n 43) (and_left (not (eqb n 43)) _ p);
      yes = not-true (eqb n 41) (and_left (not (eqb n 41)) _ p0);
      no = not-true (eqb n 42) (and_left (not (eqb n 42)) _ p1);
      load = not-true (eqb n 61) (and_left (not (eqb n 61)) _ p2);
      store = not-true (eqb n 62) (and_left (not (eqb n 62)) _ p3);
      chain = not-true (eqb n 65) (and_left (not (eqb n 65)) _ p4);
      extended = not-true (eqb n 12) (and_left (not (eqb n 12)) _ p5);
      merge = not-true (eqb n 247) (and_left (not (eqb n 247)) _ p6);
      choice = not-true (eqb n 250) (and_left (not (eqb n 250)) _ p7);
      branch = not-true (eqb n 249) (and_left (not (eqb n 249)) _ p8);
      half = p9;
    }
