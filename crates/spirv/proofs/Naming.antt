-- A plan names a value exactly where the format says that the entry makes one.
use Rattle.std.proofs.Common.{◌≡◌, ℕ, Bool, true, false, not, eqb, List, refl}
use mathlib.Core.Bool.{xor}
use Rattle.strip.specs.declared.reader.Entry.{Entry}
use Rattle.strip.specs.declared.reader.Entry.TheVariants as Of
use Rattle.strip.specs.Format.{format_of}
use Rattle.strip.specs.Entry.{kind_of, body_of}
use Rattle.strip.proofs.Table.{body_number}
use Rattle.evaluation.proofs.Laws.{cond-all}
use Rattle.spirv.specs.declared.plan.Name.{Name}
use Rattle.spirv.specs.declared.opcodes.Op.{Op}
use Rattle.spirv.specs.declared.opcodes.Op.TheVariants.{Core, Glsl}
use Rattle.spirv.specs.Opcodes.{op_of}
use Rattle.spirv.specs.Writer.{Given, lent, Plan, Silent, Known, Made, Stores, Opens, Closes, planned, operation, casting, plan_of}
use Rattle.spirv.proofs.Keys.{keys, kinds_of, kind-among}

unfoldable pub naming : Plan → Bool
naming Silent = false
naming (Known x) = true
naming (Made op t xs s) = true
naming (Stores p v) = false
naming (Opens c) = false
naming Closes = false

abbrev pub Names : ℕ → Plan → Type 0
Names k plan = naming plan ≡ not (eqb (format_of k).result 0)

names-op : (l : ℕ) (op : Op) (t : ℕ) (xs : List ℕ) (s : Bool) → naming (planned l op t xs s) ≡ true
unfolding naming planned
names-op l (Core n) t xs s = refl
names-op l (Glsl n) t xs s = refl

module _ (g : Given) (look : ℕ → Name) where
  abbrev OneNames : ℕ → ℕ → Type 0
  OneNames a k = Names k (plan_of g look (Of.One k a))

  cast-names : (k a : ℕ) → naming (casting g look k a) ≡ true
  unfolding casting naming
  cast-names k a = cond-all (λ (p : Plan). naming p ≡ true) (xor (eqb k 23) (look a).signed) _ _ (names-op (lent g 4) (op_of k) _ _ _) refl

  pub plan-names : (e : Entry) → (format_of (kind_of e)).body ≡ body_of e → Names (kind_of e) (plan_of g look e)
  unfolding plan_of operation naming kind_of body_of body_number format_of planned op_of
  plan-names (Of.Bare k) b = keys (λ (k : ℕ). Names k (plan_of g look (Of.Bare k))) (kinds_of 1) k (kind-among k (Of.Bare k) b) (refl, (refl, (refl, (refl, tt))))
  plan-names (Of.Word w) b = refl
  plan-names (Of.Cell k n) b = keys (λ (k : ℕ). Names k (plan_of g look (Of.Cell k n))) (kinds_of 3) k (kind-among k (Of.Cell k n) b) (refl, (refl, (refl, (refl, (refl, tt)))))
  plan-names (Of.Store k n r) b = keys (λ (k : ℕ). Names k (plan_of g look (Of.Store k n r))) (kinds_of 4) k (kind-among k (Of.Store k n r) b) (refl, (refl, (refl, tt)))
  plan-names (Of.One k a) b = keys (OneNames a) (kinds_of 5) k (kind-among k (Of.One k a) b)
      (refl, (refl, (refl, (refl, (cast-names 23 a, (cast-names 24 a, (refl, (refl, (refl, (refl, (refl, tt)))))))))))
  plan-names (Of.Two k x y) b = keys (λ (k : ℕ). Names k (plan_of g look (Of.Two k x y))) (kinds_of 6) k (kind-among k (Of.Two k x y) b)
      (refl, (refl, (refl, (refl, (refl, (refl, (refl, (refl, (refl, (refl, (refl, (refl, (refl, (refl, (refl, (refl, (refl, (refl, (refl, (refl, (refl, (refl, (refl, (refl, (refl, (refl, tt))))))))))))))))))))))))))
  plan-names (Of.Three k x y z) b = keys (λ (k : ℕ). Names k (plan_of g look (Of.Three k x y z))) (kinds_of 7) k (kind-among k (Of.Three k x y z) b) (refl, (refl, (refl, tt)))
  plan-names (Of.Four k x y z u) b = keys (λ (k : ℕ). Names k (plan_of g look (Of.Four k x y z u))) (kinds_of 8) k (kind-among k (Of.Four k x y z u) b) (refl, (refl, tt))
