use Rattle.std.proofs.Common.{◌≡◌, ℕ, ◌<◌, Bool, false, ◌||◌, T, eqb, List, [], ◌∷◌, sym, ap, eqb→eq}
use Rattle.strip.proofs.Tests.{among, NoneOf, every, outside}
use Rattle.spirv.specs.declared.opcodes.Op.{Op}
use Rattle.spirv.specs.declared.opcodes.Op.TheVariants.{Core, Glsl}
use Rattle.spirv.specs.Opcodes.{op_of}
use Rattle.spirv.proofs.opcodes.op_of.Goals as goal

-- the keys of the match, the last first
kinds : List ℕ
kinds = 93 ∷ 92 ∷ 91 ∷ 90 ∷ 83 ∷ 82 ∷ 81 ∷ 80 ∷ 69 ∷ 68 ∷ 67 ∷ 66 ∷ 65 ∷ 64 ∷ 63 ∷ 62 ∷ 61 ∷ 60 ∷ 52 ∷ 51 ∷ 50 ∷ 49 ∷ 48 ∷ 47 ∷ 46 ∷ 45 ∷ 44 ∷ 43 ∷ 42 ∷ 41 ∷ 40 ∷ 27 ∷ 26 ∷ 25 ∷ 24 ∷ 23 ∷ 22 ∷ 21 ∷ 20 ∷ []

nop : Op → Bool
nop (Core n) = eqb n 0
nop (Glsl n) = false

nop-is : (o : Op) → T (nop o) → Core 0 ≡ o
unfolding nop
nop-is (Core n) t = ap Core (sym (eqb→eq n 0 t))
nop-is (Glsl n) t = absurd t

-- any other byte is in no row of the table
computed : T (every (λ k. among kinds k || nop (op_of k)) 0 256)
unfolding kinds nop op_of
computed = tt

unlisted : (k : ℕ) → k < 256 → NoneOf kinds k → Core 0 ≡ op_of k
unlisted k h none = nop-is (op_of k) (outside kinds (λ k. nop (op_of k)) computed k h none)

pub returns-in_default : goal.returns-in_default
unfolding op_of kinds
returns-in_default c = unlisted _ c.ranges.k.fits c.in_default.in_default-own.rest
