use mathlib.Core.Path.{◌≡◌, refl}
use mathlib.Core.Bool.{true, false}
use mathlib.Core.List.{[], ◌∷◌}
use native.Mathlib.Omega.{arith}
use Rattle.strip.specs.Format.{format_of}
use Rattle.strip.specs.Entry.{known}
use Rattle.strip.proofs.Table.{known_within}
use Rattle.strip.proofs.reader.is_kind.Goals as goal

known-110 : true ≡ known (format_of 110).body
unfolding format_of
known-110 = refl

known-255 : true ≡ known (format_of 255).body
unfolding format_of
known-255 = refl

pub returns-in-1-to-12 : goal.returns-in-1-to-12
returns-in-1-to-12 c = grind (arith, known-110, known-255)

pub returns-in-1-to-12-2 : goal.returns-in-1-to-12-2
unfolding format_of
returns-in-1-to-12-2 c = known_within 1 12 [] true tt c.args.k (omega arith) (omega arith) tt

pub returns-in-1-to-12-3 : goal.returns-in-1-to-12-3
unfolding format_of
returns-in-1-to-12-3 c = known_within 20 8 [] true tt c.args.k (omega arith) (omega arith) tt

pub returns-in-1-to-12-4 : goal.returns-in-1-to-12-4
unfolding format_of
returns-in-1-to-12-4 c = known_within 40 13 [] true tt c.args.k (omega arith) (omega arith) tt

pub returns-in-1-to-12-5 : goal.returns-in-1-to-12-5
unfolding format_of
returns-in-1-to-12-5 c = known_within 60 10 [] true tt c.args.k (omega arith) (omega arith) tt

pub returns-in-1-to-12-6 : goal.returns-in-1-to-12-6
unfolding format_of
returns-in-1-to-12-6 c = known_within 80 4 [] true tt c.args.k (omega arith) (omega arith) tt

pub returns-in-1-to-12-7 : goal.returns-in-1-to-12-7
unfolding format_of
returns-in-1-to-12-7 c = known_within 90 4 [] true tt c.args.k (omega arith) (omega arith) tt

pub returns-in-1-to-12-8 : goal.returns-in-1-to-12-8
unfolding format_of
returns-in-1-to-12-8 c = known_within 100 2 [] true tt c.args.k (omega arith) (omega arith) tt

pub returns-in_default : goal.returns-in_default
unfolding format_of
returns-in_default c = known_within 0 1 [] false tt c.args.k (omega arith) (omega arith) tt

pub returns-in_default-2 : goal.returns-in_default-2
unfolding format_of
returns-in_default-2 c = known_within 13 7 [] false tt c.args.k (omega arith) (omega arith) tt

pub returns-in_default-3 : goal.returns-in_default-3
unfolding format_of
returns-in_default-3 c = known_within 28 12 [] false tt c.args.k (omega arith) (omega arith) tt

pub returns-in_default-4 : goal.returns-in_default-4
unfolding format_of
returns-in_default-4 c = known_within 53 7 [] false tt c.args.k (omega arith) (omega arith) tt

pub returns-in_default-5 : goal.returns-in_default-5
unfolding format_of
returns-in_default-5 c = known_within 70 10 [] false tt c.args.k (omega arith) (omega arith) tt

pub returns-in_default-6 : goal.returns-in_default-6
unfolding format_of
returns-in_default-6 c = known_within 84 6 [] false tt c.args.k (omega arith) (omega arith) tt

pub returns-in_default-7 : goal.returns-in_default-7
unfolding format_of
returns-in_default-7 c = known_within 94 6 [] false tt c.args.k (omega arith) (omega arith) tt

pub returns-in_default-8 : goal.returns-in_default-8
unfolding format_of
returns-in_default-8 c = known_within 102 154 (110 ∷ 255 ∷ []) false tt c.args.k (omega arith) (omega arith) ((tt, λ (e : c.args.k ≡ 255). grind arith), λ (e : c.args.k ≡ 110). grind arith)
