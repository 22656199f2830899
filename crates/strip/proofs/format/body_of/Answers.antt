use mathlib.Core.List.{List, [], ◌∷◌}
use mathlib.Core.Bool.{Bool, true, false, not, ◌||◌}
use mathlib.Core.Path.{◌≡◌, refl, sym, ap}
use Prim.Native.Nat.{ℕ, ◌<◌}
use lib.Dec.{T}
use Rattle.strip.specs.declared.format.Body.TheVariants.{Unknown}
use Rattle.strip.specs.Format.{Format, rows, format_of}
use Rattle.strip.proofs.Tests.{among, NoneOf, every, outside}
use Rattle.strip.proofs.Table.{covered, uncovered}
use borrow.Author.Rules.{rules}
use Rattle.strip.proofs.format.body_of.Goals as goal

-- the keys of the match, the last first
kinds : List ℕ
kinds = 255 ∷ 110 ∷ 101 ∷ 100 ∷ 93 ∷ 92 ∷ 91 ∷ 90 ∷ 83 ∷ 82 ∷ 81 ∷ 80 ∷ 69 ∷ 68 ∷ 67 ∷ 66 ∷ 65 ∷ 64 ∷ 63 ∷ 62 ∷ 61 ∷ 60 ∷ 52 ∷ 51 ∷ 50 ∷ 49 ∷ 48 ∷ 47 ∷ 46 ∷ 45 ∷ 44 ∷ 43 ∷ 42 ∷ 41 ∷ 40 ∷ 27 ∷ 26 ∷ 25 ∷ 24 ∷ 23 ∷ 22 ∷ 21 ∷ 20 ∷ 12 ∷ 11 ∷ 10 ∷ 9 ∷ 8 ∷ 7 ∷ 6 ∷ 5 ∷ 4 ∷ 3 ∷ 2 ∷ 1 ∷ []

-- any other byte is in no row of the table
computed : T (every (λ k. among kinds k || not (covered rows k)) 0 256)
unfolding kinds covered
computed = tt

unlisted : (k : ℕ) → k < 256 → NoneOf kinds k → Unknown ≡ (format_of k).body
unlisted k h none = sym (ap (λ (f : Format). f.body) (uncovered k (go (covered rows k) (outside kinds (λ k. not (covered rows k)) computed k h none))))
  where
    go : (b : Bool) → T (not b) → b ≡ false
    go true t = absurd t
    go false t = refl

pub returns-in-1 : goal.returns-in-1
unfolding kinds format_of
returns-in-1 c = rw c.in-1.is

pub returns-in-2 : goal.returns-in-2
unfolding kinds format_of
returns-in-2 c = rw c.in-2.is

pub returns-in-3 : goal.returns-in-3
unfolding kinds format_of
returns-in-3 c = rw c.in-3.is

pub returns-in-4 : goal.returns-in-4
unfolding kinds format_of
returns-in-4 c = rw c.in-4.is

pub returns-in-5 : goal.returns-in-5
unfolding kinds format_of
returns-in-5 c = rw c.in-5.is

pub returns-in-6 : goal.returns-in-6
unfolding kinds format_of
returns-in-6 c = rw c.in-6.is

pub returns-in-7 : goal.returns-in-7
unfolding kinds format_of
returns-in-7 c = rw c.in-7.is

pub returns-in-8 : goal.returns-in-8
unfolding kinds format_of
returns-in-8 c = rw c.in-8.is

pub returns-in-9 : goal.returns-in-9
unfolding kinds format_of
returns-in-9 c = rw c.in-9.is

pub returns-in-10 : goal.returns-in-10
unfolding kinds format_of
returns-in-10 c = rw c.in-10.is

pub returns-in-11 : goal.returns-in-11
unfolding kinds format_of
returns-in-11 c = rw c.in-11.is

pub returns-in-12 : goal.returns-in-12
unfolding kinds format_of
returns-in-12 c = rw c.in-12.is

pub returns-in-20 : goal.returns-in-20
unfolding kinds format_of
returns-in-20 c = rw c.in-20.is

pub returns-in-21 : goal.returns-in-21
unfolding kinds format_of
returns-in-21 c = rw c.in-21.is

pub returns-in-22 : goal.returns-in-22
unfolding kinds format_of
returns-in-22 c = rw c.in-22.is

pub returns-in-23 : goal.returns-in-23
unfolding kinds format_of
returns-in-23 c = rw c.in-23.is

pub returns-in-24 : goal.returns-in-24
unfolding kinds format_of
returns-in-24 c = rw c.in-24.is

pub returns-in-25 : goal.returns-in-25
unfolding kinds format_of
returns-in-25 c = rw c.in-25.is

pub returns-in-26 : goal.returns-in-26
unfolding kinds format_of
returns-in-26 c = rw c.in-26.is

pub returns-in-27 : goal.returns-in-27
unfolding kinds format_of
returns-in-27 c = rw c.in-27.is

pub returns-in-40 : goal.returns-in-40
unfolding kinds format_of
returns-in-40 c = rw c.in-40.is

pub returns-in-41 : goal.returns-in-41
unfolding kinds format_of
returns-in-41 c = rw c.in-41.is

pub returns-in-42 : goal.returns-in-42
unfolding kinds format_of
returns-in-42 c = rw c.in-42.is

pub returns-in-43 : goal.returns-in-43
unfolding kinds format_of
returns-in-43 c = rw c.in-43.is

pub returns-in-44 : goal.returns-in-44
unfolding kinds format_of
returns-in-44 c = rw c.in-44.is

pub returns-in-45 : goal.returns-in-45
unfolding kinds format_of
returns-in-45 c = rw c.in-45.is

pub returns-in-46 : goal.returns-in-46
unfolding kinds format_of
returns-in-46 c = rw c.in-46.is

pub returns-in-47 : goal.returns-in-47
unfolding kinds format_of
returns-in-47 c = rw c.in-47.is

pub returns-in-48 : goal.returns-in-48
unfolding kinds format_of
returns-in-48 c = rw c.in-48.is

pub returns-in-49 : goal.returns-in-49
unfolding kinds format_of
returns-in-49 c = rw c.in-49.is

pub returns-in-50 : goal.returns-in-50
unfolding kinds format_of
returns-in-50 c = rw c.in-50.is

pub returns-in-51 : goal.returns-in-51
unfolding kinds format_of
returns-in-51 c = rw c.in-51.is

pub returns-in-52 : goal.returns-in-52
unfolding kinds format_of
returns-in-52 c = rw c.in-52.is

pub returns-in-60 : goal.returns-in-60
unfolding kinds format_of
returns-in-60 c = rw c.in-60.is

pub returns-in-61 : goal.returns-in-61
unfolding kinds format_of
returns-in-61 c = rw c.in-61.is

pub returns-in-62 : goal.returns-in-62
unfolding kinds format_of
returns-in-62 c = rw c.in-62.is

pub returns-in-63 : goal.returns-in-63
unfolding kinds format_of
returns-in-63 c = rw c.in-63.is

pub returns-in-64 : goal.returns-in-64
unfolding kinds format_of
returns-in-64 c = rw c.in-64.is

pub returns-in-65 : goal.returns-in-65
unfolding kinds format_of
returns-in-65 c = rw c.in-65.is

pub returns-in-66 : goal.returns-in-66
unfolding kinds format_of
returns-in-66 c = rw c.in-66.is

pub returns-in-67 : goal.returns-in-67
unfolding kinds format_of
returns-in-67 c = rw c.in-67.is

pub returns-in-68 : goal.returns-in-68
unfolding kinds format_of
returns-in-68 c = rw c.in-68.is

pub returns-in-69 : goal.returns-in-69
unfolding kinds format_of
returns-in-69 c = rw c.in-69.is

pub returns-in-80 : goal.returns-in-80
unfolding kinds format_of
returns-in-80 c = rw c.in-80.is

pub returns-in-81 : goal.returns-in-81
unfolding kinds format_of
returns-in-81 c = rw c.in-81.is

pub returns-in-82 : goal.returns-in-82
unfolding kinds format_of
returns-in-82 c = rw c.in-82.is

pub returns-in-83 : goal.returns-in-83
unfolding kinds format_of
returns-in-83 c = rw c.in-83.is

pub returns-in-90 : goal.returns-in-90
unfolding kinds format_of
returns-in-90 c = rw c.in-90.is

pub returns-in-91 : goal.returns-in-91
unfolding kinds format_of
returns-in-91 c = rw c.in-91.is

pub returns-in-92 : goal.returns-in-92
unfolding kinds format_of
returns-in-92 c = rw c.in-92.is

pub returns-in-93 : goal.returns-in-93
unfolding kinds format_of
returns-in-93 c = rw c.in-93.is

pub returns-in-100 : goal.returns-in-100
unfolding kinds format_of
returns-in-100 c = rw c.in-100.is

pub returns-in-101 : goal.returns-in-101
unfolding kinds format_of
returns-in-101 c = rw c.in-101.is

pub returns-in-110 : goal.returns-in-110
unfolding kinds format_of
returns-in-110 c = rw c.in-110.is

pub returns-in-255 : goal.returns-in-255
unfolding kinds format_of
returns-in-255 c = rw c.in-255.is

pub returns-in_default : goal.returns-in_default
unfolding kinds format_of
returns-in_default c = unlisted c.args.k (search rules) c.in_default.in_default-own.rest
