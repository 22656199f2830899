-- What a read of the next record gives.
use Rattle.std.specs.Prelude.{ℕ, ◌≤◌, ⊤}
use Rattle.replay.specs.declared.Got.{Got}
use Rattle.replay.specs.declared.Got.TheVariants.{Record, Cut, End}

-- its strip is at most so long
abbrev pub IsWithin : ℕ → Got → Type 0
IsWithin most (Record length) = length ≤ most
IsWithin most Cut = ⊤
IsWithin most End = ⊤
