use mathlib.Core.Path.{◌≡◌}
use mathlib.Core.List.{List}
use Prim.Native.Nat.{ℕ, ◌+◌, ◌*◌}
use lib.ListN.{take}
use Rattle.strip.specs.Entry.{ref_length, refs_bytes}
use Rattle.strip.specs.Write.{Puts}
use Rattle.strip.proofs.writer.put_refs.Given as goal

-- the first references stand, and the next one comes after them
pub record First (out₀ : List ℕ) (at len : ℕ) (refs : List ℕ) (i place : ℕ) (out : List ℕ) : Type 0 where
  pub next : place ≡ at + i * len
  pub stand : Puts out₀ at (refs_bytes len (take i refs)) out

abbrev pub invariant-loop-r : goal.invariant-loop-r
invariant-loop-r l = First l.fn.out l.at (ref_length l.layout) l.refs l.r-index l.place l.out
