-- The passes by which the code converts a run: that they give `conversion` is proved, so a reader need not believe this page.
use Rattle.std.specs.Prelude.{ℕ, ◌≡◌, Bool, false, cond, List, [], ◌∷◌, ◌++◌, length, drop, Option, Some, None}
use Rattle.std.proofs.lemmas.List.Edits.{sets}
use Rattle.strip.specs.declared.reader.Entry.{Entry}
use Rattle.strip.specs.declared.shape.Shape.{Shape}
use Rattle.strip.specs.Entry.{Read, encode}
use Rattle.strip.specs.Shape.{shape_ok}
use Rattle.strip.specs.Pass.{stepped}
use Rattle.convert.specs.Convert.{converted}

-- the entries that were read, with references of so many bytes
unfoldable pub rewritten : ℕ → List Read → List ℕ
rewritten to [] = []
rewritten to (Some (e, n) ∷ rs) = encode to e ++ rewritten to rs
rewritten to (None ∷ rs) = []

-- a turn tests an entry, or writes it at a place of the room
pub record Turns (to : ℕ) (g : Shape) (writing : Bool) (e : Entry) (out : List ℕ) (at : ℕ) (out' : List ℕ) (r : Shape) : Type 0 where
  pub shape : r ≡ cond writing g (stepped g e)
  pub list : out' ≡ cond writing (sets out at (encode to e)) out

-- the length of what a run becomes, none where it is not well-formed
unfoldable pub measured : ℕ → ℕ → List ℕ → Option ℕ
measured from to run = cond (shape_ok from run) (Some (length (converted from to run))) None

-- a pass measures the run and touches nothing, or writes it to the room's start
pub record Passes (from to : ℕ) (run : List ℕ) (writing : Bool) (out out' : List ℕ) (r : Option ℕ) : Type 0 where
  pub size : writing ≡ false → r ≡ measured from to run
  pub list : out' ≡ cond writing (converted from to run ++ drop (length (converted from to run)) out) out
