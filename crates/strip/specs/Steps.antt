-- The shape test by steps (02, #103). A step is given a state of fixed size and only the bytes not yet passed; it hands back the next state and
-- how many bytes it passed. That the steps end in `shape_ok` is proved (proofs/Steps.antt), so a reader need not believe this page.
use Rattle.std.specs.Prelude.{ℕ, zero, suc, pred, ◌+◌, List, [], ◌∷◌, cond, drop, eqb, Some, None}
use Rattle.strip.specs.declared.reader.Entry.{Entry}
use Rattle.strip.specs.declared.reader.Entry.TheVariants.{Bare, Word, Cell, Store, One, Two, Three, Four}
use Rattle.strip.specs.declared.shape.Shape.{Shape}
use Rattle.strip.specs.declared.shape.Step.{Step}
use Rattle.strip.specs.declared.shape.Walked.{Walked}
use Rattle.strip.specs.Entry.{Read, is_cut, read_entry}
use Rattle.strip.specs.Pass.{refused_shape, ready, stepped}

-- no byte is passed
abbrev pub still : Shape → Step
still g = record { shape = g; bytes = 0 }

-- an entry that was read is passed or refused; `stop` is the answer where reading stops
unfoldable pub step_by : Shape → Step → Read → Step
step_by g stop (Some (e, n)) = cond (eqb (stepped g e).left 0) (still refused_shape) (record { shape = stepped g e; bytes = n })
step_by g stop None = stop

-- a state that refused, or that does not fit together, is refused whatever comes
unfoldable pub step_or : ℕ → Step → Shape → List ℕ → Step
step_or len stop g s = cond (ready g) (step_by g stop (read_entry len s)) (still refused_shape)

-- a step over the rest of a run: an entry that is cut is refused
abbrev pub step : ℕ → Shape → List ℕ → Step
step len g s = step_or len (still refused_shape) g s

-- a step over a part of the rest: where the entry is cut, more bytes are needed, and the state stays
abbrev pub step_part : ℕ → Shape → List ℕ → Step
step_part len g s = step_or len (still (cond (is_cut s) g refused_shape)) g s

-- at most n steps over the rest of a run, each over what the one before it left
unfoldable pub steps : ℕ → ℕ → Shape → List ℕ → Shape
steps len zero g s = g
steps len (suc n) g [] = g
steps len (suc n) g (b ∷ s) = steps len n (step len g (b ∷ s)).shape (drop (step len g (b ∷ s)).bytes (b ∷ s))

-- the state at the end of steps, how many bytes they passed and how many strips ended; and the same where some came before
abbrev pub ahead : ℕ → ℕ → Walked → Walked
ahead bytes strips w = record { shape = w.shape; bytes = bytes + w.bytes; strips = strips + w.strips }

abbrev pub halted : Step → Walked
halted p = record { shape = p.shape; bytes = 0; strips = 0 }

-- a strip ended where 64 entries may come
abbrev pub ends : Shape → ℕ
ends g = cond (eqb g.left 64) 1 0

-- the same of an entry that was passed
abbrev pub end_of : Entry → ℕ
end_of (Bare k) = cond (eqb k 255) 1 0
end_of (Word w) = 0
end_of (Cell k n) = 0
end_of (Store k n r) = 0
end_of (One k a) = 0
end_of (Two k a b) = 0
end_of (Three k a b c) = 0
end_of (Four k a b c d) = 0

-- after a step: it passed nothing, or the steps after it, the first of which skips what it passed
abbrev pub onward : (Shape → ℕ → Walked) → Step → Walked
onward rest p = cond (eqb p.bytes 0) (halted p) (ahead p.bytes (ends p.shape) (rest p.shape (pred p.bytes)))

-- steps over a part of a run, from byte i of it on, until one passes nothing
unfoldable pub walk_from : ℕ → Shape → ℕ → List ℕ → Walked
walk_from len g i [] = halted (step_part len g [])
walk_from len g zero (b ∷ s) = onward (λ h i. walk_from len h i s) (step_part len g (b ∷ s))
walk_from len g (suc i) (b ∷ s) = walk_from len g i s

abbrev pub walk : ℕ → Shape → List ℕ → Walked
walk len g s = walk_from len g 0 s
