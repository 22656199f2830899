-- A run tested block by block (02, #103). What the blocks say together is proved (proofs/Blocks.antt: `blocks`), so a reader need not believe this page.
use Rattle.std.specs.Prelude.{ℕ, ◌+◌, ◌-◌, List, [], ◌∷◌, ◌++◌, Bool, true, false, cond, ◌&&◌, length, take, drop, replicate, leb, eqb, Some, None}
use Rattle.strip.specs.declared.format.Layout.{Layout}
use Rattle.strip.specs.declared.format.Layout.TheVariants.{Wide}
use Rattle.strip.specs.declared.shape.Shape.{Shape}
use Rattle.strip.specs.declared.shape.Walked.{Walked}
use Rattle.strip.specs.declared.stream.Stream.{Stream}
use Rattle.strip.specs.declared.stream.Fed.{Fed}
use Rattle.strip.specs.Entry.{Read, ref_length, is_cut, read_entry}
use Rattle.strip.specs.Pass.{fresh, refused_shape, ready}
use Rattle.strip.specs.Steps.{ahead, walk}

-- the bytes of the entry that the last block cut, eight at most
abbrev pub pending : Stream → List ℕ
pending t = take t.count t.kept

-- the state that keeps these; after them stand zeros
abbrev pub padded : List ℕ → List ℕ
padded s = s ++ replicate (8 - length s) 0

abbrev pub stream_of : Layout → Shape → List ℕ → Stream
stream_of l g kept = record { layout = l; shape = g; kept = padded kept; count = length kept }

abbrev pub start_of : Layout → Stream
start_of l = stream_of l fresh []

abbrev pub refused_stream : Stream
refused_stream = stream_of Wide refused_shape []

-- reading stops, and more bytes could make an entry
abbrev pub stops : Read → Bool
stops (Some (e, n)) = false
stops None = true

abbrev pub waits : ℕ → List ℕ → Bool
waits len s = stops (read_entry len s) && is_cut s

-- nothing was refused, and the state fits together: what is kept is an entry that is cut
unfoldable pub going : Stream → Bool
going t = ready t.shape && (leb t.count 8 && waits (ref_length t.layout) (pending t))

-- after a walk: what was passed, and the state, which keeps the rest
unfoldable pub settled : Layout → Walked → List ℕ → Fed
settled l w rest = record { stream = cond (eqb w.shape.left 0) refused_stream (stream_of l w.shape rest); bytes = w.bytes; strips = w.strips }

-- a walk more, over what the first has left
abbrev pub walked_on : Layout → Walked → List ℕ → Fed
walked_on l first rest = settled l (ahead first.bytes first.strips (walk (ref_length l) first.shape rest)) (drop (walk (ref_length l) first.shape rest).bytes rest)

abbrev pub unfed : Stream → Fed
unfed t = record { stream = t; bytes = 0; strips = 0 }

-- a walk over all of these bytes
abbrev pub fed : Layout → Shape → List ℕ → Fed
fed l g s = settled l (walk (ref_length l) g s) (drop (walk (ref_length l) g s).bytes s)

-- a block more
unfoldable pub feed : Stream → List ℕ → Fed
feed t block = cond (going t) (fed t.layout t.shape (pending t ++ block)) (unfed refused_stream)

-- the run may end here
unfoldable pub at_end : Stream → Bool
at_end t = going t && (eqb t.count 0 && eqb t.shape.left 64)

-- one thing fed after another
abbrev pub then : Fed → Fed → Fed
then f h = record { stream = h.stream; bytes = f.bytes + h.bytes; strips = f.strips + h.strips }

-- blocks one after another: the last state, and what was passed in all
abbrev pub feeds : Stream → List (List ℕ) → Fed
feeds t [] = unfed t
feeds t (block ∷ blocks) = then (feed t block) (feeds (feed t block).stream blocks)

-- what they hold together
abbrev pub concat : List (List ℕ) → List ℕ
concat [] = []
concat (block ∷ blocks) = block ++ concat blocks
