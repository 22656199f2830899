-- The state of a test block by block (02, #103) in bytes, for a C caller to lend: numbers in so many bytes, little-endian.
use Rattle.std.specs.Prelude.{ℕ, List, ◌++◌, cond, not, length, get_or, take, drop, eqb}
use Rattle.strip.specs.declared.format.Layout.{Layout}
use Rattle.strip.specs.declared.format.Layout.TheVariants.{Wide, Narrow}
use Rattle.strip.specs.declared.stream.Stream.{Stream}
use Rattle.strip.specs.Entry.{ref_length, number_bytes, number_at}
use Rattle.strip.specs.Stream.{refused_stream}

abbrev pub state_length : ℕ
state_length = 45

-- The length of a reference, how many entries may come, whether the block is open, how many values there are, how many bytes are kept: a byte each;
-- the bytes that are kept, eight; the values of each kind, eight bytes each.
unfoldable pub state_bytes : Stream → List ℕ
state_bytes t =
    number_bytes 1 (ref_length t.layout)
    ++ number_bytes 1 t.shape.left
    ++ number_bytes 1 (cond t.shape.inside 1 0)
    ++ number_bytes 1 t.shape.values
    ++ number_bytes 1 t.count
    ++ t.kept
    ++ number_bytes 8 t.shape.words
    ++ number_bytes 8 t.shape.truths
    ++ number_bytes 8 t.shape.slots
    ++ number_bytes 8 t.shape.addresses

abbrev pub state_in : Layout → List ℕ → Stream
state_in l s = record {
  layout = l;
  shape = record {
    left = get_or s 1 0;
    inside = not (eqb (get_or s 2 0) 0);
    values = get_or s 3 0;
    words = number_at 8 s 13;
    truths = number_at 8 s 21;
    slots = number_at 8 s 29;
    addresses = number_at 8 s 37;
  };
  kept = take 8 (drop 5 s);
  count = get_or s 4 0;
}

-- the first byte says which layout; bytes with another one, or of another length, are a state that refused
abbrev pub state_by : ℕ → List ℕ → Stream
state_by len s = cond (eqb len (ref_length Wide)) (state_in Wide s) (cond (eqb len (ref_length Narrow)) (state_in Narrow s) refused_stream)

unfoldable pub state_of : List ℕ → Stream
state_of s = cond (eqb (length s) state_length) (state_by (get_or s 0 0) s) refused_stream
