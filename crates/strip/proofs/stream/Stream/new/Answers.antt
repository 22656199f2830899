use mathlib.Core.Path.{ap}
use mathlib.Core.List.{[]}
use Rattle.strip.specs.declared.shape.Shape.{Shape}
use Rattle.strip.specs.Stream.{stream_of}
use Rattle.strip.proofs.stream.Stream.new.Goals as goal

pub returns : goal.returns
returns c = ap (λ (g : Shape). stream_of c.args.layout g []) c.new.ensures
