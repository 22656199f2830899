use mathlib.Core.Path.{ap}
use mathlib.Core.List.{[]}
use Rattle.strip.specs.declared.format.Layout.TheVariants.{Wide}
use Rattle.strip.specs.declared.shape.Shape.{Shape}
use Rattle.strip.specs.Stream.{stream_of}
use Rattle.strip.proofs.stream.Stream.refused.Goals as goal

pub returns : goal.returns
returns c = ap (λ (g : Shape). stream_of Wide g []) c.refused.ensures
