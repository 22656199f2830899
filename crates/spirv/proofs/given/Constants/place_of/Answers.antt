use Rattle.std.proofs.Common.{rules, tests, ◌∙◌}
use Rattle.std.proofs.lemmas.Iterator.{YieldsList-from_slice}
use Rattle.std.proofs.lemmas.Iterator.Search.{position_from_yields_List}
use Rattle.spirv.specs.contracts.given.ConstantPartialEq.TheImpl.{ghosts}
use Rattle.spirv.proofs.Listed.{found}
use Rattle.spirv.proofs.given.Constants.place_of.Goals as goal

pub returns-clause-value : goal.returns-clause-value
returns-clause-value c = position_from_yields_List (λ x. ghosts.eq x c.args.k) _ _ _ c.position.ensures.ran (YieldsList-from_slice c.as_slice.result.now cc) (λ x b q k. search (rules, tests)) ∙ found c.args.k _ _ c.as_slice.ensures.same
