use Rattle.std.proofs.Common.{arith}
use Rattle.advert.proofs.PatternLaws.{pattern-of}
use Rattle.advert.proofs.CostLaws.{cost-of}
use Rattle.advert.proofs.cost.pattern_cost.Goals as goal

pub returns : goal.returns
returns c = let h = c.requires in (
  pattern-of _ _ _ _ h (omega arith) c.some_cost.ensures.0,
  cost-of _ _ _ _ h (omega arith) c.some_cost.ensures.1,
)
