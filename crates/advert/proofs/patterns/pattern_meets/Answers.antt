use Rattle.std.proofs.Common.{arith}
use Rattle.advert.proofs.PatternLaws.{pattern-of}
use Rattle.advert.proofs.patterns.pattern_meets.Goals as goal

pub returns : goal.returns
returns c = pattern-of _ _ _ _ c.requires (omega arith) c.some_holds.ensures
