use Rattle.std.proofs.Common.{arith}
use Rattle.advert.specs.PartsLaws.{part_end, part-short, part-past, part-found}
use Rattle.advert.proofs.lookup.part_end.Goals as goal

pub returns-then-i-n : goal.returns-then-i-n
returns-then-i-n c = part_end _ _ _ (omega arith)

pub returns-then-x-least : goal.returns-then-x-least
returns-then-x-least c = part-short _ _ _ (omega arith) (omega arith)

pub returns-then-n-i : goal.returns-then-n-i
returns-then-n-i c = part-past _ _ _ (omega arith) (omega arith)

pub returns : goal.returns
returns c = (part-found _ _ _ _ (omega arith) (omega arith) (omega arith) (omega arith), omega arith)
