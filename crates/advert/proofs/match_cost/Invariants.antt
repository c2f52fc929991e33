use Rattle.std.proofs.Common.{◌≡◌, ◌-◌, length, drop}
use Rattle.laws.specs.Loops.{some}
use Rattle.advert.specs.Parts.{parts}
use Rattle.advert.specs.Pattern.{patterns_meet, pattern_meets}
use Rattle.advert.proofs.CostLaws.{Counted}
use Rattle.advert.proofs.match_cost.Given as goal

abbrev pub invariant-loop-i : goal.invariant-loop-i
invariant-loop-i l =
    (patterns_meet l.condition l.adv l.scan ≡ some (pattern_meets l.adv l.scan) (parts 3 (drop l.i l.condition)))
    × Counted l.condition l.adv l.scan l.i l.count

abbrev pub decreases-loop-i : goal.decreases-loop-i
decreases-loop-i l =
    length l.condition - l.i
