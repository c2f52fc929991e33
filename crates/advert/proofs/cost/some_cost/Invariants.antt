use Rattle.advert.specs.Either.{text_of, both, left, rest, cost_left}
use Rattle.advert.specs.Pattern.{holds_at}
use Rattle.advert.specs.Cost.{octets_cost, both_cost}
use Rattle.laws.specs.Loops.{some}
use Rattle.std.proofs.Common.{◌≡◌, ◌+◌, ◌≤◌, length}
use Rattle.advert.proofs.cost.some_cost.Given as goal

abbrev pub invariant-loop-part : goal.invariant-loop-part
invariant-loop-part l =
    (l.at ≤ length (text_of l.second l.adv l.scan))
    × (some (holds_at l.start l.octets) (both l.t l.t l.adv l.scan) ≡ some (holds_at l.start l.octets) (left l.t l.t l.adv l.scan l.second l.at))
    × (both_cost l.t l.t (octets_cost l.start l.octets) (holds_at l.start l.octets) l.adv l.scan
    ≡ l.count + cost_left l.t l.t (octets_cost l.start l.octets) (holds_at l.start l.octets) l.adv l.scan l.second l.at)
    × (l.count + rest l.adv l.scan l.second l.at ≤ length l.adv + length l.scan)

abbrev pub decreases-loop-part : goal.decreases-loop-part
decreases-loop-part l =
    rest l.adv l.scan l.second l.at
