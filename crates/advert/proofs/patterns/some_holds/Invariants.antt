use Rattle.advert.specs.Either.{text_of, both, left, rest}
use Rattle.advert.specs.Pattern.{holds_at}
use Rattle.laws.specs.Loops.{some}
use Rattle.std.proofs.Common.{◌≡◌, ◌≤◌, length}
use Rattle.advert.proofs.patterns.some_holds.Given as goal

abbrev pub invariant-loop-part : goal.invariant-loop-part
invariant-loop-part l =
    (l.at ≤ length (text_of l.second l.adv l.scan))
    × (some (holds_at l.start l.octets) (both l.t l.t l.adv l.scan) ≡ some (holds_at l.start l.octets) (left l.t l.t l.adv l.scan l.second l.at))

abbrev pub decreases-loop-part : goal.decreases-loop-part
decreases-loop-part l =
    rest l.adv l.scan l.second l.at
