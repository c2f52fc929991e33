use Rattle.advert.specs.Either.{text_of, both, left, rest}
use Rattle.advert.specs.Uuid.{lists_uuid}
use Rattle.laws.specs.Loops.{some}
use Rattle.std.proofs.Common.{◌≡◌, ◌≤◌, length}
use Rattle.advert.proofs.some_lists.Given as goal

abbrev pub invariant-loop-part : goal.invariant-loop-part
invariant-loop-part l =
    (l.at ≤ length (text_of l.second l.adv l.scan))
    × (some (lists_uuid l.uuid) (both l.t l.u l.adv l.scan) ≡ some (lists_uuid l.uuid) (left l.t l.u l.adv l.scan l.second l.at))

abbrev pub decreases-loop-part : goal.decreases-loop-part
decreases-loop-part l =
    rest l.adv l.scan l.second l.at
